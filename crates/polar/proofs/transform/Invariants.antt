-- `polar::transform` meets its contract. The loop's invariant: after j stages each block of 2 ^ j entries holds its transform.
-- Assumes nothing.
use Rattle.polar.proofs.Stages.{Staged}
use Rattle.polar.proofs.transform.Given as goal

abbrev pub invariant-loop-j : goal.invariant-loop-j
invariant-loop-j l = Staged l.n l.initial.row l.j l.row
