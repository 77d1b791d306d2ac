-- `rows::copy` meets its contract.
-- Assumes nothing.
use Rattle.rows.proofs.Filling.{Filling}
use Rattle.rows.proofs.copy.Given as goal

abbrev pub invariant-loop-i : goal.invariant-loop-i
invariant-loop-i g l = Filling l.initial.to l.from l.to l.i
