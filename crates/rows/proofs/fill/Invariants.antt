-- `rows::fill` meets its contract.
-- Assumes nothing.
use lib.ListN.{length, replicate}
use Rattle.rows.proofs.Filling.{Filling}
use Rattle.rows.proofs.fill.Given as goal

abbrev pub invariant-loop-x : goal.invariant-loop-x
invariant-loop-x g l = Filling l.initial.row (replicate (length l.initial.row) l.value) l.row l.x-index
