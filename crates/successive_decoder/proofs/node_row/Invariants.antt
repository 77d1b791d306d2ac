-- `successive_decoder::node_row` meets its contract. The loop's invariant: the first i values of the new row stand in the array.
-- Assumes nothing.
use Rattle.successive_decoder.proofs.Levels.{Making}
use Rattle.successive_decoder.proofs.node_row.Given as goal

abbrev pub invariant-loop-i : goal.invariant-loop-i
invariant-loop-i g l = Making (λ k a b r. goal.F-post g l.node k a b r) l.half l.initial.work l.work l.i
