-- `construction::collect` meets its contract. The loop's invariant: the marked positions below p are written, and j counts them.
-- Assumes nothing.
use Rattle.construction.proofs.Collection.{Collecting}
use Rattle.construction.proofs.collect.Given as goal

abbrev pub invariant-loop-p : goal.invariant-loop-p
invariant-loop-p l = Collecting l.row l.positions l.j l.p
