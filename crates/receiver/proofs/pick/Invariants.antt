-- `receiver::pick` meets its contract.
-- Assumes nothing.
use Rattle.nr.specs.Rows.{entries}
use Rattle.rows.proofs.Filling.{Filling}
use Rattle.receiver.proofs.pick.Given as goal

abbrev pub invariant-loop-i : goal.invariant-loop-i
invariant-loop-i l = Filling l.initial.bits (entries l.positions l.row) l.bits l.i
