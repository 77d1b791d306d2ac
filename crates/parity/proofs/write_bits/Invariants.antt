-- `parity::write_bits` meets its contract.
-- Assumes nothing.
use Rattle.nr.specs.Rows.{msb_first}
use Rattle.rows.proofs.Filling.{Filling}
use Rattle.parity.proofs.write_bits.Given as goal

abbrev pub invariant-loop-i : goal.invariant-loop-i
invariant-loop-i l = Filling l.initial.row (msb_first 24 l.word) l.row l.i
