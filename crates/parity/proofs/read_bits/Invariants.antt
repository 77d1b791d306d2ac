-- `parity::read_bits` meets its contract.
-- Assumes nothing.
use Rattle.parity.proofs.Register.{Read}
use Rattle.parity.proofs.read_bits.Given as goal

abbrev pub invariant-loop-bit : goal.invariant-loop-bit
invariant-loop-bit l = Read l.row l.bit-index l.word
