-- `parity::read_bits` meets its contract.
-- Assumes nothing.
use native.Mathlib.Omega.{arith}
use Rattle.parity.proofs.Register.{read_more, read_all}
use Rattle.parity.proofs.read_bits.Goals as goal

pub returns : goal.returns
returns c = read_all c.loop-bit.invariant (omega (arith, c.requires.0)) c.requires.0

pub loop-bit-preserved : goal.loop-bit-preserved
loop-bit-preserved c =
    rw c.from.ensures (read_more c.loop-bit.invariant (omega arith) c.requires.0 c.requires.1)
