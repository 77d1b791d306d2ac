-- `parity::parity` meets its contract.
-- Assumes nothing.
use lib.ListN.{take}
use Rattle.parity.specs.Register.{Holds}
use Rattle.parity.proofs.Register.{taken_all, started}
use Rattle.parity.proofs.parity.Given as goal

abbrev pub invariant-loop-bit : goal.invariant-loop-bit
invariant-loop-bit l = Holds (taken_all started (take l.bit-index l.payload)) l.register
