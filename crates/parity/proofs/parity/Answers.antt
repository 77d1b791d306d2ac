-- `parity::parity` meets its contract.
-- Assumes nothing.
use native.Mathlib.Omega.{arith}
use Rattle.parity.proofs.Register.{holds-started, holds_more, holds-parity}
use Rattle.parity.proofs.parity.Goals as goal

pub loop-bit-init : goal.loop-bit-init
loop-bit-init c = holds-started

pub loop-bit-preserved : goal.loop-bit-preserved
loop-bit-preserved c =
    holds_more c.loop-bit.bit-index c.loop-bit.register c.feed-register.result c.args.payload.now (omega arith) c.loop-bit.invariant c.feed-register.ensures

pub returns : goal.returns
returns c =
    holds-parity c.loop-bit.bit-index c.loop-bit.register _ c.requires (omega arith) c.loop-bit.invariant
