-- `Registers::start` meets its contract. The loop's invariant: after k turns the registers are 16 * k terms on.
-- Assumes nothing.
use Rattle.std.proofs.Common.{◌+◌, ◌*◌, arith, refl}
use Rattle.nr.specs.Scrambling.{after}
use Rattle.scrambling.proofs.Ahead.{further}
use Rattle.scrambling.proofs.Registers.start.Goals as goal

pub loop-init : goal.loop-init
unfolding after
loop-init c = (refl, refl)

pub loop-preserved : goal.loop-preserved
loop-preserved c =
    let k = c.loop.counter in
    further (16 * k) 16 (16 * (k + 1)) c.args.self c.loop.later c.ahead-later.result (omega arith) c.loop.invariant c.ahead-later.ensures
