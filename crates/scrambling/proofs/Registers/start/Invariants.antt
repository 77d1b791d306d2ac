-- `Registers::start` meets its contract. The loop's invariant: after k turns the registers are 16 * k terms on.
-- Assumes nothing.
use Rattle.std.proofs.Common.{◌*◌}
use Rattle.scrambling.proofs.Ahead.{On}
use Rattle.scrambling.proofs.Registers.start.Given as goal

abbrev pub invariant-loop : goal.invariant-loop
invariant-loop l = On (16 * l.counter) l.fn.self l.later
