-- `Registers::add_sequence` meets its contract. The loop's invariant: the entries of the blocks before have their terms added, and
-- the registers are as many terms on.
-- Assumes nothing.
use Rattle.std.proofs.Common.{◌≡◌, ◌*◌}
use Rattle.scrambling.proofs.Added.{added}
use Rattle.scrambling.proofs.Ahead.{On}
use Rattle.scrambling.proofs.Registers.add_sequence.Given as goal

abbrev pub invariant-loop-block : goal.invariant-loop-block
invariant-loop-block l =
    (l.row ≡ added l.fn.row l.fn.self.x1 l.fn.self.x2 (16 * l.block)) × On (16 * l.block) l.fn.self l.state
