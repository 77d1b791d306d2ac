-- `Registers::add_terms` meets its contract. The loop's invariant: the first i entries have their terms added.
-- Assumes nothing.
use Rattle.std.proofs.Common.{◌≡◌}
use Rattle.scrambling.proofs.Added.{added}
use Rattle.scrambling.proofs.Registers.add_terms.Given as goal

abbrev pub invariant-loop-i : goal.invariant-loop-i
invariant-loop-i l = l.row ≡ added l.fn.row l.fn.self.x1 l.fn.self.x2 l.i
