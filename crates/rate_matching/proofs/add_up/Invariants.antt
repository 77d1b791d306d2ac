-- `rate_matching::add_up` meets its contract.
-- Assumes nothing.
use mathlib.Core.Path.{◌≡◌}
use lib.ListN.{length}
use Rattle.std.specs.Slice.Iter.{chunks_rest, chunks_size}
use Rattle.rate_matching.proofs.Summing.{Summing}
use Rattle.rate_matching.proofs.add_up.Given as goal

abbrev pub invariant-loop-piece : goal.invariant-loop-piece
invariant-loop-piece l =
    Summing (length l.initial.y) l.soft l.y (chunks_rest l.piece-iterator) × (chunks_size l.piece-iterator ≡ length l.initial.y)
