-- `rate_matching::repeat` meets its contract.
-- Assumes nothing.
use Prim.Native.Nat.{◌-◌, ◌%◌}
use mathlib.Core.Path.{◌≡◌}
use Rattle.std.specs.Prelude.{min}
use lib.ListN.{length}
use Rattle.rows.proofs.Filling.{Filling}
use Rattle.rate_matching.proofs.Pieces.{cycle}
use Rattle.rate_matching.proofs.repeat.Given as goal

abbrev pub invariant-loop-at : goal.invariant-loop-at
invariant-loop-at l =
    Filling l.initial.out (cycle l.y (length l.initial.out)) l.out (min l.at (length l.initial.out)) × (l.at % length l.y ≡ 0)

abbrev pub decreases-loop-at : goal.decreases-loop-at
decreases-loop-at l = length l.initial.out - l.at
