-- `jump::jump` meets its contract. The loop's invariant: r has the parities under the masks that the iterator has left behind.
-- Assumes nothing.
use Rattle.std.proofs.Common.{◌≡◌, ℕ, List, ◌++◌}
use Rattle.jump.specs.Parities.{jumped}
use Rattle.jump.proofs.jump.Given as goal

abbrev pub invariant-loop-mask : goal.invariant-loop-mask
invariant-loop-mask l = (done : List ℕ) × (l.mask-iterator.iter.rest.now ++ done ≡ l.masks) × (l.r ≡ jumped done l.s)
