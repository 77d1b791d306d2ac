-- `polar::stage` meets its contract. The loop's invariant: the first b blocks are joined, the rest is as it was.
-- Assumes nothing.
use Prim.Native.Nat.{◌*◌}
use mathlib.Core.Path.{◌≡◌}
use Rattle.polar.specs.Blocks.{joined, each}
use Rattle.polar.proofs.stage.Given as goal

abbrev pub invariant-loop-b : goal.invariant-loop-b
invariant-loop-b l = l.row ≡ each (joined l.half) (2 * l.half) l.b l.initial.row
