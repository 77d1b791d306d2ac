-- `polar::place` meets its contract. The loop's invariant: the first i bits stand at their positions.
-- Assumes nothing.
use mathlib.Core.Path.{◌≡◌}
use lib.ListN.{length, take}
use Rattle.nr.specs.Coding.{placed}
use Rattle.polar.proofs.place.Given as goal

abbrev pub invariant-loop-i : goal.invariant-loop-i
invariant-loop-i l = l.u ≡ placed (length l.initial.u) (take l.i l.positions) (take l.i l.bits)
