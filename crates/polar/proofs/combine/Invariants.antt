-- `polar::combine` meets its contract. The loop's invariant: the first i entries are sums, the rest is as it was.
-- Assumes nothing.
use mathlib.Core.Path.{◌≡◌}
use Rattle.polar.proofs.Halves.{sums, filled}
use Rattle.polar.proofs.combine.Given as goal

abbrev pub invariant-loop-i : goal.invariant-loop-i
invariant-loop-i l = l.block ≡ filled l.i (sums l.half l.initial.block) l.initial.block
