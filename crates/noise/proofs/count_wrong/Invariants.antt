-- `noise::count_wrong` meets its contract. The loop's invariant: the wrong ones of the first k values are counted.
-- Assumes nothing.
use mathlib.Core.Path.{◌≡◌}
use Rattle.nr.specs.Rows.{xors}
use Rattle.noise.proofs.Counting.{counted}
use Rattle.noise.proofs.count_wrong.Given as goal

abbrev pub invariant-loop-k : goal.invariant-loop-k
invariant-loop-k l = l.wrong ≡ counted l.soft (xors l.sent l.sequence) l.k
