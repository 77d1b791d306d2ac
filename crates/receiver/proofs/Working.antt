-- The row that the decoder starts from, in its place in the array.
-- Assumes nothing.
use Prim.Native.Nat.{ℕ, ◌-◌, ◌*◌, ◌≤◌}
use native.Mathlib.Omega.{arith}
use mathlib.Core.Path.{◌≡◌, ap, ◌∙◌}
use mathlib.Core.List.{List, ◌++◌}
use lib.IntN.{ℤ}
use lib.ListN.{length, take, drop}
use lib.Seq.{length-take-le, take_at, drop_at}
use borrow.Rule.Slice.PartMut.{put_mid}
use Rattle.successive_decoder.specs.Levels.{row_of}

-- the part from N to 2N was lent and came back as `row`
pub row-in-place : (old row : List ℤ) (N : ℕ) → 2 * N ≤ length old → length row ≡ N → row_of N (put_mid N (2 * N - N) old row) ≡ row
row-in-place old row N room size =
    ap (take N) (drop_at (take N old) (row ++ drop (2 * N - N) (drop N old)) N (length-take-le N old (omega arith)))
    ∙ take_at row (drop (2 * N - N) (drop N old)) N size
