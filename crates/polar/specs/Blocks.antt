-- A row as blocks of one size, one after the other, and the step that joins the two halves of a block.
-- Assumes nothing.
use Rattle.std.specs.Prelude.{ℕ, zero, suc, List, ◌++◌, take, drop}
use Rattle.nr.specs.Rows.{xors}

-- the first m blocks of `size` entries go through f, the rest of the row stays
abbrev pub each : (List ℕ → List ℕ) → ℕ → ℕ → List ℕ → List ℕ
each f size zero row = row
each f size (suc m) row = f (take size row) ++ each f size m (drop size row)

-- the second half of a block of 2 * half entries, added to the first
abbrev pub joined : ℕ → List ℕ → List ℕ
joined half block = xors (take half block) (drop half block) ++ drop half block
