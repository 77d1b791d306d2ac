-- How noisy a row was (document 02): the soft values that have the wrong sign, against bits.
-- Assumes nothing.
use Rattle.std.specs.Prelude.{ℕ, zero, suc, Bool, List, ℤ, pos, length, get_or}
use Rattle.std.specs.Int.Signed.{lt_z}
use Rattle.nr.specs.Rows.{count, keep}

-- bit 0 asks for a positive value and bit 1 for a negative one; 0 says nothing, and is never wrong
unfoldable pub wrong : ℕ → ℤ → Bool
wrong zero x = lt_z x (pos 0)
wrong (suc b) x = lt_z (pos 0) x

-- the noise count: how many k have soft value k not 0 and of the wrong sign for bit k
unfoldable pub noise_count : List ℤ → List ℕ → ℕ
noise_count soft bits = length (keep (λ k. wrong (get_or bits k 0) (get_or soft k (pos 0))) (count 0 (length soft)))
