-- A number whose bits are parities of another under fixed masks.
-- Assumes nothing.
use Rattle.std.specs.Prelude.{ℕ, ◌+◌, ◌*◌, ◌%◌, List, [], ◌∷◌}
use Rattle.std.specs.Int.Bits.{bit_and}
use Rattle.std.specs.Int.Count.{ones}

-- the ones that a mask leaves of s, counted mod 2
abbrev pub parity_under : ℕ → ℕ → ℕ
parity_under mask s = ones (bit_and s mask) % 2

-- bit i is the parity of s under mask i
unfoldable pub jumped : List ℕ → ℕ → ℕ
jumped [] s = 0
jumped (mask ∷ masks) s = jumped masks s * 2 + parity_under mask s
