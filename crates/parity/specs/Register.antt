-- The parity register as a row of 24 bits, D^23 first: a step of long division in place.
-- Assumes nothing.
use Rattle.std.specs.Prelude.{◌≡◌, ℕ, ◌^◌, ◌<◌, List, [], ◌∷◌, ◌++◌, get_or, drop}
use Rattle.nr.specs.Rows.{msb_first, xor}
use Rattle.nr.specs.Parity.{add_times}

-- one more bit of the row is taken in: the generator is taken off as often as the coefficient that leaves on top says
unfoldable pub taken : List ℕ → ℕ → List ℕ
taken register b = add_times (xor (get_or register 0 0) b) (msb_first 24 0xB2B117) (drop 1 register ++ 0 ∷ [])

-- the register, as a number, holds that row
pub record Holds (row : List ℕ) (register : ℕ) : Type 0 where
  pub small : register < 2 ^ 24
  pub bits : msb_first 24 register ≡ row
