-- Document 01, "Parity and radio number" (38.212 7.3.2): CRC attachment and the RNTI on the last 16 bits.
-- A row of bits stands for a polynomial in D, highest power first.
-- Assumes nothing.
use Rattle.std.specs.Prelude.{ℕ, zero, suc, ◌+◌, ◌-◌, ◌*◌, ◌%◌, Bool, List, [], ◌∷◌, ◌++◌, length, get_or, take, drop, replicate}
use Rattle.nr.specs.Rows.{same, msb_first, xors}

-- the generator's 25 coefficients: D^24, then the low part B2B117 hex
unfoldable pub generator : List ℕ
generator = 1 ∷ msb_first 24 0xB2B117

-- the row plus c times the coefficients gs, from the row's first place on
abbrev pub add_times : ℕ → List ℕ → List ℕ → List ℕ
add_times c [] row = row
add_times c (g ∷ gs) [] = []
add_times c (g ∷ gs) (x ∷ row) = (x + c * g) % 2 ∷ add_times c gs row

-- k steps of long division: the generator is taken off as often as the leading coefficient says, which leaves 0 there
unfoldable pub divide : ℕ → List ℕ → List ℕ
divide zero row = row
divide (suc k) row = divide k (drop 1 (add_times (get_or row 0 0) generator row))

-- what is left on division by the generator: 24 coefficients, D^23 first
unfoldable pub remainder : List ℕ → List ℕ
remainder row = divide (length row - 24) row

-- p0 .. p23: 24 ones before the payload, and that row times D^24
unfoldable pub parity : List ℕ → List ℕ
parity payload = remainder (replicate 24 1 ++ payload ++ replicate 24 0)

-- the row b: payload, then parity
unfoldable pub attach : List ℕ → List ℕ
attach payload = payload ++ parity payload

-- the RNTI added to the last 16 bits, most significant bit first
unfoldable pub mask_rnti : ℕ → List ℕ → List ℕ
mask_rnti rnti b = xors b (replicate (length b - 16) 0 ++ msb_first 16 rnti)

-- all 24 parity bits after the A payload bits are those of the payload
unfoldable pub parity_matches : ℕ → List ℕ → Bool
parity_matches A b = same (parity (take A b)) (drop A b)
