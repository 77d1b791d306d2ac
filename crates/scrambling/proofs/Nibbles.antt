-- The table of the four lowest bits of 0 .. 15: what a read of it gives.
-- Assumes nothing.
use Prim.Native.Nat.{ℕ, ◌+◌, ◌-◌, ◌*◌, ◌/◌, ◌%◌, ◌^◌, ◌≤◌, ◌<◌}
use native.Mathlib.Omega.{arith}
use mathlib.Core.Path.{◌≡◌, ap, ap₂, ◌∙◌}
use lib.Bits.{bit_and, and_mask}
use lib.ListN.{get_or}
use Rattle.nr.specs.Rows.{bit}
use Rattle.nr.proofs.Rows.{get_or-table}
use Rattle.nr.proofs.Words.{and_one, bit_le, bit-mod, bit-shr}
use Rattle.scrambling.specs.Nibbles.{digit, digits}

-- bit i of w: four bits of w are cut out from a multiple of 4 on
module _ (w i : ℕ) where
  -- the multiple of 4
  abbrev pub from : ℕ
  from = i - bit_and i 3

  -- the place that the code reads
  abbrev pub read : ℕ
  read = bit_and (w / 2 ^ from) 15 * 4 + bit_and i 3

  -- it is one of the table's
  pub read-lt : read < 64
  read-lt = omega (arith, and_mask (w / 2 ^ from) 4, and_mask i 2)

  -- what stands there
  pub read-bit : bit_and (get_or digits read 0) 1 ≡ bit i w
  read-bit =
      let b : ℕ = w / 2 ^ from in
      let j : ℕ = i % 4 in
      let low : read % 4 ≡ j = omega (arith, and_mask b 4, and_mask i 2) in
      let high : read / 4 ≡ b % 2 ^ 4 = omega (arith, and_mask b 4, and_mask i 2) in
      let whole : from + j ≡ i = omega (arith, and_mask i 2) in
      ap (λ (x : ℕ). bit_and x 1) (get_or-table digit 64 read 0 read-lt) ∙ and_one (digit read) ∙ even (bit (read % 4) (read / 4)) (bit_le (read % 4) (read / 4))
      ∙ ap₂ bit low high ∙ bit-mod j 4 b (omega arith) ∙ bit-shr j from w ∙ ap (λ (k : ℕ). bit k w) whole
    where
      even : (x : ℕ) → x ≤ 1 → (48 + x) % 2 ≡ x
      even x h = omega arith
