-- The parities under masks are a state some steps on, if they are so for the 31 single bits: both are linear.
-- Assumes nothing.
use Prim.Native.Nat.{ℕ, zero, suc, ◌+◌, ◌*◌, ◌/◌, ◌%◌, ◌^◌, ◌≤◌, ◌<◌, min}
use native.Mathlib.Nat.{mod-lt, div-add-mod', pow-suc, zero-mul, one-mul, zero-add, le_of_suc-le-suc, not-suc-le-zero}
use native.Mathlib.Numerals.{one-add}
use native.Mathlib.Omega.{arith}
use mathlib.Core.Path.{◌≡◌, refl, sym, subst, ap, ap₂, ◌∙◌}
use mathlib.Core.Bool.{Bool}
use mathlib.Core.List.{List, [], ◌∷◌}
use lib.Arith.{bin_ind}
use lib.Bits.{bit_and, bit_xor, and_step, and_zero_l, and_zero_r, xor_shr, xor_shifted, xor_self, xor_block}
use lib.Count.{ones, ones_cat}
use lib.Dec.{T, eqb, eqb→eq}
use lib.ListN.{length, get_or}
use lib.Pow.{pow_pos, pow-lt, shr_lt}
use Rattle.nr.specs.Rows.{bit, xor, count, all}
use Rattle.nr.specs.Scrambling.{after}
use Rattle.nr.proofs.Scrambling.{Linear}
use Rattle.nr.proofs.Tests.{all-count}
use Rattle.nr.proofs.Words.{bit-shr, xor_low, xor-bits}
use Rattle.nr.proofs.Zip.{xor-swap}
use Rattle.jump.specs.Parities.{parity_under, jumped}

-- ---- the parity under a mask

-- a bit is its own count
ones_bit : (x : ℕ) → x ≤ 1 → ones x ≡ x
unfolding ones
ones_bit zero h = refl
ones_bit (suc zero) h = refl
ones_bit (suc (suc x)) h = absurd (not-suc-le-zero (le_of_suc-le-suc h))

-- the lowest bit, and the parity of the others
parity-step : (m s : ℕ) → parity_under m s ≡ (min (s % 2) (m % 2) + parity_under (m / 2) (s / 2)) % 2
parity-step m s =
    let b : ℕ = min (s % 2) (m % 2) in
    let bound : b ≤ 1 = omega arith in
    ap (λ (y : ℕ). ones y % 2) (and_step s m)
    ∙ ap (λ (y : ℕ). y % 2) (ones_cat 1 (bit_and (s / 2) (m / 2)) b (omega arith) ∙ ap (λ (y : ℕ). ones (bit_and (s / 2) (m / 2)) + y) (ones_bit b bound))
    ∙ omega arith

-- a mask with no bit leaves nothing
parity-none : (s : ℕ) → parity_under 0 s ≡ 0
unfolding ones
parity-none s = ap (λ (y : ℕ). ones y % 2) (and_zero_r s)

none-parity : (m : ℕ) → parity_under m 0 ≡ 0
unfolding ones
none-parity m = ap (λ (y : ℕ). ones y % 2) (and_zero_l m)

-- the parity of the sum of two numbers, bit by bit mod 2, is the sum of their parities
parity-xor : (m a b : ℕ) → parity_under m (bit_xor a b) ≡ xor (parity_under m a) (parity_under m b)
parity-xor = bin_ind (λ (m : ℕ). (a b : ℕ) → parity_under m (bit_xor a b) ≡ xor (parity_under m a) (parity_under m b))
    (λ a b. parity-none (bit_xor a b) ∙ sym (ap₂ xor (parity-none a) (parity-none b)))
    (λ m ih a b.
    parity-step m (bit_xor a b)
    ∙ ap₂ (λ (x y : ℕ). (x + y) % 2)
    (ap (λ (x : ℕ). min x (m % 2)) (xor_low a b) ∙ low (m % 2) (a % 2) (b % 2) (omega arith) (omega arith) (omega arith))
    (ap (parity_under (m / 2)) (xor_shr a b 1) ∙ ih (a / 2) (b / 2))
    ∙ xor-swap (min (a % 2) (m % 2)) (min (b % 2) (m % 2)) (parity_under (m / 2) (a / 2)) (parity_under (m / 2) (b / 2))
    ∙ sym (ap₂ xor (parity-step m a) (parity-step m b)))
  where
    low : (m x y : ℕ) → m ≤ 1 → x ≤ 1 → y ≤ 1 → min (xor x y) m ≡ xor (min x m) (min y m)
    low m x y h l l' = omega arith

-- of a single bit it is the mask's bit
parity-single : (j m : ℕ) → parity_under m (2 ^ j) ≡ bit j m
parity-single zero m =
    parity-step m 1 ∙ ap (λ (y : ℕ). (min 1 (m % 2) + y) % 2) (none-parity (m / 2)) ∙ omega arith
parity-single (suc j) m =
    let even : 2 ^ suc j % 2 ≡ 0 = omega (arith, pow-suc 2 j) in
    let half : 2 ^ suc j / 2 ≡ 2 ^ j = omega (arith, pow-suc 2 j) in
    let on : 1 + j ≡ suc j = omega arith in
    parity-step m (2 ^ suc j)
    ∙ ap₂ (λ (x y : ℕ). (min x (m % 2) + parity_under (m / 2) y) % 2) even half
    ∙ ap (λ (y : ℕ). (min 0 (m % 2) + y) % 2) (parity-single j (m / 2) ∙ bit-shr j 1 m ∙ ap (λ (i : ℕ). bit i m) on)
    ∙ omega arith

-- ---- the parities under all masks

-- bit i is that under mask i
pub jumped-bit : (masks : List ℕ) (s i : ℕ) → i < length masks → bit i (jumped masks s) ≡ parity_under (get_or masks i 0) s
unfolding jumped
jumped-bit [] s i h = absurd (not-suc-le-zero h)
jumped-bit (m ∷ masks) s zero h = omega arith
jumped-bit (m ∷ masks) s (suc i) h =
    let on : 1 + i ≡ suc i = omega arith in
    let rest : (jumped masks s * 2 + parity_under m s) / 2 ≡ jumped masks s = omega arith in
    ap (λ (k : ℕ). bit k (jumped (m ∷ masks) s)) (sym on) ∙ sym (bit-shr i 1 (jumped (m ∷ masks) s)) ∙ ap (bit i) rest
    ∙ jumped-bit masks s i (le_of_suc-le-suc h)

-- there is no bit above
pub jumped-lt : (masks : List ℕ) (s : ℕ) → jumped masks s < 2 ^ length masks
unfolding jumped
jumped-lt [] s = omega arith
jumped-lt (m ∷ masks) s = omega (arith, jumped-lt masks s, pow-suc 2 (length masks))

jumped-linear : (masks : List ℕ) → Linear (jumped masks)
unfolding jumped
jumped-linear [] a b h h' = refl
jumped-linear (m ∷ masks) a b h h' =
    ap₂ (λ (x y : ℕ). x * 2 + y) (jumped-linear masks a b h h') (parity-xor m a b ∙ sym (xor-bits (parity_under m a) (parity_under m b) (omega arith) (omega arith)))
    ∙ sym (xor_block 1 (jumped masks a) (jumped masks b) (parity_under m a) (parity_under m b) (omega arith) (omega arith))

-- bit j of every mask
abbrev pub column : ℕ → List ℕ → ℕ
column j [] = 0
column j (m ∷ masks) = column j masks * 2 + bit j m

jumped-single : (masks : List ℕ) (j : ℕ) → jumped masks (2 ^ j) ≡ column j masks
unfolding jumped
jumped-single [] j = refl
jumped-single (m ∷ masks) j = ap₂ (λ (x y : ℕ). x * 2 + y) (jumped-single masks j) (parity-single j m)

-- ---- what is linear is known by the single bits

none : (f : ℕ → ℕ) → Linear f → f 0 ≡ 0
none f l = l 0 0 (omega arith) (omega arith) ∙ xor_self (f 0)

module _ (f g : ℕ → ℕ) (l : Linear f) (l' : Linear g) (single : (j : ℕ) → j < 31 → f (2 ^ j) ≡ g (2 ^ j)) where
  -- bit k above the others
  more : (b k s : ℕ) → b ≤ 1 → k < 31 → s < 2 ^ k → f s ≡ g s → f (b * 2 ^ k + s) ≡ g (b * 2 ^ k + s)
  more zero k s c h m e = rw (zero-mul, zero-add) e
  more (suc zero) k s c h m e =
      let a : 2 ^ k < 2 ^ 31 = pow-lt h in
      let b : s < 2 ^ 31 = omega arith in
      let sum : 1 * 2 ^ k + s ≡ bit_xor (2 ^ k) s = sym (xor_shifted 1 k s m) ∙ ap (λ (y : ℕ). bit_xor y s) (one-mul (2 ^ k)) in
      ap f sum ∙ l (2 ^ k) s a b ∙ ap₂ bit_xor (single k h) e ∙ sym (ap g sum ∙ l' (2 ^ k) s a b)
  more (suc (suc b)) k s c h m e = absurd (not-suc-le-zero (le_of_suc-le-suc c))

  agree : (k s : ℕ) → k ≤ 31 → s < 2 ^ k → f s ≡ g s
  agree zero s h m =
      let e : s ≡ 0 = omega arith in
      ap f e ∙ none f l ∙ sym (ap g e ∙ none g l')
  agree (suc k) s h m =
      let rest : s % 2 ^ k < 2 ^ k = mod-lt s (pow_pos k) in
      let bound : s / 2 ^ k < 2 = shr_lt 1 k (subst (λ (y : ℕ). s < 2 ^ y) (sym (one-add k)) m) in
      subst (λ (y : ℕ). f y ≡ g y) (div-add-mod' s (2 ^ k))
      (more (s / 2 ^ k) k (s % 2 ^ k) (omega arith) h rest (agree k (s % 2 ^ k) (omega arith) rest))

-- ---- a jump over k steps

-- the test: k steps from each single bit
abbrev pub tested : (ℕ → ℕ) → ℕ → List ℕ → Bool
tested step k masks = all (λ j. eqb (column j masks) (after step k (2 ^ j))) (count 0 31)

pub jumps : (step : ℕ → ℕ) (k : ℕ) → Linear (after step k) → (masks : List ℕ) → T (tested step k masks)
    → (s : ℕ) → s < 2 ^ 31 → jumped masks s ≡ after step k s
jumps step k linear masks t s h = agree (jumped masks) (after step k) (jumped-linear masks) linear single 31 s (omega arith) h
  where
    single : (j : ℕ) → j < 31 → jumped masks (2 ^ j) ≡ after step k (2 ^ j)
    single j l =
        jumped-single masks j
        ∙ eqb→eq (column j masks) (after step k (2 ^ j)) (all-count (λ i. eqb (column i masks) (after step k (2 ^ i))) 0 31 t j (omega arith) l)
