-- The bits of numbers under the operations of words: shifts, masks and exclusive or.
-- Assumes nothing.
use Prim.Native.Nat.{ℕ, zero, suc, ◌+◌, ◌-◌, ◌*◌, ◌/◌, ◌%◌, ◌^◌, ◌≤◌, ◌<◌}
use native.Mathlib.Nat.{not-suc-le-zero, le_of_suc-le-suc, lt_of_lt_of_le, div-eq_of_lt, mod-eq_of_lt, one-mul, pow-suc}
use native.Mathlib.Omega.{arith}
use mathlib.Core.Path.{◌≡◌, refl, sym, subst, ap, ◌∙◌}
use mathlib.Core.List.{List, [], ◌∷◌, ◌++◌, zip_with}
use lib.Bits.{differ, bit_and, bit_xor, xor_step, xor_shr, and_mask}
use lib.Dec.{T, eqb, eqb→eq}
use lib.ListN.{get_or, replicate}
use lib.Pow.{pow_mono, pow-lt, shr-shr, field, mod-pow-add}
use borrow.Author.Tests.{eq-eqb}
use Rattle.nr.specs.Rows.{same, bit, msb_first, xor, xors}
use Rattle.nr.proofs.Tests.{holds, alike}
use Rattle.nr.proofs.Rows.{same_refl, same-eq}
use Rattle.nr.proofs.Zip.{cons}

-- ---- exclusive or is addition mod 2 of the bits

differ-is : (a b : ℕ) → a ≤ 1 → b ≤ 1 → differ a b ≡ xor a b
differ-is zero b h h' = omega arith
differ-is (suc zero) zero h h' = refl
differ-is (suc zero) (suc zero) h h' = refl
differ-is (suc zero) (suc (suc b)) h h' = absurd (not-suc-le-zero (le_of_suc-le-suc h'))
differ-is (suc (suc a)) b h h' = absurd (not-suc-le-zero (le_of_suc-le-suc h))

pub xor_low : (a b : ℕ) → bit_xor a b % 2 ≡ xor (a % 2) (b % 2)
xor_low a b =
    ap (λ (x : ℕ). x % 2) (xor_step a b ∙ ap (λ (x : ℕ). bit_xor (a / 2) (b / 2) * 2 + x) (differ-is (a % 2) (b % 2) (omega arith) (omega arith)))
    ∙ omega arith

-- of two bits
pub xor-bits : (a b : ℕ) → a ≤ 1 → b ≤ 1 → bit_xor a b ≡ xor a b
xor-bits zero b h h' = omega arith
xor-bits (suc zero) zero h h' = refl
xor-bits (suc zero) (suc zero) h h' = refl
xor-bits (suc zero) (suc (suc b)) h h' = absurd (not-suc-le-zero (le_of_suc-le-suc h'))
xor-bits (suc (suc a)) b h h' = absurd (not-suc-le-zero (le_of_suc-le-suc h))

pub bit-xor : (i a b : ℕ) → bit i (bit_xor a b) ≡ xor (bit i a) (bit i b)
bit-xor i a b = ap (λ (x : ℕ). x % 2) (xor_shr a b i) ∙ xor_low (a / 2 ^ i) (b / 2 ^ i)

pub msb_first-xor : (k a b : ℕ) → msb_first k (bit_xor a b) ≡ xors (msb_first k a) (msb_first k b)
unfolding xors zip_with
msb_first-xor zero a b = refl
msb_first-xor (suc k) a b = cons (bit-xor k a b) (msb_first-xor k a b)

-- ---- masks and shifts

pub bit_le : (i x : ℕ) → bit i x ≤ 1
bit_le i x = omega arith

-- the mask that keeps the lowest bit
pub and_one : (x : ℕ) → bit_and x 1 ≡ x % 2
and_one x = and_mask x 1

pub get_or-msb_first : (k x i : ℕ) → i < k → get_or (msb_first k x) i 0 ≡ bit (k - 1 - i) x
get_or-msb_first zero x i h = absurd (not-suc-le-zero h)
get_or-msb_first (suc k) x zero h = let e : k ≡ suc k - 1 - 0 = omega arith in ap (λ (j : ℕ). bit j x) e
get_or-msb_first (suc k) x (suc i) h =
    let e : k - 1 - i ≡ suc k - 1 - suc i = omega arith in
    get_or-msb_first k x i (le_of_suc-le-suc h) ∙ ap (λ (j : ℕ). bit j x) e

-- the lowest k bits are those of the number mod 2 ^ k
pub bit-mod : (i k x : ℕ) → i < k → bit i (x % 2 ^ k) ≡ bit i x
bit-mod i k x h =
    let e : k ≡ suc (k - suc i) + i = omega arith in
    ap (λ (m : ℕ). x % 2 ^ m / 2 ^ i % 2) e ∙ ap (λ (y : ℕ). y % 2) (field x (suc (k - suc i)) i) ∙ fine (k - suc i) (x / 2 ^ i)
  where
    fine : (j y : ℕ) → y % 2 ^ suc j % 2 ≡ y % 2
    fine j y =
        let e : suc j ≡ j + 1 = omega arith in
        ap (λ (m : ℕ). y % 2 ^ m % 2) e ∙ ap (λ (z : ℕ). z % 2) (mod-pow-add y j 1) ∙ omega arith

-- the bits of a number shifted down
pub bit-shr : (i k x : ℕ) → bit i (x / 2 ^ k) ≡ bit (k + i) x
bit-shr i k x = ap (λ (y : ℕ). y % 2) (shr-shr x k i)

pub msb_first-mod : (j k x : ℕ) → j ≤ k → msb_first j (x % 2 ^ k) ≡ msb_first j x
msb_first-mod zero k x h = refl
msb_first-mod (suc j) k x h = cons (bit-mod j k x h) (msb_first-mod j k x (omega arith))

-- a power of two by a shift of 1, in a word of 64 bits
pub shl_one : (k : ℕ) → k < 64 → 1 * 2 ^ k % 2 ^ 64 ≡ 2 ^ k
shl_one k h = ap (λ (x : ℕ). x % 2 ^ 64) (one-mul (2 ^ k)) ∙ mod-eq_of_lt (pow-lt h)

-- the bits of a number shifted up by one, and a bit in the place that is free
pub msb_first-more : (k x b : ℕ) → b ≤ 1 → msb_first (suc k) (x * 2 + b) ≡ msb_first k x ++ b ∷ []
msb_first-more zero x b h = let e : (x * 2 + b) / 1 % 2 ≡ b = omega arith in ap (λ (c : ℕ). c ∷ []) e
msb_first-more (suc k) x b h =
    let e : (x * 2 + b) / 2 ≡ x = omega arith in
    let s : 1 + k ≡ suc k = omega arith in
    cons (ap (λ (i : ℕ). bit i (x * 2 + b)) (sym s) ∙ sym (bit-shr k 1 (x * 2 + b)) ∙ ap (bit k) e) (msb_first-more k x b h)

pub msb_first-double : (k x : ℕ) → msb_first (suc k) (x * 2) ≡ msb_first k x ++ 0 ∷ []
msb_first-double k x = let e : x * 2 ≡ x * 2 + 0 = omega arith in ap (msb_first (suc k)) e ∙ msb_first-more k x 0 (omega arith)

-- a number of k bits in a row that is j longer
pub msb_first-longer : (j k x : ℕ) → x < 2 ^ k → msb_first (j + k) x ≡ replicate j 0 ++ msb_first k x
msb_first-longer zero k x h = let e : 0 + k ≡ k = omega arith in ap (λ (i : ℕ). msb_first i x) e
msb_first-longer (suc j) k x h =
    let e : suc j + k ≡ suc (j + k) = omega arith in
    ap (λ (i : ℕ). msb_first i x) e ∙ cons (ap (λ (q : ℕ). q % 2) (div-eq_of_lt (lt_of_lt_of_le h (pow_mono (omega arith))))) (msb_first-longer j k x h)

-- ---- a number below 2 ^ k is known by its lowest k bits

pub same_bits : (k a b : ℕ) → a < 2 ^ k → b < 2 ^ k → ((i : ℕ) → i < k → bit i a ≡ bit i b) → a ≡ b
same_bits zero a b h h' e = omega arith
same_bits (suc k) a b h h' e =
    let half : a / 2 ≡ b / 2 = same_bits k (a / 2) (b / 2) (omega (arith, pow-suc 2 k)) (omega (arith, pow-suc 2 k))
    (λ i l. bit-shr i 1 a ∙ e (1 + i) (omega arith) ∙ sym (bit-shr i 1 b)) in
    let low : a / 1 % 2 ≡ b / 1 % 2 = e 0 (omega arith) in
    omega arith

-- so two such numbers are equal if their rows of bits hold the same
pub same-msb_first : (k a b : ℕ) → a < 2 ^ k → b < 2 ^ k → same (msb_first k a) (msb_first k b) ≡ eqb a b
same-msb_first k a b h h' = alike (same (msb_first k a) (msb_first k b)) (eqb a b)
    (λ t. holds (eq-eqb a b (same_bits k a b h h' (λ i l.
    let e : k - 1 - (k - 1 - i) ≡ i = omega arith in
    let m : k - 1 - i < k = omega arith in
    ap (λ (j : ℕ). bit j a) (sym e) ∙ sym (get_or-msb_first k a (k - 1 - i) m)
    ∙ ap (λ (r : List ℕ). get_or r (k - 1 - i) 0) (same-eq (msb_first k a) (msb_first k b) t)
    ∙ get_or-msb_first k b (k - 1 - i) m ∙ ap (λ (j : ℕ). bit j b) e))))
    (λ t. subst (λ (x : ℕ). T (same (msb_first k a) (msb_first k x))) (eqb→eq a b t) (same_refl (msb_first k a)))
