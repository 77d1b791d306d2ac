-- The Gold sequence: E bits, which the registers make by the recurrences of 38.211 5.2.1.
-- Assumes nothing.
use Prim.Native.Nat.{ℕ, zero, suc, ◌+◌, ◌-◌, ◌*◌, ◌/◌, ◌%◌, ◌^◌, ◌≤◌, ◌<◌}
use native.Mathlib.Nat.{not-suc-le-zero, le_of_suc-le-suc, div-eq_of_lt, add-mul-div_right, add_comm, add-mul, zero-mul, mul_assoc, mul_comm, pow-suc, pow-succ', suc-add, zero-add}
use native.Mathlib.Numerals.{add-one, one-add}
use native.Mathlib.Omega.{arith}
use mathlib.Core.Path.{◌≡◌, refl, sym, ap, ap₂, ◌∙◌}
use mathlib.Core.List.{◌++◌}
use lib.Bits.{bit_xor, xor_shr, xor_block}
use lib.ListN.{length, get_or, take, replicate}
use lib.Pow.{pow_pos, pow-add, shr-shr, mod-pow-add}
use Rattle.nr.specs.Rows.{bit, xor, xors, Bits}
use Rattle.nr.specs.Scrambling.{next1, next2, shift, step1, step2, after, terms, gold}
use Rattle.nr.proofs.Words.{bit-xor, bit-shr, xor-bits}
use Rattle.nr.proofs.Zip.{cons, xor-swap, xors-comm, xors-zeros}

-- ---- E bits

pub length-terms : (k s1 s2 : ℕ) → length (terms k s1 s2) ≡ k
unfolding terms
length-terms zero s1 s2 = refl
length-terms (suc k) s1 s2 = ap suc (length-terms k (step1 s1) (step2 s2))

pub bits-terms : (k s1 s2 : ℕ) → Bits (terms k s1 s2)
unfolding terms
bits-terms zero s1 s2 i = omega arith
bits-terms (suc k) s1 s2 zero = omega arith
bits-terms (suc k) s1 s2 (suc i) = bits-terms k (step1 s1) (step2 s2) i

pub length-gold : (start E : ℕ) → length (gold start E) ≡ E
unfolding gold
length-gold start E = length-terms E _ _

pub bits-gold : (start E : ℕ) → Bits (gold start E)
unfolding gold
bits-gold start E = bits-terms E _ _

-- added to a row of zeros it stands there
pub zeros-gold : (start E : ℕ) → xors (replicate E 0) (gold start E) ≡ gold start E
zeros-gold start E = xors-comm (replicate E 0) (gold start E) ∙ xors-zeros E (gold start E) (length-gold start E) (bits-gold start E)

-- ---- a register makes the terms of its sequence one after the other

shift-bit : (next s j : ℕ) → j < 30 → bit j (shift next s) ≡ bit (suc j) s
shift-bit next s j h =
    let i : ℕ = 29 - j in
    let split : 2 ^ 30 ≡ 2 ^ suc i * 2 ^ j = ap (λ (y : ℕ). 2 ^ y) (whole h) ∙ pow-add 2 (suc i) j in
    let out : (s / 2 + next * 2 ^ 30) / 2 ^ j ≡ s / 2 / 2 ^ j + next * 2 ^ suc i =
    ap (λ (y : ℕ). (s / 2 + y) / 2 ^ j) (ap (λ (y : ℕ). next * y) split ∙ sym (mul_assoc next (2 ^ suc i) (2 ^ j)))
    ∙ add-mul-div_right (s / 2) (next * 2 ^ suc i) (pow_pos j) in
    let even : next * 2 ^ suc i ≡ next * 2 ^ i * 2 = ap (λ (y : ℕ). next * y) (pow-succ' 2 i ∙ mul_comm 2 (2 ^ i)) ∙ sym (mul_assoc next (2 ^ i) 2) in
    ap (λ (y : ℕ). y % 2) (out ∙ ap (λ (y : ℕ). s / 2 / 2 ^ j + y) even)
    ∙ omega arith
    ∙ ap (λ (y : ℕ). y % 2) (shr-shr s 1 j ∙ ap (λ (y : ℕ). s / 2 ^ y) (one j))
  where
    whole : {j : ℕ} → j < 30 → 30 ≡ suc (29 - j) + j
    whole h = omega arith

    one : (j : ℕ) → 1 + j ≡ suc j
    one j = omega arith

shift_top : (next s : ℕ) → next ≤ 1 → s < 2 ^ 31 → bit 30 (shift next s) ≡ next
shift_top next s h l =
    ap (λ (y : ℕ). y % 2) (add-mul-div_right (s / 2) next (pow_pos 30) ∙ ap (λ (y : ℕ). y + next) (div-eq_of_lt {m = 2 ^ 30} (omega arith)))
    ∙ omega arith

-- the sum of two states of 31 bits, bit by bit mod 2, goes to the sum of what they go to
abbrev pub Linear : (ℕ → ℕ) → Type 0
Linear f = (a b : ℕ) → a < 2 ^ 31 → b < 2 ^ 31 → f (bit_xor a b) ≡ bit_xor (f a) (f b)

-- a register whose next term is `feed` of what it holds
module _ (feed : ℕ → ℕ) (feed-bit : (s : ℕ) → feed s ≤ 1) where
  abbrev step : ℕ → ℕ
  step s = shift (feed s) s

  -- x(i), of the sequence that starts with the bits of s
  abbrev x : ℕ → ℕ → ℕ
  x s i = bit 0 (after step i s)

  after-suc : (i s : ℕ) → step (after step i s) ≡ after step (suc i) s
  unfolding after
  after-suc zero s = refl
  after-suc (suc i) s = after-suc i (step s)

  after-lt : (i s : ℕ) → s < 2 ^ 31 → after step i s < 2 ^ 31
  unfolding after
  after-lt zero s h = h
  after-lt (suc i) s h = after-lt i (step s) (omega (arith, feed-bit s))

  -- bit j is the term j on
  window : (j i s : ℕ) → j ≤ 30 → bit j (after step i s) ≡ x s (i + j)
  window zero i s h = let e : i ≡ i + 0 = omega arith in ap (x s) e
  window (suc j) i s h =
      let e : suc i + j ≡ i + suc j = omega arith in
      sym (shift-bit (feed (after step i s)) (after step i s) j h)
      ∙ ap (bit j) (after-suc i s) ∙ window j (suc i) s (omega arith) ∙ ap (x s) e

  pub first-terms : (s j : ℕ) → j ≤ 30 → x s j ≡ bit j s
  unfolding after
  first-terms s j h = let e : 0 + j ≡ j = omega arith in sym (window j 0 s h ∙ ap (x s) e)

  pub next-term : (s i : ℕ) → s < 2 ^ 31 → x s (i + 31) ≡ feed (after step i s)
  next-term s i h =
      let e : suc i + 30 ≡ i + 31 = omega arith in
      sym (window 30 (suc i) s (omega arith) ∙ ap (x s) e) ∙ ap (bit 30) (sym (after-suc i s))
      ∙ shift_top (feed (after step i s)) (after step i s) (feed-bit (after step i s)) (after-lt i s h)

  -- the terms that the register holds, shifted down, are those of the registers that follow
  sees : (j i s : ℕ) → i + j ≤ 30 → bit i (s / 2 ^ j) ≡ bit j (after step i s)
  sees j i s h = bit-shr i j s ∙ ap (λ (k : ℕ). bit k s) (add_comm j i) ∙ sym (window j i s (omega arith) ∙ first-terms s (i + j) h)

  -- m terms on at once: w has the m terms that come in as its lowest bits
  ahead : (w s m n : ℕ) → m + n ≡ 31 → ((i : ℕ) → i < m → bit i w ≡ feed (after step i s)) → after step m s ≡ s / 2 ^ m + w % 2 ^ m * 2 ^ n
  unfolding after
  ahead w s zero n e h =
      let none : w % 1 ≡ 0 = omega arith in
      rw (none, zero-mul) (omega arith)
  ahead w s (suc m) n e h =
      let low : ℕ = w % 2 ^ m in
      let before : after step m s ≡ s / 2 ^ m + low * 2 ^ n * 2 =
      ahead w s m (suc n) (omega arith) (λ i l. h i (omega arith))
      ∙ ap (λ (y : ℕ). s / 2 ^ m + y) (ap (λ (y : ℕ). low * y) (pow-suc 2 n) ∙ sym (mul_assoc low (2 ^ n) 2)) in
      let out : s / 2 ^ m / 2 ≡ s / 2 ^ suc m = shr-shr s m 1 ∙ ap (λ (k : ℕ). s / 2 ^ k) (add-one m) in
      let size : 30 ≡ m + n = omega arith in
      let top : feed (after step m s) * 2 ^ 30 ≡ bit m w * 2 ^ m * 2 ^ n =
      ap₂ (λ (y z : ℕ). y * z) (sym (h m (omega arith))) (ap (λ (k : ℕ). 2 ^ k) size ∙ pow-add 2 m n)
      ∙ sym (mul_assoc (bit m w) (2 ^ m) (2 ^ n)) in
      let whole : w % 2 ^ suc m * 2 ^ n ≡ bit m w * 2 ^ m * 2 ^ n + low * 2 ^ n =
      ap (λ (y : ℕ). y * 2 ^ n) (ap (λ (k : ℕ). w % 2 ^ k) (sym (one-add m)) ∙ mod-pow-add w 1 m)
      ∙ add-mul (bit m w * 2 ^ m) low (2 ^ n) in
      sym (after-suc m s) ∙ omega arith

  -- where the next term of a sum of states is the sum of theirs, so are all states that follow
  module _ (feed-xor : (a b : ℕ) → feed (bit_xor a b) ≡ xor (feed a) (feed b)) where
    step-xor : Linear step
    step-xor a b h h' =
        let half : (s : ℕ) → s < 2 ^ 31 → s / 2 < 2 ^ 30 = λ s l. omega arith in
        ap₂ (λ (x y : ℕ). x + y * 2 ^ 30) (xor_shr a b 1) (feed-xor a b ∙ sym (xor-bits (feed a) (feed b) (feed-bit a) (feed-bit b)))
        ∙ add_comm _ _ ∙ sym (xor_block 30 (feed a) (feed b) (a / 2) (b / 2) (half a h) (half b h'))
        ∙ ap₂ bit_xor (add_comm (feed a * 2 ^ 30) (a / 2)) (add_comm (feed b * 2 ^ 30) (b / 2))

    after-xor : (k : ℕ) → Linear (after step k)
    unfolding after
    after-xor zero a b h h' = refl
    after-xor (suc k) a b h h' =
        ap (after step k) (step-xor a b h h') ∙ after-xor k (step a) (step b) (after-lt 1 a h) (after-lt 1 b h')

-- ---- the two sequences of 38.211 5.2.1

-- the terms of the sequence that starts with the bits of s, lowest first
abbrev pub x1 : ℕ → ℕ → ℕ
x1 s i = bit 0 (after step1 i s)

abbrev pub x2 : ℕ → ℕ → ℕ
x2 s i = bit 0 (after step2 i s)

next1-bit : (s : ℕ) → next1 s ≤ 1
unfolding next1
next1-bit s = omega arith

pub next2-bit : (s : ℕ) → next2 s ≤ 1
unfolding next2
next2-bit s = omega arith

-- x2's register stays within 31 bits
pub after2-lt : (i s : ℕ) → s < 2 ^ 31 → after step2 i s < 2 ^ 31
unfolding step2
after2-lt = after-lt next2 next2-bit

pub x1-starts : (s j : ℕ) → j ≤ 30 → x1 s j ≡ bit j s
unfolding step1
x1-starts = first-terms next1 next1-bit

pub x2-starts : (s j : ℕ) → j ≤ 30 → x2 s j ≡ bit j s
unfolding step2
x2-starts = first-terms next2 next2-bit

pub x1-recurs : (s i : ℕ) → s < 2 ^ 31 → x1 s (i + 31) ≡ (x1 s (i + 3) + x1 s i) % 2
unfolding next1 step1
x1-recurs s i h =
    next-term next1 next1-bit s i h
    ∙ ap (λ (a : ℕ). (a + x1 s i) % 2) (window next1 next1-bit 3 i s (omega arith))

pub x2-recurs : (s i : ℕ) → s < 2 ^ 31 → x2 s (i + 31) ≡ (x2 s (i + 3) + x2 s (i + 2) + x2 s (i + 1) + x2 s i) % 2
unfolding next2 step2
x2-recurs s i h =
    next-term next2 next2-bit s i h
    ∙ ap₃ (λ (a b c : ℕ). (a + b + c + x2 s i) % 2) (at 3 (omega arith)) (at 2 (omega arith)) (at 1 (omega arith))
  where
    at : (j : ℕ) → j ≤ 30 → bit j (after step2 i s) ≡ x2 s (i + j)
    at j l = window next2 next2-bit j i s l

    ap₃ : (f : ℕ → ℕ → ℕ → ℕ) {a a' b b' c c' : ℕ} → a ≡ a' → b ≡ b' → c ≡ c' → f a b c ≡ f a' b' c'
    ap₃ f p q r = ap₂ (λ (g : ℕ → ℕ) (c : ℕ). g c) (ap₂ f p q) r

-- ---- many terms on at once, made of the terms that the register holds

-- the new terms are sums of a term and the one 3 on
pub ahead1 : (s m n : ℕ) → m + n ≡ 31 → m ≤ 28 → after step1 m s ≡ s / 2 ^ m + bit_xor s (s / 2 ^ 3) % 2 ^ m * 2 ^ n
unfolding next1 step1
ahead1 s m n e h =
    ahead next1 next1-bit (bit_xor s (s / 2 ^ 3)) s m n e (λ i l.
    bit-xor i s (s / 2 ^ 3) ∙ ap₂ xor (sym (x1-starts s i (omega arith))) (sees next1 next1-bit 3 i s (omega arith))
    ∙ ap (λ (y : ℕ). y % 2) (add_comm _ _))

-- four terms, as a sum of sums of two
four : (a b c d : ℕ) → xor (xor a b) (xor c d) ≡ (d + c + b + a) % 2
four a b c d = omega arith

-- t has the sums of two terms next to each other, and the new terms are sums of such a sum and the one 2 on
pub ahead2 : (s m n : ℕ) → m + n ≡ 31 → m ≤ 28
    → let t = bit_xor s (s / 2 ^ 1) in after step2 m s ≡ s / 2 ^ m + bit_xor t (t / 2 ^ 2) % 2 ^ m * 2 ^ n
unfolding next2 step2
ahead2 s m n e h = ahead next2 next2-bit (bit_xor t (t / 2 ^ 2)) s m n e new
  where
    t : ℕ
    t = bit_xor s (s / 2 ^ 1)

    term : (j i : ℕ) → i + j ≤ 30 → bit i (s / 2 ^ j) ≡ bit j (after step2 i s)
    term j i l = sees next2 next2-bit j i s l

    new : (i : ℕ) → i < m → bit i (bit_xor t (t / 2 ^ 2)) ≡ next2 (after step2 i s)
    new i l =
        let here = bit-xor i s (s / 2 ^ 1) ∙ ap₂ xor (sym (x2-starts s i (omega arith))) (term 1 i (omega arith)) in
        let on : bit i (t / 2 ^ 2) ≡ xor (bit 2 (after step2 i s)) (bit 3 (after step2 i s)) =
        ap (bit i) (xor_shr s (s / 2 ^ 1) 2) ∙ bit-xor i (s / 2 ^ 2) (s / 2 ^ 1 / 2 ^ 2)
        ∙ ap₂ xor (term 2 i (omega arith)) (ap (bit i) (shr-shr s 1 2) ∙ term 3 i (omega arith)) in
        bit-xor i t (t / 2 ^ 2) ∙ ap₂ xor here on ∙ four _ _ _ _

-- ---- both registers are linear

pub linear1 : (k : ℕ) → Linear (after step1 k)
unfolding next1 step1
linear1 = after-xor next1 next1-bit (λ a b. rw (bit-xor 3 a b, bit-xor 0 a b) (xor-swap _ _ _ _))

pub linear2 : (k : ℕ) → Linear (after step2 k)
unfolding next2 step2
linear2 = after-xor next2 next2-bit (λ a b. rw (bit-xor 3 a b, bit-xor 2 a b, bit-xor 1 a b, bit-xor 0 a b) (swap _ _ _ _ _ _ _ _))
  where
    swap : (a b c d e f g h : ℕ) → (xor a b + xor c d + xor e f + xor g h) % 2 ≡ xor ((a + c + e + g) % 2) ((b + d + f + h) % 2)
    swap a b c d e f g h =
        sym (four (xor g h) (xor e f) (xor c d) (xor a b)) ∙ ap₂ xor (xor-swap g h e f) (xor-swap c d a b)
        ∙ xor-swap (xor g e) (xor h f) (xor c a) (xor d b) ∙ ap₂ xor (four g e c a) (four h f d b)

-- ---- c(k) = x1(k + 1600) + x2(k + 1600)

pub after-after : (step : ℕ → ℕ) (m k s : ℕ) → after step k (after step m s) ≡ after step (m + k) s
unfolding after
after-after step zero k s = let e : k ≡ 0 + k = omega arith in ap (λ (i : ℕ). after step i s) e
after-after step (suc m) k s = after-after step m k (step s) ∙ ap (λ (i : ℕ). after step i s) (sym (suc-add m k))

-- the first m terms, and those of the registers m terms on
pub terms-append : (m k s1 s2 : ℕ) → terms (m + k) s1 s2 ≡ terms m s1 s2 ++ terms k (after step1 m s1) (after step2 m s2)
unfolding terms after
terms-append zero k s1 s2 = ap (λ (n : ℕ). terms n s1 s2) (zero-add k)
terms-append (suc m) k s1 s2 = ap (λ (n : ℕ). terms n s1 s2) (suc-add m k) ∙ cons refl (terms-append m k (step1 s1) (step2 s2))

-- the front of a sequence is the shorter one
pub take-terms : (k n s1 s2 : ℕ) → k ≤ n → take k (terms n s1 s2) ≡ terms k s1 s2
unfolding terms
take-terms zero n s1 s2 h = refl
take-terms (suc k) zero s1 s2 h = absurd (not-suc-le-zero h)
take-terms (suc k) (suc n) s1 s2 h = cons refl (take-terms k n (step1 s1) (step2 s2) (le_of_suc-le-suc h))

pub take-gold : (start k n : ℕ) → k ≤ n → take k (gold start n) ≡ gold start k
unfolding gold
take-gold start k n h = take-terms k n _ _ h

pub terms-at : (E s1 s2 k : ℕ) → k < E → get_or (terms E s1 s2) k 0 ≡ (x1 s1 k + x2 s2 k) % 2
unfolding terms after
terms-at zero s1 s2 k h = absurd (not-suc-le-zero h)
terms-at (suc E) s1 s2 zero h = refl
terms-at (suc E) s1 s2 (suc k) h = terms-at E (step1 s1) (step2 s2) k (le_of_suc-le-suc h)

pub gold-at : (start E k : ℕ) → k < E → get_or (gold start E) k 0 ≡ (x1 1 (1600 + k) + x2 start (1600 + k)) % 2
unfolding gold
gold-at start E k h =
    terms-at E _ _ k h
    ∙ ap₂ (λ (a b : ℕ). (bit 0 a + bit 0 b) % 2) (after-after step1 1600 k 1) (after-after step2 1600 k start)
