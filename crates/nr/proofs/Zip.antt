-- Two rows taken place by place, and rows of bits.
-- Assumes nothing.
use Prim.Native.Nat.{ℕ, zero, suc, ◌+◌, ◌%◌, ◌≤◌, ◌<◌}
use native.Mathlib.Nat.{suc-ne-zero, suc_inj, not-suc-le-zero, le_of_suc-le-suc}
use native.Mathlib.Omega.{arith}
use mathlib.Core.Path.{◌≡◌, refl, sym, ap, ap₂, ◌∙◌}
use mathlib.Core.List.{List, [], ◌∷◌, ◌++◌, zip_with}
use lib.ListN.{length, get_or, take, drop, replicate}
use Rattle.nr.specs.Rows.{entries, msb_first, Bits, xor, xors}

module _ {A B C : Type 0} (h : A → B → C) where
  pub length-zip_with : (a : List A) (b : List B) (n : ℕ) → length a ≡ n → length b ≡ n → length (zip_with h a b) ≡ n
  unfolding zip_with
  length-zip_with [] b n e e' = e
  length-zip_with (x ∷ a) [] n e e' = e'
  length-zip_with (x ∷ a) (y ∷ b) zero e e' = absurd (suc-ne-zero (length a) e)
  length-zip_with (x ∷ a) (y ∷ b) (suc n) e e' = ap suc (length-zip_with a b n (suc_inj e) (suc_inj e'))

  pub length-zip_with-le : (a : List A) (b : List B) → length (zip_with h a b) ≤ length a
  unfolding zip_with
  length-zip_with-le [] b = omega arith
  length-zip_with-le (x ∷ a) [] = omega arith
  length-zip_with-le (x ∷ a) (y ∷ b) = omega (arith, length-zip_with-le a b)

  pub get_or-zip_with : (a : List A) (b : List B) (k : ℕ) (x : A) (y : B) (z : C) → k < length a → k < length b
      → get_or (zip_with h a b) k z ≡ h (get_or a k x) (get_or b k y)
  unfolding zip_with
  get_or-zip_with [] b k x y z l l' = absurd (not-suc-le-zero l)
  get_or-zip_with (x' ∷ a) [] k x y z l l' = absurd (not-suc-le-zero l')
  get_or-zip_with (x' ∷ a) (y' ∷ b) zero x y z l l' = refl
  get_or-zip_with (x' ∷ a) (y' ∷ b) (suc k) x y z l l' = get_or-zip_with a b k x y z (le_of_suc-le-suc l) (le_of_suc-le-suc l')

  pub take-zip_with : (n : ℕ) (a : List A) (b : List B) → take n (zip_with h a b) ≡ zip_with h (take n a) (take n b)
  unfolding zip_with
  take-zip_with zero a b = refl
  take-zip_with (suc n) [] b = refl
  take-zip_with (suc n) (x ∷ a) [] = refl
  take-zip_with (suc n) (x ∷ a) (y ∷ b) = ap (λ (r : List C). h x y ∷ r) (take-zip_with n a b)

  pub drop-zip_with : (n : ℕ) (a : List A) (b : List B) → drop n (zip_with h a b) ≡ zip_with h (drop n a) (drop n b)
  unfolding zip_with
  drop-zip_with zero a b = refl
  drop-zip_with (suc n) [] b = refl
  drop-zip_with (suc n) (x ∷ a) [] = sym (nil (drop n a))
    where
      nil : (a : List A) → zip_with h a [] ≡ []
      nil [] = refl
      nil (x ∷ a) = refl
  drop-zip_with (suc n) (x ∷ a) (y ∷ b) = drop-zip_with n a b

  pub zip_with-append : (a c : List A) (b d : List B) → length a ≡ length b → zip_with h (a ++ c) (b ++ d) ≡ zip_with h a b ++ zip_with h c d
  unfolding zip_with
  zip_with-append [] c [] d e = refl
  zip_with-append [] c (y ∷ b) d e = absurd (suc-ne-zero (length b) (sym e))
  zip_with-append (x ∷ a) c [] d e = absurd (suc-ne-zero (length a) e)
  zip_with-append (x ∷ a) c (y ∷ b) d e = ap (λ (r : List C). h x y ∷ r) (zip_with-append a c b d (suc_inj e))

pub cons : {x y : ℕ} {a b : List ℕ} → x ≡ y → a ≡ b → x ∷ a ≡ y ∷ b
cons p q = ap₂ (λ (r : ℕ) (s : List ℕ). r ∷ s) p q

-- ---- rows of bits

pub bits-append : (a b : List ℕ) → Bits a → Bits b → Bits (a ++ b)
bits-append [] b p q k = q k
bits-append (x ∷ a) b p q zero = p 0
bits-append (x ∷ a) b p q (suc k) = bits-append a b (λ i. p (suc i)) q k

pub bits-take : (n : ℕ) (a : List ℕ) → Bits a → Bits (take n a)
bits-take zero a p k = omega arith
bits-take (suc n) [] p k = omega arith
bits-take (suc n) (x ∷ a) p zero = p 0
bits-take (suc n) (x ∷ a) p (suc k) = bits-take n a (λ i. p (suc i)) k

pub bits-drop : (n : ℕ) (a : List ℕ) → Bits a → Bits (drop n a)
bits-drop zero a p k = p k
bits-drop (suc n) [] p k = omega arith
bits-drop (suc n) (x ∷ a) p k = bits-drop n a (λ i. p (suc i)) k

pub bits-replicate : (n b : ℕ) → b ≤ 1 → Bits (replicate n b)
bits-replicate zero b h k = omega arith
bits-replicate (suc n) b h zero = h
bits-replicate (suc n) b h (suc k) = bits-replicate n b h k

pub bits-xors : (a b : List ℕ) → Bits (xors a b)
unfolding xors zip_with
bits-xors [] b k = omega arith
bits-xors (x ∷ a) [] k = omega arith
bits-xors (x ∷ a) (y ∷ b) zero = omega arith
bits-xors (x ∷ a) (y ∷ b) (suc k) = bits-xors a b k

pub bits-msb_first : (k x : ℕ) → Bits (msb_first k x)
bits-msb_first zero x i = omega arith
bits-msb_first (suc k) x zero = omega arith
bits-msb_first (suc k) x (suc i) = bits-msb_first k x i

pub bits-entries : (places row : List ℕ) → Bits row → Bits (entries places row)
bits-entries [] row b k = omega arith
bits-entries (i ∷ is) row b zero = b i
bits-entries (i ∷ is) row b (suc k) = bits-entries is row b k

pub length-msb_first : (k x : ℕ) → length (msb_first k x) ≡ k
length-msb_first zero x = refl
length-msb_first (suc k) x = ap suc (length-msb_first k x)

-- ---- addition mod 2

pub length-xors : (n : ℕ) (p q : List ℕ) → length p ≡ n → length q ≡ n → length (xors p q) ≡ n
unfolding xors
length-xors n p q = length-zip_with xor p q n

pub get_or-xors : (p q : List ℕ) (k : ℕ) → k < length p → k < length q → get_or (xors p q) k 0 ≡ xor (get_or p k 0) (get_or q k 0)
unfolding xors
get_or-xors p q k l l' = get_or-zip_with xor p q k 0 0 0 l l'

pub xors-append : (a c b d : List ℕ) → length a ≡ length b → xors (a ++ c) (b ++ d) ≡ xors a b ++ xors c d
unfolding xors
xors-append = zip_with-append xor

pub xor-swap : (a b c d : ℕ) → xor (xor a b) (xor c d) ≡ xor (xor a c) (xor b d)
xor-swap a b c d =
    let e : a + b + (c + d) ≡ a + c + (b + d) = omega arith in
    sum (a + b) (c + d) ∙ ap (λ (s : ℕ). s % 2) e ∙ sym (sum (a + c) (b + d))
  where
    sum : (a b : ℕ) → xor (a % 2) (b % 2) ≡ (a + b) % 2
    sum a b = omega arith

pub xors-swap : (a b c d : List ℕ) → xors (xors a b) (xors c d) ≡ xors (xors a c) (xors b d)
unfolding xors zip_with
xors-swap [] b c d = refl
xors-swap (w ∷ a) [] [] d = refl
xors-swap (w ∷ a) [] (y ∷ c) d = refl
xors-swap (w ∷ a) (x ∷ b) [] d = refl
xors-swap (w ∷ a) (x ∷ b) (y ∷ c) [] = refl
xors-swap (w ∷ a) (x ∷ b) (y ∷ c) (z ∷ d) = cons (xor-swap w x y z) (xors-swap a b c d)

pub xors-comm : (a b : List ℕ) → xors a b ≡ xors b a
unfolding xors zip_with
xors-comm [] [] = refl
xors-comm [] (y ∷ b) = refl
xors-comm (x ∷ a) [] = refl
xors-comm (x ∷ a) (y ∷ b) =
    let e : x + y ≡ y + x = omega arith in
    cons (ap (λ (s : ℕ). s % 2) e) (xors-comm a b)

pub xors-zeros : (n : ℕ) (r : List ℕ) → length r ≡ n → Bits r → xors r (replicate n 0) ≡ r
unfolding xors zip_with
xors-zeros n [] e b = refl
xors-zeros zero (x ∷ r) e b = absurd (suc-ne-zero (length r) e)
xors-zeros (suc n) (x ∷ r) e b = cons (omega (arith, b 0)) (xors-zeros n r (suc_inj e) (λ k. b (suc k)))

-- what is added twice is not there
pub xors-back : (a b : List ℕ) → length a ≡ length b → Bits a → Bits b → xors (xors a b) b ≡ a
unfolding xors zip_with
xors-back [] b e p q = refl
xors-back (x ∷ a) [] e p q = absurd (suc-ne-zero (length a) e)
xors-back (x ∷ a) (y ∷ b) e p q =
    cons (omega (arith, p 0, q 0)) (xors-back a b (suc_inj e) (λ k. p (suc k)) (λ k. q (suc k)))
