-- Parity: long division leaves a remainder, what is attached makes a multiple of the generator, and the check accepts exactly the multiples.
-- The RNTI added twice is nothing.
-- Assumes nothing.
use Prim.Native.Nat.{ℕ, zero, suc, ◌+◌, ◌-◌, ◌*◌, ◌%◌, ◌≤◌}
use native.Mathlib.Nat.{mul-one, suc-ne-zero, suc_inj, not-suc-le-zero, le_of_suc-le-suc}
use native.Mathlib.Omega.{arith}
use mathlib.Core.Path.{◌≡◌, refl, sym, subst, ap, ap₂, ◌∙◌}
use mathlib.Core.Logic.{◌↔◌}
use mathlib.Core.List.{List, [], ◌∷◌, ◌++◌, zip_with, append_assoc}
use lib.Dec.{T, eqb}
use lib.ListN.{length, get_or, take, drop, replicate, length-append, length-drop, length-replicate, take-append-drop}
use lib.Seq.{take_at, drop_at, take-append-le, take-take, length-take-le}
use Rattle.nr.specs.Rows.{msb_first, xor, xors, count, keep, Bits}
use Rattle.nr.specs.Parity.{generator, add_times, divide, remainder, parity, attach, mask_rnti, parity_matches}
use Rattle.nr.proofs.Rows.{same_refl, same-eq}
use Rattle.nr.proofs.Zip.{bits-append, bits-take, bits-drop, bits-replicate, bits-xors, bits-msb_first, length-msb_first, length-xors, xors-back, xor-swap, xors-comm, xors-zeros, cons, zip_with-append}

-- the generator below D^24
abbrev pub low : List ℕ
low = msb_first 24 0xB2B117

-- ---- a multiple of some coefficients, added to a row

pub length-add_times : (c : ℕ) (gs row : List ℕ) → length (add_times c gs row) ≡ length row
length-add_times c [] row = refl
length-add_times c (g ∷ gs) [] = refl
length-add_times c (g ∷ gs) (x ∷ row) = ap suc (length-add_times c gs row)

pub bits-add_times : (c : ℕ) (gs row : List ℕ) → Bits row → Bits (add_times c gs row)
bits-add_times c [] row p k = p k
bits-add_times c (g ∷ gs) [] p k = p k
bits-add_times c (g ∷ gs) (x ∷ row) p zero = omega arith
bits-add_times c (g ∷ gs) (x ∷ row) p (suc k) = bits-add_times c gs row (λ i. p (suc i)) k

pub add_times-none : (gs row : List ℕ) → Bits row → add_times 0 gs row ≡ row
add_times-none [] row p = refl
add_times-none (g ∷ gs) [] p = refl
add_times-none (g ∷ gs) (x ∷ row) p = cons (omega (arith, p 0)) (add_times-none gs row (λ k. p (suc k)))

add_times-twice : (c : ℕ) (gs row : List ℕ) → Bits row → add_times c gs (add_times c gs row) ≡ row
add_times-twice c [] row p = refl
add_times-twice c (g ∷ gs) [] p = refl
add_times-twice c (g ∷ gs) (x ∷ row) p = cons (omega (arith, p 0)) (add_times-twice c gs row (λ k. p (suc k)))

pub add_times-xors : (c : ℕ) (gs a b : List ℕ) → length a ≡ length b → add_times c gs (xors a b) ≡ xors (add_times c gs a) b
unfolding xors zip_with
add_times-xors c [] a b e = refl
add_times-xors c (g ∷ gs) [] b e = refl
add_times-xors c (g ∷ gs) (x ∷ a) [] e = absurd (suc-ne-zero (length a) e)
add_times-xors c (g ∷ gs) (x ∷ a) (y ∷ b) e = cons (omega arith) (add_times-xors c gs a b (suc_inj e))

add_times-sum : (x y : ℕ) (gs a b : List ℕ) → Bits gs → length a ≡ length b → add_times (xor x y) gs (xors a b) ≡ xors (add_times x gs a) (add_times y gs b)
unfolding xors zip_with
add_times-sum x y [] a b p e = refl
add_times-sum x y (g ∷ gs) [] [] p e = refl
add_times-sum x y (g ∷ gs) [] (v ∷ b) p e = absurd (suc-ne-zero (length b) (sym e))
add_times-sum x y (g ∷ gs) (u ∷ a) [] p e = absurd (suc-ne-zero (length a) e)
add_times-sum x y (zero ∷ gs) (u ∷ a) (v ∷ b) p e = cons (omega arith) (add_times-sum x y gs a b (λ k. p (suc k)) (suc_inj e))
add_times-sum x y (suc zero ∷ gs) (u ∷ a) (v ∷ b) p e = cons (simp mul-one (xor-swap u v x y)) (add_times-sum x y gs a b (λ k. p (suc k)) (suc_inj e))
add_times-sum x y (suc (suc g) ∷ gs) (u ∷ a) (v ∷ b) p e = absurd (not-suc-le-zero (le_of_suc-le-suc (p 0)))

-- ---- long division

length-divide : (m : ℕ) (row : List ℕ) → length (divide m row) ≡ length row - m
unfolding divide generator
length-divide zero row = omega arith
length-divide (suc m) [] = length-divide m [] ∙ omega arith
length-divide (suc m) (x ∷ row) = length-divide m (add_times x low row) ∙ rw length-add_times (omega arith)

bits-divide : (m : ℕ) (row : List ℕ) → Bits row → Bits (divide m row)
unfolding divide generator
bits-divide zero row p k = p k
bits-divide (suc m) [] p k = bits-divide m [] p k
bits-divide (suc m) (x ∷ row) p k = bits-divide m (add_times x low row) (bits-add_times x low row (λ i. p (suc i))) k

divide-xors : (m : ℕ) (a b : List ℕ) → length a ≡ length b → divide m (xors a b) ≡ xors (divide m a) (divide m b)
unfolding divide generator xors zip_with
divide-xors zero a b e = refl
divide-xors (suc m) [] [] e = divide-xors m [] [] e
divide-xors (suc m) [] (y ∷ b) e = absurd (suc-ne-zero (length b) (sym e))
divide-xors (suc m) (x ∷ a) [] e = absurd (suc-ne-zero (length a) e)
divide-xors (suc m) (x ∷ a) (y ∷ b) e =
    ap (divide m) (add_times-sum x y low a b (bits-msb_first 24 0xB2B117) (suc_inj e))
    ∙ divide-xors m (add_times x low a) (add_times y low b) (length-add_times x low a ∙ suc_inj e ∙ sym (length-add_times y low b))

divide-zeros : (m : ℕ) (p : List ℕ) → Bits p → divide m (replicate m 0 ++ p) ≡ p
unfolding divide generator
divide-zeros zero p b = refl
divide-zeros (suc m) p b =
    ap (divide m) (add_times-none low (replicate m 0 ++ p) (bits-append (replicate m 0) p (bits-replicate m 0 (omega arith)) b)) ∙ divide-zeros m p b

-- ---- multiples of the generator

-- the product of a polynomial and the generator
unfoldable pub product : List ℕ → List ℕ
product [] = replicate 24 0
product (x ∷ q) = add_times x generator (0 ∷ product q)

pub record Multiple (row : List ℕ) : Type 0 where
  pub quotient : List ℕ
  pub bits : Bits quotient
  pub size : length quotient + 24 ≡ length row
  pub whole : product quotient ≡ row

length-product : (q : List ℕ) → length (product q) ≡ length q + 24
unfolding product
length-product [] = refl
length-product (x ∷ q) = length-add_times x generator (0 ∷ product q) ∙ ap suc (length-product q) ∙ omega arith

bits-product : (q : List ℕ) → Bits (product q)
unfolding product
bits-product [] k = bits-replicate 24 0 (omega arith) k
bits-product (x ∷ q) k =
    bits-add_times x generator (0 ∷ product q) (bits-append (0 ∷ []) (product q) (bits-replicate 1 0 (omega arith)) (bits-product q)) k

divide-product : (q : List ℕ) → Bits q → divide (length q) (product q) ≡ replicate 24 0
unfolding divide generator product
divide-product [] p = refl
divide-product (x ∷ q) p =
    let e : (0 + x * 1) % 2 ≡ x = omega (arith, p 0) in
    ap (λ (c : ℕ). divide (length q) (add_times c low (add_times x low (product q)))) e
    ∙ ap (divide (length q)) (add_times-twice x low (product q) (bits-product q))
    ∙ divide-product q (λ k. p (suc k))

-- every row is a multiple of the generator plus what the division leaves
pub record Divided (m : ℕ) (row : List ℕ) : Type 0 where
  pub quotient : List ℕ
  pub bits : Bits quotient
  pub size : length quotient ≡ m
  pub whole : row ≡ xors (product quotient) (replicate m 0 ++ divide m row)

pub division : (m : ℕ) (row : List ℕ) → Bits row → length row ≡ m + 24 → Divided m row
unfolding divide generator product xors zip_with
division zero row b e = record {
  quotient = [];
  bits = λ k. omega arith;
  size = refl;
  whole = sym (xors-comm (replicate 24 0) row ∙ xors-zeros 24 row (e ∙ omega arith) b);
}
division (suc m) [] b e = let w : ⊥ = omega arith in absurd w
division (suc m) (x ∷ row) b e = step (division m (add_times x low row) (bits-add_times x low row b') (length-add_times x low row ∙ len))
  where
    b' : Bits row
    b' k = b (suc k)

    len : length row ≡ m + 24
    len = omega arith

    step : Divided m (add_times x low row) → Divided (suc m) (x ∷ row)
    step d = record {
      quotient = x ∷ d.quotient;
      bits = bits-append (x ∷ []) d.quotient one d.bits;
      size = ap suc d.size;
      whole = cons (omega (arith, b 0)) (sym (add_times-twice x low row b') ∙ ap (add_times x low) d.whole ∙ add_times-xors x low (product d.quotient) rest same_length);
    }
      where
        rest : List ℕ
        rest = replicate m 0 ++ divide m (add_times x low row)

        one : Bits (x ∷ [])
        one zero = b 0
        one (suc k) = omega arith

        same_length : length (product d.quotient) ≡ length rest
        same_length =
            length-product d.quotient ∙ ap (λ (k : ℕ). k + 24) d.size
            ∙ sym (simp (length-append, length-replicate, length-divide, length-add_times) (omega (arith, len)))

-- ---- what is attached

-- 24 bits at the end, added to 24 zeros there
end-added : (m : ℕ) (h p : List ℕ) → length h ≡ m → length p ≡ 24 → Bits h → Bits p
    → xors (h ++ replicate 24 0) (replicate m 0 ++ p) ≡ h ++ p
unfolding xors
end-added m h p lh lp bh bp =
    zip_with-append xor h (replicate 24 0) (replicate m 0) p (lh ∙ sym (length-replicate m 0))
    ∙ ap₂ (λ (a b : List ℕ). a ++ b) (xors-zeros m h lh bh) (xors-comm (replicate 24 0) p ∙ xors-zeros 24 p lp bp)

-- the remainder of a row that ends in 24 bits has them added
remainder-end : (m : ℕ) (h p : List ℕ) → length h ≡ m → length p ≡ 24 → Bits h → Bits p
    → remainder (h ++ p) ≡ xors (divide m (h ++ replicate 24 0)) p
unfolding remainder
remainder-end m h p lh lp bh bp =
    ap (λ (k : ℕ). divide k (h ++ p)) (simp length-append (omega arith))
    ∙ ap (divide m) (sym (end-added m h p lh lp bh bp))
    ∙ divide-xors m (h ++ replicate 24 0) (replicate m 0 ++ p) (simp (length-append, length-replicate) (omega arith))
    ∙ ap (λ (r : List ℕ). xors (divide m (h ++ replicate 24 0)) r) (divide-zeros m p bp)

remainder_is : (m : ℕ) (h : List ℕ) → length h ≡ m → divide m (h ++ replicate 24 0) ≡ remainder (h ++ replicate 24 0)
unfolding remainder
remainder_is m h e = ap (λ (k : ℕ). divide k (h ++ replicate 24 0)) (simp (length-append, length-replicate) (omega arith))

-- 24 ones before a row
abbrev pub ones_before : List ℕ → List ℕ
ones_before row = replicate 24 1 ++ row

module _ (payload : List ℕ) where
  length-ones : length (ones_before payload) ≡ 24 + length payload
  length-ones = simp (length-append, length-replicate) (omega arith)

  -- the parity, with the row that is divided bracketed as its front and 24 zeros
  pub parity-is : divide (24 + length payload) (ones_before payload ++ replicate 24 0) ≡ parity payload
  unfolding parity
  parity-is =
      remainder_is (24 + length payload) (ones_before payload) length-ones
      ∙ ap remainder (append_assoc (replicate 24 1) payload (replicate 24 0))

  pub length-parity : length (parity payload) ≡ 24
  length-parity =
      ap length (sym parity-is) ∙ length-divide (24 + length payload) (ones_before payload ++ replicate 24 0)
      ∙ simp (length-append, length-replicate) (omega arith)

  pub length-attach : length (attach payload) ≡ length payload + 24
  unfolding attach
  length-attach = length-append payload (parity payload) ∙ ap (λ (k : ℕ). length payload + k) length-parity

module _ (payload : List ℕ) (bits : Bits payload) where
  bits-ones : Bits (ones_before payload)
  bits-ones = bits-append (replicate 24 1) payload (bits-replicate 24 1 (omega arith)) bits

  pub bits-parity : Bits (parity payload)
  bits-parity =
      subst Bits (parity-is payload)
      (bits-divide (24 + length payload) (ones_before payload ++ replicate 24 0) (bits-append (ones_before payload) (replicate 24 0) bits-ones (bits-replicate 24 0 (omega arith))))

  pub bits-attach : Bits (attach payload)
  unfolding attach
  bits-attach = bits-append payload (parity payload) bits bits-parity

  -- row and parity, with the 24 ones in front, are a multiple of the generator
  pub attached-multiple : Multiple (ones_before (attach payload))
  unfolding attach
  attached-multiple = record {
    quotient = d.quotient;
    bits = d.bits;
    size = ap (λ (k : ℕ). k + 24) d.size ∙ sym (length-append (replicate 24 1) (attach payload) ∙ ap (λ (k : ℕ). 24 + k) (length-attach payload) ∙ omega arith);
    whole =
        sym (xors-back (product d.quotient) end same_length (bits-product d.quotient) bits-end)
        ∙ ap (λ (r : List ℕ). xors r end) (sym d.whole)
        ∙ ap (λ (r : List ℕ). xors (ones_before payload ++ replicate 24 0) (replicate m 0 ++ r)) (parity-is payload)
        ∙ end-added m (ones_before payload) (parity payload) (length-ones payload) (length-parity payload) bits-ones bits-parity
        ∙ append_assoc (replicate 24 1) payload (parity payload);
  }
    where
      m : ℕ
      m = 24 + length payload

      row : List ℕ
      row = ones_before payload ++ replicate 24 0

      d : Divided m row
      d = division m row (bits-append (ones_before payload) (replicate 24 0) bits-ones (bits-replicate 24 0 (omega arith))) (simp (length-append, length-replicate) (omega arith))

      end : List ℕ
      end = replicate m 0 ++ divide m row

      same_length : length (product d.quotient) ≡ length end
      same_length =
          length-product d.quotient ∙ ap (λ (k : ℕ). k + 24) d.size
          ∙ sym (length-append (replicate m 0) (divide m row) ∙ ap₂ ◌+◌ (length-replicate m 0) (ap length (parity-is payload) ∙ length-parity payload))

      bits-end : Bits end
      bits-end = bits-append (replicate m 0) (divide m row) (bits-replicate m 0 (omega arith)) (subst Bits (sym (parity-is payload)) bits-parity)

-- the payload stands in front of what is attached to it
pub attach-front : (A : ℕ) (payload : List ℕ) → length payload ≡ A → take A (attach payload) ≡ payload
unfolding attach
attach-front A payload e = take_at payload (parity payload) A e

-- ---- the check

-- it accepts only what was attached
pub accepts-only : (A : ℕ) (b : List ℕ) → T (parity_matches A b) → b ≡ attach (take A b)
unfolding parity_matches attach
accepts-only A b t =
    sym (take-append-drop A b) ∙ ap (λ (r : List ℕ). take A b ++ r) (sym (same-eq (parity (take A b)) (drop A b) t))

-- and all of it
pub accepts : (A : ℕ) (payload : List ℕ) → length payload ≡ A → T (parity_matches A (attach payload))
unfolding parity_matches attach
accepts A payload e =
    rw (take_at payload (parity payload) A e, drop_at payload (parity payload) A e) (same_refl (parity payload))

-- so it accepts exactly the rows that are, with the 24 ones in front, a multiple of the generator
pub accepts-multiples : (A : ℕ) (b : List ℕ) → length b ≡ A + 24 → Bits b → T (parity_matches A b) ↔ Multiple (ones_before b)
unfolding remainder attach
accepts-multiples A b e bits = (
  λ t. subst (λ (r : List ℕ). Multiple (ones_before r)) (sym (accepts-only A b t)) (attached-multiple (take A b) (bits-take A b bits)),
  λ mul. subst (λ (r : List ℕ). T (parity_matches A r)) (sym (whole mul)) (accepts A (take A b) len),
)
  where
    len : length (take A b) ≡ A
    len = length-take-le A b (omega arith)

    end : length (drop A b) ≡ 24
    end = length-drop A b ∙ omega arith

    -- the remainder is the two parities' sum, and it is 0
    sum : remainder (ones_before b) ≡ xors (parity (take A b)) (drop A b)
    sum =
        ap (λ (r : List ℕ). remainder (ones_before r)) (sym (take-append-drop A b))
        ∙ ap remainder (sym (append_assoc (replicate 24 1) (take A b) (drop A b)))
        ∙ remainder-end (24 + length (take A b)) (ones_before (take A b)) (drop A b) (length-ones (take A b)) end
        (bits-ones (take A b) (bits-take A b bits)) (bits-drop A b bits)
        ∙ ap (λ (r : List ℕ). xors r (drop A b)) (parity-is (take A b))

    none : Multiple (ones_before b) → remainder (ones_before b) ≡ replicate 24 0
    none mul =
        ap (λ (k : ℕ). divide (k - 24) (ones_before b)) (sym mul.size)
        ∙ ap₂ divide sub (sym mul.whole) ∙ divide-product mul.quotient mul.bits
      where
        sub : length mul.quotient + 24 - 24 ≡ length mul.quotient
        sub = omega arith

    whole : Multiple (ones_before b) → b ≡ attach (take A b)
    whole mul =
        let p : List ℕ = parity (take A b) in
        let same_length : length p ≡ length (drop A b) = length-parity (take A b) ∙ sym end in
        let eq : p ≡ drop A b =
        sym (xors-back p (drop A b) same_length (bits-parity (take A b) (bits-take A b bits)) (bits-drop A b bits))
        ∙ ap (λ (r : List ℕ). xors r (drop A b)) (sym sum ∙ none mul)
        ∙ xors-comm (replicate 24 0) (drop A b) ∙ xors-zeros 24 (drop A b) end (bits-drop A b bits) in
        sym (take-append-drop A b) ∙ ap (λ (r : List ℕ). take A b ++ r) (sym eq)

-- ---- the RNTI

-- all but the last 16 bits stay, and the RNTI is added to those
module _ (rnti : ℕ) (front back : List ℕ) (size : length back ≡ 16) (bits : Bits front) where
  pub mask_rnti-ends : mask_rnti rnti (front ++ back) ≡ front ++ xors back (msb_first 16 rnti)
  unfolding mask_rnti xors
  mask_rnti-ends =
      ap (λ (k : ℕ). xors (front ++ back) (replicate k 0 ++ msb_first 16 rnti)) (length-of (length-append front back))
      ∙ zip_with-append xor front back (replicate (length front) 0) (msb_first 16 rnti) (sym (length-replicate (length front) 0))
      ∙ ap (λ (r : List ℕ). r ++ xors back (msb_first 16 rnti)) (xors-zeros (length front) front refl bits)
    where
      length-of : {k : ℕ} → k ≡ length front + length back → k - 16 ≡ length front
      length-of e = omega arith

pub mask_rnti-front : (rnti A : ℕ) (b : List ℕ) → A + 16 ≤ length b → Bits b → take A (mask_rnti rnti b) ≡ take A b
mask_rnti-front rnti A b room bits =
    ap (λ (r : List ℕ). take A (mask_rnti rnti r)) (sym (take-append-drop n b))
    ∙ ap (take A) (mask_rnti-ends rnti (take n b) (drop n b) (length-drop n b ∙ omega arith) (bits-take n b bits))
    ∙ take-append-le A (take n b) _ (omega (arith, length-take-le n b (omega arith)))
    ∙ take-take A n b (omega arith)
  where
    n : ℕ
    n = length b - 16

module _ (rnti : ℕ) (b : List ℕ) (room : 16 ≤ length b) where
  abbrev mask : List ℕ
  mask = replicate (length b - 16) 0 ++ msb_first 16 rnti

  length-mask : length b ≡ length mask
  length-mask = sym (simp (length-append, length-replicate, length-msb_first) (omega arith))

  pub length-mask_rnti : length (mask_rnti rnti b) ≡ length b
  unfolding mask_rnti
  length-mask_rnti = length-xors (length b) b mask refl (sym length-mask)

  pub mask_rnti-twice : Bits b → mask_rnti rnti (mask_rnti rnti b) ≡ b
  unfolding mask_rnti
  mask_rnti-twice bits =
      ap (λ (k : ℕ). xors (xors b mask) (replicate (k - 16) 0 ++ msb_first 16 rnti)) length-mask_rnti
      ∙ xors-back b mask length-mask bits
      (bits-append (replicate (length b - 16) 0) (msb_first 16 rnti) (bits-replicate (length b - 16) 0 (omega arith)) (bits-msb_first 16 rnti))

pub bits-mask_rnti : (rnti : ℕ) (b : List ℕ) → Bits (mask_rnti rnti b)
unfolding mask_rnti
bits-mask_rnti rnti b = bits-xors b (replicate (length b - 16) 0 ++ msb_first 16 rnti)

-- ---- the generator's terms, as document 01 writes them out

pub generator-terms : keep (λ i. eqb (get_or generator (24 - i) 0) 1) (count 0 25) ≡ 0 ∷ 1 ∷ 2 ∷ 4 ∷ 8 ∷ 12 ∷ 13 ∷ 15 ∷ 17 ∷ 20 ∷ 21 ∷ 23 ∷ 24 ∷ []
unfolding generator
generator-terms = refl
