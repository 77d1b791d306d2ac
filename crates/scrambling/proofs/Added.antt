-- A row to whose first entries the terms of the sequence have been added.
-- Assumes nothing.
use Prim.Native.Nat.{ℕ, ◌+◌, ◌≤◌, ◌<◌}
use native.Mathlib.Omega.{arith}
use native.Mathlib.Numerals.{add-one}
use mathlib.Core.Path.{◌≡◌, refl, sym, ap, ap₂, ◌∙◌}
use mathlib.Core.List.{List, [], ◌∷◌, ◌++◌, zip_with, append-nil, append_assoc}
use lib.Bits.{bit_xor}
use lib.ListN.{length, get_or, set, take, drop, length-append, length-drop}
use lib.Seq.{length-take-le, take-length, drop-length, take_at, drop_at, take-add, drop-drop, set_split, drop-cons}
use Rattle.nr.specs.Rows.{bit, xor, xors, Bits}
use Rattle.nr.specs.Scrambling.{step1, step2, after, terms}
use Rattle.nr.proofs.Scrambling.{length-terms, terms-append, x1-starts, x2-starts}
use Rattle.nr.proofs.Words.{bit_le, bit-xor, xor-bits}
use Rattle.nr.proofs.Zip.{bits-append, bits-take, bits-drop, bits-xors, cons, length-xors, zip_with-append}

-- the first m entries of xs with the terms from s1 and s2 on added, and the rest as it was
abbrev pub added : List ℕ → ℕ → ℕ → ℕ → List ℕ
added xs s1 s2 m = xors (take m xs) (terms m s1 s2) ++ drop m xs

-- addition goes part by part
xors-append : (a b c d : List ℕ) → length a ≡ length c → xors (a ++ b) (c ++ d) ≡ xors a c ++ xors b d
unfolding xors
xors-append a b c d e = zip_with-append xor a b c d e

module _ (xs : List ℕ) (s1 s2 : ℕ) where
  -- nothing is added yet
  pub added_none : xs ≡ added xs s1 s2 0
  unfolding xors zip_with terms
  added_none = refl

  -- all is added
  pub added-all : added xs s1 s2 (length xs) ≡ xors xs (terms (length xs) s1 s2)
  added-all = rw (take-length, drop-length) (append-nil (xors xs (terms (length xs) s1 s2)))

  -- it is a row of bits
  bits-added : (m : ℕ) → Bits xs → Bits (added xs s1 s2 m)
  bits-added m b = bits-append (xors (take m xs) (terms m s1 s2)) (drop m xs) (bits-xors (take m xs) (terms m s1 s2)) (bits-drop m xs b)

  -- and so is a part of it
  pub part-bits : (m i k : ℕ) (zs : List ℕ) → zs ≡ added xs s1 s2 m → Bits xs → Bits (take k (drop i zs))
  part-bits m i k zs e b = bits-take k (drop i zs) (bits-drop i zs (rw e (bits-added m b)))

  -- the part with the terms added has m entries
  length_front : (m : ℕ) → m ≤ length xs → length (xors (take m xs) (terms m s1 s2)) ≡ m
  length_front m h = length-xors m (take m xs) (terms m s1 s2) (length-take-le m xs h) (length-terms m s1 s2)

  -- it is as long as it was
  pub length-added : (m : ℕ) → m ≤ length xs → length (added xs s1 s2 m) ≡ length xs
  length-added m h = simp (length-append, length_front m h, length-drop) (omega arith)

  -- k entries more, after the first m
  module _ (m k n : ℕ) (zs : List ℕ) (sum : m + k ≡ n) (h : n ≤ length xs) (e : zs ≡ added xs s1 s2 m) where
    -- there are k of them
    length_part : length (take k (drop m zs)) ≡ k
    length_part = length-take-le k (drop m zs) (rw length-drop (omega (arith, ap length e ∙ length-added m (omega arith))))

    -- their terms added: the registers are m terms on
    pub part-added : (ys : List ℕ) {x1 x2 : ℕ} → x1 ≡ after step1 m s1 → x2 ≡ after step2 m s2
        → ys ≡ xors (take k (drop m zs)) (terms (length (take k (drop m zs))) x1 x2)
        → take m zs ++ (ys ++ drop k (drop m zs)) ≡ added xs s1 s2 n
    part-added ys p p' q =
        let front : List ℕ = xors (take m xs) (terms m s1 s2) in
        let back : List ℕ = terms k (after step1 m s1) (after step2 m s2) in
        let l : length front ≡ m = length_front m (omega arith) in
        let same : length (take m xs) ≡ length (terms m s1 s2) = length-take-le m xs (omega arith) ∙ sym (length-terms m s1 s2) in
        rw (q, length_part, p, p', ap (take m) e ∙ take_at front (drop m xs) m l, ap (drop m) e ∙ drop_at front (drop m xs) m l, drop-drop, ← sum)
        (sym (append_assoc front (xors (take k (drop m xs)) back) (drop (m + k) xs))
        ∙ ap (λ (r : List ℕ). r ++ drop (m + k) xs)
        (sym (ap₂ xors (take-add m k xs) (terms-append m k s1 s2) ∙ xors-append (take m xs) (take k (drop m xs)) (terms m s1 s2) back same)))

  -- one entry more: v is its term
  pub added-one : (m v : ℕ) (zs : List ℕ) → Bits xs → m < length xs → m ≤ 30 → zs ≡ added xs s1 s2 m → v ≡ bit m (bit_xor s1 s2)
      → set zs m (bit_xor (get_or zs m 0) v) ≡ added xs s1 s2 (m + 1)
  unfolding terms xors zip_with
  added-one m v zs b h l e q =
      let x : ℕ = get_or zs m 0 in
      let inside : m < length zs = omega (arith, ap length e ∙ length-added m (omega arith)) in
      let value : bit_xor x v ≡ xor x (xor (bit 0 (after step1 m s1)) (bit 0 (after step2 m s2))) =
      ap (bit_xor x) q ∙ xor-bits x (bit m (bit_xor s1 s2)) (rw e (bits-added m b m)) (bit_le m (bit_xor s1 s2))
      ∙ ap (xor x) (bit-xor m s1 s2 ∙ sym (ap₂ xor (x1-starts s1 m l) (x2-starts s2 m l))) in
      set_split zs m (bit_xor x v) inside
      ∙ ap (λ (r : List ℕ). take m zs ++ (bit_xor x v ∷ r)) (ap (λ (n : ℕ). drop n zs) (sym (add-one m)) ∙ sym (drop-drop 1 m zs))
      ∙ part-added m 1 (m + 1) zs refl (omega arith) e (bit_xor x v ∷ []) refl refl (rw (drop-cons zs m 0 inside) (cons value refl))
