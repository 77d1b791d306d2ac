-- The input interleaver: a permutation for every K up to 164, undone by `deinterleave`; and document 01's check on the copy of the table.
-- Assumes nothing.
use Prim.Native.Nat.{ℕ, zero, suc, ◌+◌, ◌-◌, ◌≤◌, ◌<◌}
use native.Mathlib.Omega.{arith}
use mathlib.Core.Path.{◌≡◌, refl, sym, subst, ap, ◌∙◌}
use mathlib.Core.Bool.{Bool, not, cond, ◌&&◌}
use mathlib.Core.List.{List, [], ◌∷◌, ◌++◌, map}
use lib.Dec.{T, eqb, ltb, leb, ltb→lt, leb→le, le→leb}
use lib.ListN.{length, get_or, replicate}
use lib.Seq.{ext_get_or}
use Rattle.nr.specs.Rows.{count, has, keep, place, entries, Bits, all}
use Rattle.nr.specs.Parity.{generator, divide, remainder}
use Rattle.nr.specs.Interleaver.{interleaver, pattern, interleave, deinterleave}
use Rattle.nr.proofs.Tests.{distinct, left, right, pair, off, here, there, all-has, all-count}
use Rattle.nr.proofs.Rows.{kept, keeps, distinct-keep, mapped, source, members, keep_all, ranged, length-count, place-has, length-picked, get_d_picked, length-entries, get_or-entries, has_get_d, place-get_or}
use Rattle.nr.proofs.Zip.{bits-entries}

-- ---- a permutation

-- xs is 0 to k - 1 in some order
pub record Permutes (k : ℕ) (xs : List ℕ) : Type 0 where
  pub size : length xs ≡ k
  pub below : (x : ℕ) → T (has x xs) → x < k
  pub every : (x : ℕ) → x < k → T (has x xs)
  pub once : T (distinct xs)

-- different entries, all below k, and each number below k among them: k entries
sized : (k : ℕ) (xs : List ℕ) → ((x : ℕ) → T (has x xs) → x < k) → ((x : ℕ) → x < k → T (has x xs)) → T (distinct xs) → Permutes k xs
sized k xs b e d = record {
  size =
      sym (members 0 k xs (λ x h. let l = b x h in omega arith) d)
      ∙ ap length (keep_all (λ p. has p xs) (count 0 k) (λ x h. e x (let r = ranged 0 k x h in omega arith)))
      ∙ length-count 0 k;
  below = b;
  every = e;
  once = d;
}

-- different entries stay so under a map that keeps them apart
distinct-map : (g : ℕ → ℕ) (xs : List ℕ) → ((a b : ℕ) → T (has a xs) → T (has b xs) → g a ≡ g b → a ≡ b) → T (distinct xs) → T (distinct (map g xs))
distinct-map g [] inj t = tt
distinct-map g (y ∷ ys) inj t =
    pair (not (has (g y) (map g ys))) (distinct (map g ys))
    (off (has y ys) (has (g y) (map g ys)) (left (not (has y ys)) (distinct ys) t)
    (λ h. let s = source g ys (g y) h in
    subst (λ (z : ℕ). T (has z ys)) (sym (inj y s.0 (here y ys) (there s.0 y ys s.1) s.2)) s.1))
    (distinct-map g ys (λ a b p q. inj a b (there a y ys p) (there b y ys q)) (right (not (has y ys)) (distinct ys) t))

pub table_below : T (all (λ x. ltb x 164) interleaver)
unfolding interleaver
table_below = tt

table-every : T (all (λ x. has x interleaver) (count 0 164))
unfolding interleaver
table-every = tt

table-once : T (distinct interleaver)
unfolding interleaver
table-once = tt

pub permutes : (K : ℕ) → K ≤ 164 → Permutes K (pattern K)
unfolding pattern
permutes K h = sized K (pattern K) below every once
  where
    shift : ℕ → ℕ
    shift x = x - (164 - K)

    from : ℕ → Bool
    from x = leb (164 - K) x

    row : List ℕ
    row = keep from interleaver

    low : (x : ℕ) → T (has x row) → 164 - K ≤ x
    low x u = leb→le (164 - K) x (kept from interleaver x u).1

    below : (x : ℕ) → T (has x (map shift row)) → x < K
    below x u =
        let s = source shift row x u in
        let a : 164 - K ≤ s.0 = low s.0 s.1 in
        let b : s.0 < 164 = ltb→lt s.0 164 (all-has (λ y. ltb y 164) interleaver table_below s.0 (kept from interleaver s.0 s.1).0) in
        let c : x ≡ s.0 - (164 - K) = s.2 in
        omega arith

    every : (x : ℕ) → x < K → T (has x (map shift row))
    every x l =
        let y : ℕ = x + (164 - K) in
        let m : T (has y interleaver) = all-count (λ z. has z interleaver) 0 164 table-every y (omega arith) (omega arith) in
        let n : T (has y row) = keeps from interleaver y m (le→leb (164 - K) y (omega arith)) in
        let e : x + (164 - K) - (164 - K) ≡ x = omega arith in
        subst (λ (z : ℕ). T (has z (map shift row))) e (mapped shift row y n)

    once : T (distinct (map shift row))
    once =
        distinct-map shift row
        (λ a b p q e. let l = low a p in let m = low b q in let e' : a - (164 - K) ≡ b - (164 - K) = e in omega arith)
        (distinct-keep from interleaver table-once)

-- ---- undone

pub length-interleave : (c : List ℕ) → length c ≤ 164 → length (interleave c) ≡ length c
unfolding interleave
length-interleave c h = length-entries (pattern (length c)) c ∙ (permutes (length c) h).size

pub bits-interleave : (c : List ℕ) → Bits c → Bits (interleave c)
unfolding interleave
bits-interleave c b = bits-entries (pattern (length c)) c b

module _ (row : List ℕ) where
  pub length-deinterleave : length (deinterleave row) ≡ length row
  unfolding deinterleave
  length-deinterleave = length-picked (λ i. place i (pattern (length row))) (length row) row

  pub deinterleave-at : (i : ℕ) → i < length row → get_or (deinterleave row) i 0 ≡ get_or row (place i (pattern (length row))) 0
  unfolding deinterleave
  deinterleave-at = get_d_picked (λ i. place i (pattern (length row))) (length row) row

  pub bits-deinterleave : Bits row → Bits (deinterleave row)
  unfolding deinterleave
  bits-deinterleave = bits-entries (map (λ i. place i (pattern (length row))) (count 0 (length row))) row

pub deinterleave-interleave : (c : List ℕ) → length c ≤ 164 → deinterleave (interleave c) ≡ c
unfolding interleave
deinterleave-interleave c h = ext_get_or 0 (deinterleave (interleave c)) c len (λ i l. at i (subst (λ (m : ℕ). i < m) len l))
  where
    len : length (deinterleave (interleave c)) ≡ length c
    len = length-deinterleave (interleave c) ∙ length-interleave c h

    at : (i : ℕ) → i < length c → get_or (deinterleave (interleave c)) i 0 ≡ get_or c i 0
    at i l =
        let p = place-has i (pattern (length c)) ((permutes (length c) h).every i l) in
        deinterleave-at (interleave c) i (omega (arith, length-interleave c h))
        ∙ ap (λ (k : ℕ). get_or (interleave c) (place i (pattern k)) 0) (length-interleave c h)
        ∙ get_or-entries (pattern (length c)) c (place i (pattern (length c))) p.0
        ∙ ap (λ (x : ℕ). get_or c x 0) p.1

-- and the other way
pub interleave-deinterleave : (row : List ℕ) → length row ≤ 164 → interleave (deinterleave row) ≡ row
unfolding interleave
interleave-deinterleave row h = ext_get_or 0 (interleave (deinterleave row)) row len (λ i l. at i (subst (λ (m : ℕ). i < m) len l))
  where
    len : length (interleave (deinterleave row)) ≡ length row
    len = length-interleave (deinterleave row) (omega (arith, length-deinterleave row)) ∙ length-deinterleave row

    at : (i : ℕ) → i < length row → get_or (interleave (deinterleave row)) i 0 ≡ get_or row i 0
    at i l =
        let k : ℕ = length row in
        let p = permutes k h in
        let l' : i < length (pattern k) = subst (λ (m : ℕ). i < m) (sym p.size) l in
        ap (λ (m : ℕ). get_or (entries (pattern m) (deinterleave row)) i 0) (length-deinterleave row)
        ∙ get_or-entries (pattern k) (deinterleave row) i l'
        ∙ deinterleave-at row (get_or (pattern k) i 0) (p.below (get_or (pattern k) i 0) (has_get_d (pattern k) i 0 l'))
        ∙ ap (λ (x : ℕ). get_or row x 0) (place-get_or (pattern k) i p.once l')

-- ---- the table is what the generator gives

-- the parity bits that the bit at payload place x of 140 changes: the remainder of D^(163 - x)
abbrev changes : ℕ → List ℕ
changes x = remainder (1 ∷ replicate (163 - x) 0)

-- of the places from x on, with what their bits change: those whose bit changes p_j and that l does not have
unfoldable pub fresh : List ℕ → ℕ → ℕ → List (List ℕ) → List ℕ
fresh l j x [] = []
fresh l j x (r ∷ rs) = cond (eqb (get_or r j 0) 1 && not (has x l)) (x ∷ fresh l j (suc x) rs) (fresh l j (suc x) rs)

-- line by line for p_j, p_(j+1), ..: those, and 140 + j directly after them
unfoldable pub grown : List (List ℕ) → ℕ → ℕ → List ℕ → List ℕ
grown rs zero j l = l
grown rs (suc lines) j l = grown rs lines (suc j) (l ++ fresh l j 0 rs ++ ((140 + j) ∷ []))

pub from-generator : grown (map changes (count 0 140)) 24 0 [] ≡ interleaver
unfolding generator divide remainder fresh grown interleaver
from-generator = refl
