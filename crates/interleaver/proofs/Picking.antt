-- The interleaved row, entry by entry of the table, and the way back.
-- Assumes nothing.
use Prim.Native.Nat.{ℕ, ◌+◌, ◌-◌, ◌≤◌, ◌<◌}
use native.Mathlib.Nat.{not-suc-le-zero}
use native.Mathlib.Omega.{arith}
use mathlib.Core.Path.{◌≡◌, refl, sym, subst, ap, ◌∙◌}
use mathlib.Core.Bool.{Bool, true, false}
use mathlib.Core.List.{List}
use lib.Dec.{leb, ltb, eqb, ltb→lt}
use lib.ListN.{length, get_or, set, length-map, length-set}
use lib.Seq.{ext_get_or, get_or-set_same, get_or-set_other}
use borrow.Author.Tests.{le-leb, lt-leb, eqb-true, eqb-false}
use Rattle.nr.specs.Rows.{keep, place}
use Rattle.nr.specs.Interleaver.{interleaver, pattern, interleave, deinterleave}
use Rattle.nr.proofs.Rows.{get_d_map, get_or-entries, has_get_d, place-has, apart}
use Rattle.nr.proofs.Tests.{all-has}
use Rattle.nr.proofs.Sifting.{passed, passed-lt, passed_entry, passed-all, passed-hit, passed-miss}
use Rattle.nr.proofs.Interleaver.{Permutes, permutes, table_below, length-deinterleave, deinterleave-at}

pub table-length : length interleaver ≡ 164
unfolding interleaver
table-length = refl

-- how many of the first m entries are at least 164 - K
abbrev pub before : ℕ → ℕ → ℕ
before K m = passed (leb (164 - K)) interleaver m

module _ (K : ℕ) (few : K ≤ 164) where
  kept-length : length (keep (leb (164 - K)) interleaver) ≡ K
  unfolding pattern
  kept-length = sym (length-map (keep (leb (164 - K)) interleaver) (λ x. x - (164 - K))) ∙ (permutes K few).size

  -- after the last turn
  pub whole : (m : ℕ) → 164 ≤ m → before K m ≡ K
  whole m l = passed-all (leb (164 - K)) interleaver m (omega (arith, table-length)) ∙ kept-length

-- ---- a turn: it reads entry m, after k entries that are at least 164 - K

-- entry m, x, is the next of these
pub record Counted (K k m x : ℕ) : Type 0 where
  pub room : k < K
  pub below : x < 164
  pub next : k + 1 ≡ before K (m + 1)
  pub spot : get_or (pattern K) k 0 ≡ x - (164 - K)

module _ {table : List ℕ} (same : table ≡ interleaver) {K : ℕ} (few : K ≤ 164) {k m x : ℕ} (l : m < 164) (read : x ≡ get_or table m 0) (e : k ≡ before K m) where
  is : get_or interleaver m 0 ≡ x
  is = ap (λ (r : List ℕ). get_or r m 0) (sym same) ∙ sym read

  inside : m < length interleaver
  inside = omega (arith, table-length)

  pub skips : x < 164 - K → k ≡ before K (m + 1)
  skips s = e ∙ sym (passed-miss (leb (164 - K)) interleaver m inside (lt-leb (164 - K) (get_or interleaver m 0) (omega (arith, is))))

  pub counts : 164 - K ≤ x → Counted K k m x
  unfolding pattern
  counts s = record {
    room = omega (arith, e, kept, kept-length K few);
    below = subst (λ (y : ℕ). y < 164) is (ltb→lt (get_or interleaver m 0) 164 (all-has (λ y. ltb y 164) interleaver table_below (get_or interleaver m 0) (has_get_d interleaver m 0 inside)));
    next = ap (λ (j : ℕ). j + 1) e ∙ sym (passed-hit (leb (164 - K)) interleaver m inside hit);
    spot =
        ap (λ (j : ℕ). get_or (pattern K) j 0) e
        ∙ get_d_map (λ y. y - (164 - K)) (keep (leb (164 - K)) interleaver) (before K m) 0 0 kept
        ∙ ap (λ (y : ℕ). y - (164 - K)) (passed_entry (leb (164 - K)) interleaver m inside hit ∙ is);
  }
    where
      hit : leb (164 - K) (get_or interleaver m 0) ≡ true
      hit = le-leb (164 - K) (get_or interleaver m 0) (omega (arith, is))

      kept : before K m < length (keep (leb (164 - K)) interleaver)
      kept = passed-lt (leb (164 - K)) interleaver m inside hit

-- ---- the output there, and the way back

pub output : (row : List ℕ) (k x : ℕ) → length row ≤ 164 → k < length row → get_or (pattern (length row)) k 0 ≡ x → get_or row x 0 ≡ get_or (interleave row) k 0
unfolding interleave
output row k x few l e =
    ap (λ (i : ℕ). get_or row i 0) (sym e) ∙ sym (get_or-entries (pattern (length row)) row k (omega (arith, (permutes (length row) few).size)))

-- the row's first k entries, each at its place
pub record Returned (row out : List ℕ) (k : ℕ) : Type 0 where
  pub size : length out ≡ length row
  pub entry : (j : ℕ) → j < k → get_or out (get_or (pattern (length row)) j 0) 0 ≡ get_or row j 0

pub returned-none : (row out : List ℕ) → length out ≡ length row → Returned row out 0
returned-none row out e = record { size = e; entry = λ j l. absurd (not-suc-le-zero l) }

module _ (row out : List ℕ) (few : length row ≤ 164) where
  abbrev pat : List ℕ
  pat = pattern (length row)

  -- one more: none of those before it is at its place
  pub returned-more : (k p v : ℕ) → Returned row out k → k < length row → get_or pat k 0 ≡ p → v ≡ get_or row k 0 → Returned row (set out p v) (k + 1)
  returned-more k p v r l e e' = record { size = length-set out p v ∙ r.size; entry = λ j m. go j m (eqb j k) refl }
    where
      perm : Permutes (length row) pat
      perm = permutes (length row) few

      below : p < length out
      below =
          let b : get_or pat k 0 < length row = perm.below (get_or pat k 0) (has_get_d pat k 0 (omega (arith, perm.size))) in
          omega (arith, r.size)

      go : (j : ℕ) → j < k + 1 → (b : Bool) → eqb j k ≡ b → get_or (set out p v) (get_or pat j 0) 0 ≡ get_or row j 0
      go j m true q =
          ap (λ (i : ℕ). get_or (set out p v) i 0) (ap (λ (i : ℕ). get_or pat i 0) (eqb-true j k q) ∙ e)
          ∙ get_or-set_same out p v 0 below ∙ e' ∙ ap (λ (i : ℕ). get_or row i 0) (sym (eqb-true j k q))
      go j m false q =
          let n : j < k = omega (arith, eqb-false j k q) in
          get_or-set_other out p (get_or pat j 0) v 0 (λ w. apart pat j k perm.once n (omega (arith, perm.size)) (w ∙ sym e))
          ∙ r.entry j n

  -- all
  pub returned-all : (k : ℕ) → Returned row out k → length row ≤ k → out ≡ deinterleave row
  returned-all k r l = ext_get_or 0 out (deinterleave row) (r.size ∙ sym (length-deinterleave row)) (λ i h. at i (subst (λ (m : ℕ). i < m) r.size h))
    where
      at : (i : ℕ) → i < length row → get_or out i 0 ≡ get_or (deinterleave row) i 0
      at i h =
          let s = place-has i pat ((permutes (length row) few).every i h) in
          ap (λ (x : ℕ). get_or out x 0) (sym s.1)
          ∙ r.entry (place i pat) (omega (arith, (permutes (length row) few).size)) ∙ sym (deinterleave-at row i h)
