-- The loop that marks the most reliable positions: it goes from the table's end down, and marks what passes.
-- Assumes nothing.
use Prim.Native.Nat.{ℕ, ◌+◌, ◌-◌, ◌≤◌, ◌<◌}
use native.Mathlib.Omega.{arith}
use mathlib.Core.Path.{◌≡◌, refl, sym, ap, ◌∙◌}
use mathlib.Core.Bool.{Bool, true, false, cond, ◌||◌}
use mathlib.Core.List.{List, [], ◌∷◌, ◌++◌, append-nil, append_assoc}
use lib.Dec.{eqb}
use lib.ListN.{length, get_or, set, drop, replicate, length-append, length-replicate, get_or-replicate, length-set}
use lib.Seq.{ext_get_or, drop_at, get_or-set_same, get_or-set_other}
use borrow.Author.Tests.{eqb-true, eqb-false}
use Rattle.nr.specs.Rows.{has, keep, last}
use Rattle.nr.specs.SuccessiveDecoder.{marks}
use Rattle.nr.proofs.RoundTrip.{length-marks, marks-at}
use Rattle.nr.proofs.Sifting.{keep_append}

-- ---- marks

module _ (N : ℕ) where
  -- none
  pub marks-none : replicate N 0 ≡ marks N []
  marks-none =
      ext_get_or 0 (replicate N 0) (marks N []) (length-replicate N 0 ∙ sym (length-marks N []))
      (λ i l. let h : i < N = omega (arith, length-replicate {A = ℕ} N 0) in get_or-replicate N i 0 0 h ∙ sym (marks-at N [] i h))

  -- one more
  pub marks-more : (ps : List ℕ) (p : ℕ) → p < N → set (marks N ps) p 1 ≡ marks N (p ∷ ps)
  marks-more ps p l =
      ext_get_or 0 (set (marks N ps) p 1) (marks N (p ∷ ps)) (length-set (marks N ps) p 1 ∙ length-marks N ps ∙ sym (length-marks N (p ∷ ps)))
      (λ i h. let m : i < N = omega (arith, length-set (marks N ps) p 1, length-marks N ps) in one i m ∙ sym (marks-at N (p ∷ ps) i m))
    where
      one : (i : ℕ) → i < N → get_or (set (marks N ps) p 1) i 0 ≡ cond (eqb i p || has i ps) 1 0
      one i m = go (eqb i p) refl
        where
          go : (b : Bool) → eqb i p ≡ b → get_or (set (marks N ps) p 1) i 0 ≡ cond (b || has i ps) 1 0
          go true e = ap (λ (j : ℕ). get_or (set (marks N ps) p 1) j 0) (eqb-true i p e) ∙ get_or-set_same (marks N ps) p 1 0 (omega (arith, length-marks N ps))
          go false e = get_or-set_other (marks N ps) p i 1 0 (eqb-false i p e) ∙ marks-at N ps i m

-- ---- the loop

-- `rest` is left to look at; of the entries that were seen, those that pass are marked, and `left` are still wanted
module _ (f : ℕ → Bool) (N k : ℕ) (xs : List ℕ) where
  pub record Choosing (row : List ℕ) (left : ℕ) (rest : List ℕ) : Type 0 where
    pub seen : List ℕ
    pub parts : rest ++ seen ≡ xs
    pub counted : left + length (keep f seen) ≡ k
    pub marked : row ≡ marks N (keep f seen)

  pub choosing : (row rest : List ℕ) → row ≡ replicate N 0 → rest ≡ xs → Choosing row k rest
  choosing row rest e r = record { seen = []; parts = append-nil rest ∙ r; counted = omega arith; marked = e ∙ marks-none N }

  module _ (row rest : List ℕ) (left : ℕ) (c : Choosing row left rest) where
    -- the last of the rest is looked at
    module _ (before : List ℕ) (p : ℕ) (e : rest ≡ before ++ p ∷ []) where
      next : before ++ p ∷ c.seen ≡ xs
      next = sym (ap (λ (r : List ℕ). r ++ c.seen) e ∙ append_assoc before (p ∷ []) c.seen) ∙ c.parts

      pub miss : f p ≡ false → Choosing row left before
      miss h = record { seen = p ∷ c.seen; parts = next; counted = rw h c.counted; marked = rw h c.marked }

      pub hit : f p ≡ true → p < N → 0 < left → Choosing (set row p 1) (left - 1) before
      hit h l m = record {
        seen = p ∷ c.seen;
        parts = next;
        counted = rw h (omega (arith, c.counted));
        marked = rw h (ap (λ (r : List ℕ). set r p 1) c.marked ∙ marks-more N (keep f c.seen) p l);
      }

    -- none is wanted any more: the k last of those that pass are marked
    pub chose : left ≡ 0 → row ≡ marks N (last k (keep f xs))
    chose e =
        let split : keep f xs ≡ keep f rest ++ keep f c.seen = ap (keep f) (sym c.parts) ∙ keep_append f rest c.seen in
        let size : length (keep f xs) - k ≡ length (keep f rest) = rw split (rw length-append (omega (arith, c.counted))) in
        c.marked ∙ ap (marks N) (sym (ap (λ (r : List ℕ). drop (length (keep f xs) - k) r) split
        ∙ drop_at (keep f rest) (keep f c.seen) (length (keep f xs) - k) (sym size)))

    -- while some are wanted there are entries to come
    pub more : k ≤ length (keep f xs) → length rest ≡ 0 → left ≡ 0
    more enough e = go rest c.parts e
      where
        go : (r : List ℕ) → r ++ c.seen ≡ xs → length r ≡ 0 → left ≡ 0
        go [] e z = omega (arith, c.counted, ap (λ (s : List ℕ). length (keep f s)) e)
        go (x ∷ r) e z = let no : ⊥ = omega arith in absurd no
