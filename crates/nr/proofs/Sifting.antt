-- A loop that goes along a row and keeps the entries that pass a test: how many have passed, and which is the next.
-- Assumes nothing.
use Prim.Native.Nat.{ℕ, suc, ◌+◌, ◌≤◌, ◌<◌}
use native.Mathlib.Numerals.{add-one}
use native.Mathlib.Omega.{arith}
use mathlib.Core.Path.{◌≡◌, refl, sym, subst, ap, ◌∙◌}
use mathlib.Core.Bool.{Bool, true, false, cond}
use mathlib.Core.List.{List, [], ◌∷◌, ◌++◌}
use lib.ListN.{length, get_or, take, drop, length-append}
use lib.Seq.{take-suc, take_all, split_at, get_or_at}
use Rattle.nr.specs.Rows.{keep}

module _ (f : ℕ → Bool) where
  pub keep_append : (a b : List ℕ) → keep f (a ++ b) ≡ keep f a ++ keep f b
  keep_append [] b = refl
  keep_append (x ∷ a) b = go (f x) (keep_append a b)
    where
      go : (c : Bool) → keep f (a ++ b) ≡ keep f a ++ keep f b
          → cond c (x ∷ keep f (a ++ b)) (keep f (a ++ b)) ≡ cond c (x ∷ keep f a) (keep f a) ++ keep f b
      go true e = ap (λ (r : List ℕ). x ∷ r) e
      go false e = e

  -- how many of the first m entries pass
  abbrev pub passed : List ℕ → ℕ → ℕ
  passed xs m = length (keep f (take m xs))

  module _ (xs : List ℕ) (m : ℕ) where
    pub passed-all : length xs ≤ m → passed xs m ≡ length (keep f xs)
    passed-all h = ap (λ (r : List ℕ). length (keep f r)) (take_all m xs h)

    module _ (l : m < length xs) where
      one : keep f (take (m + 1) xs) ≡ keep f (take m xs) ++ keep f (get_or xs m 0 ∷ [])
      one =
          ap (λ (k : ℕ). keep f (take k xs)) (add-one m) ∙ ap (keep f) (take-suc xs m 0 l)
          ∙ keep_append (take m xs) (get_or xs m 0 ∷ [])

      -- the entry at m does not pass
      pub passed-miss : f (get_or xs m 0) ≡ false → passed xs (m + 1) ≡ passed xs m
      passed-miss e =
          ap length (one ∙ ap (λ (c : Bool). keep f (take m xs) ++ cond c (get_or xs m 0 ∷ []) []) e)
          ∙ length-append (keep f (take m xs)) [] ∙ omega arith

      -- it passes: it is the next of those that pass
      pub passed-hit : f (get_or xs m 0) ≡ true → passed xs (m + 1) ≡ passed xs m + 1
      passed-hit e =
          ap length (one ∙ ap (λ (c : Bool). keep f (take m xs) ++ cond c (get_or xs m 0 ∷ []) []) e)
          ∙ length-append (keep f (take m xs)) (get_or xs m 0 ∷ [])

      all_of : f (get_or xs m 0) ≡ true → keep f xs ≡ keep f (take m xs) ++ get_or xs m 0 ∷ keep f (drop (suc m) xs)
      all_of e =
          ap (keep f) (split_at xs m 0 l) ∙ keep_append (take m xs) (get_or xs m 0 ∷ drop (suc m) xs)
          ∙ ap (λ (c : Bool). keep f (take m xs) ++ cond c (get_or xs m 0 ∷ keep f (drop (suc m) xs)) (keep f (drop (suc m) xs))) e

      pub passed_entry : f (get_or xs m 0) ≡ true → get_or (keep f xs) (passed xs m) 0 ≡ get_or xs m 0
      passed_entry e =
          ap (λ (r : List ℕ). get_or r (passed xs m) 0) (all_of e)
          ∙ get_or_at (keep f (take m xs)) (get_or xs m 0) (keep f (drop (suc m) xs)) 0 (passed xs m) refl

      pub passed-lt : f (get_or xs m 0) ≡ true → passed xs m < length (keep f xs)
      passed-lt e =
          subst (λ (k : ℕ). passed xs m < k) (sym (ap length (all_of e) ∙ length-append (keep f (take m xs)) (get_or xs m 0 ∷ keep f (drop (suc m) xs))))
          (omega arith)
