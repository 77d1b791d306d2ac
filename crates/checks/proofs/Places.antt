-- The place of the first entry that passes a test: what a chain of `position` gives, and what Some and None say.
-- Assumes nothing.
use Rattle.std.proofs.Common.{◌≡◌, ℕ, suc, ◌+◌, ◌<◌, ◌≤◌, Bool, true, false, not, cond, Some, None, List, [], ◌∷◌, length, refl, sym, ap, arith}
use lib.Dec.{ltb}
use borrow.Author.Tests.{ltb-true}
use Rattle.std.proofs.lemmas.Option.{cond_some}
use Rattle.std.specs.List.{position, position_or_len}
use Rattle.nr.specs.Rows.{first}
use Rattle.checks.specs.Checks.{first_at}

module _ {X : Type 0} (p : X → Bool) where
  same : (xs : List X) → position_or_len p xs ≡ first p xs
  same [] = refl
  same (x ∷ xs) = go (p x) (same xs)
    where
      go : (b : Bool) → position_or_len p xs ≡ first p xs → cond (not b) (1 + position_or_len p xs) 0 ≡ cond b 0 (suc (first p xs))
      go true e = refl
      go false e = omega arith

  -- of `position`
  pub first_is : (xs : List X) → position p xs ≡ first_at p xs
  first_is xs = ap (λ (i : ℕ). cond (ltb i (length xs)) (Some i) None) (same xs)

  -- Some k: k is the place of the first that passes, and lies in the row
  pub first_at-some : (xs : List X) (k : ℕ) → first_at p xs ≡ Some k → (k ≡ first p xs) × (k < length xs)
  first_at-some xs k e =
      let h : (ltb (first p xs) (length xs) ≡ true) × (first p xs ≡ k) = cond_some _ _ _ e in
      (sym h.1, omega (arith, ltb-true (first p xs) (length xs) h.0, h.1))

  -- None: none passes
  pub first_at-none : (xs : List X) → first_at p xs ≡ None → length xs ≤ first p xs
  first_at-none xs e = grind (arith)
