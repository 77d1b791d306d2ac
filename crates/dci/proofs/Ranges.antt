-- The ranges of soft values and of strengths.
-- Assumes nothing.
use Prim.Native.Nat.{ℕ, suc}
use native.Mathlib.Omega.{arith}
use mathlib.Core.Path.{◌≡◌, refl, sym, ap, ap₂}
use mathlib.Core.Bool.{Bool, true, false, cond, ◌||◌}
use mathlib.Core.List.{List, [], ◌∷◌}
use lib.Dec.{ltb}
use lib.IntN.{ℤ, pos, negsuc}
use lib.ListN.{length}
use borrow.Author.Tests.{lt-ltb, le-ltb, ltb-true, ltb-false}
use Rattle.std.specs.Prelude.{Some, None}
use Rattle.nr.specs.Rows.{first}
use Rattle.nr.specs.Decoding.{bad_soft}
use Rattle.nr.specs.Loopback.{bad_strength}
use Rattle.checks.specs.Checks.{beyond, first_at}

first-same : {X : Type 0} (f g : X → Bool) → ((x : X) → f x ≡ g x) → (row : List X) → first f row ≡ first g row
first-same f g e [] = refl
first-same f g e (x ∷ row) = ap₂ (λ (b : Bool) (k : ℕ). cond b 0 (suc k)) (e x) (first-same f g e row)

pub soft-beyond : (x : ℤ) → beyond (negsuc 126) (pos 127) x ≡ bad_soft x
unfolding bad_soft
soft-beyond (pos n) = refl
soft-beyond (negsuc n) = go (ltb 126 n) refl
  where
    go : (b : Bool) → ltb 126 n ≡ b → b || false ≡ ltb 127 (suc n)
    go true e = let h = ltb-true 126 n e in sym (lt-ltb 127 (suc n) (omega arith))
    go false e = let h = ltb-false 126 n e in sym (le-ltb 127 (suc n) (omega arith))

pub first-soft : (row : List ℤ) → first (beyond (negsuc 126) (pos 127)) row ≡ first bad_soft row
first-soft = first-same (beyond (negsuc 126) (pos 127)) bad_soft soft-beyond

pub first_at-soft : (row : List ℤ) → first_at (beyond (negsuc 126) (pos 127)) row ≡ first_at bad_soft row
first_at-soft row = ap (λ (i : ℕ). cond (ltb i (length row)) (Some i) None) (first-soft row)

pub first-strength : (row : List ℤ) → first (beyond (pos 1) (pos 127)) row ≡ first bad_strength row
unfolding bad_strength
first-strength row = refl
