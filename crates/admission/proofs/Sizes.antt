-- N and the kind of rate matching, for our lengths.
-- Assumes nothing.
use Prim.Native.Nat.{ℕ, ◌*◌, ◌^◌}
use native.Mathlib.Omega.{arith}
use mathlib.Core.Path.{◌≡◌, refl}
use mathlib.Core.Bool.{Bool, true, false, cond}
use lib.Dec.{T, eqb, leb, eqb→eq, leb→le}
use borrow.Author.Tests.{leb-true, leb-false}
use Rattle.nr.specs.declared.RateMatching.TheVariants.{Repetition, Puncturing, Shortening}
use Rattle.nr.specs.Rows.{has, all}
use Rattle.nr.specs.Answer.{lengths}
use Rattle.nr.specs.Construction.{log2up, N, low_rate, rate_matching, exponent}
use Rattle.nr.proofs.Tests.{all-has, holds}
use Rattle.nr.proofs.Construction.{Sized, n-by-length}
use Rattle.admission.specs.Window.{Applies}

-- ---- the code length

-- the exponent by the length
abbrev pub listed : ℕ → ℕ
listed E = cond (eqb E 108) 7 (cond (eqb E 216) 8 9)

listed-test : T (all (λ E. eqb (listed E) (exponent E)) lengths)
unfolding log2up
listed-test = tt

pub listed-is : (E : ℕ) → has E lengths ≡ true → listed E ≡ exponent E
listed-is E h = eqb→eq (listed E) (exponent E) (all-has (λ F. eqb (listed F) (exponent F)) lengths listed-test E (holds h))

-- ---- the kind

-- 3N is at most 4E for our lengths, so that the prefix is ceil(3N/4 - E/2)
quarters-test : T (all (λ E. leb (3 * 2 ^ exponent E) (4 * E)) lengths)
unfolding log2up
quarters-test = tt

pub kind-applies : (K E : ℕ) → Sized K E → Applies (rate_matching K E) (N K E) E
unfolding rate_matching
kind-applies K E s = go (leb (N K E) E) refl (low_rate K E)
  where
    go : (b : Bool) → leb (N K E) E ≡ b → (c : Bool) → Applies (cond b Repetition (cond c Puncturing Shortening)) (N K E) E
    go true e c = leb-true (N K E) E e
    go false e true =
        let l = leb-false (N K E) E e in
        (omega arith, rw (n-by-length K E s) (leb→le (3 * 2 ^ exponent E) (4 * E) (all-has (λ F. leb (3 * 2 ^ exponent F) (4 * F)) lengths quarters-test E s.length)))
    go false e false = let l = leb-false (N K E) E e in omega arith
