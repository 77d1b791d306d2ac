-- Which numbers a call can give: coding none above 6 and describing none above 5, as `decoding-seven` and `looped-six` of nr have 7 and 6
-- for the others. So none of the four answers as a search alone does.
-- Assumes nothing.
use Prim.Native.Nat.{ℕ, ◌≤◌}
use native.Mathlib.Omega.{arith}
use mathlib.Core.Path.{◌≡◌, ap}
use mathlib.Core.Bool.{false, not}
use mathlib.Core.List.{List, [], ◌∷◌}
use mathlib.Core.Logic.{◌≢◌}
use lib.Dec.{eqb}
use lib.ListN.{length}
use Rattle.std.specs.Prelude.{Result, Err}
use Rattle.nr.specs.declared.Numbers.{Numbers}
use Rattle.nr.specs.declared.Refusal.{Refusal}
use Rattle.nr.specs.declared.Refusal.TheVariants.{NoCandidate}
use Rattle.nr.specs.Numbers.{K}
use Rattle.nr.specs.Answer.{number, given, tests, Outcome}
use Rattle.nr.specs.Coding.{bad_byte, coding_for, coding}
use Rattle.nr.specs.Describing.{roles, describing}
use Rattle.nr.proofs.Chains.{at_most}
use Rattle.nr.proofs.Refusals.{at-most-six}
use Rattle.nr.proofs.Promise1.{outcome-number}

pub coding-six : (s : Numbers) (payload out : List ℕ) → (coding s payload out).number ≤ 6
unfolding coding coding_for
coding-six s payload out = rw (outcome-number _ _ _ out) (at-most-six s.a s.e bad_byte payload s.a out s.e)

pub describing-five : (A E : ℕ) (out : List ℕ) → (describing A E out).number ≤ 5
unfolding describing
describing-five A E out =
    rw (outcome-number _ 0 (roles (K A) E) out) (at_most 0 (tests A E (false ∷ not (eqb (length out) 512) ∷ [])))

-- what such a call answers is not a search's refusal, and has a number up to 7
pub number-seven : {X : Type 0} (r : Result X Refusal) (buffer : List ℕ) (o : Outcome) → given r buffer ≡ o → o.number ≤ 7
    → (r ≢ Err NoCandidate) × (number r ≤ 7)
unfolding given number
number-seven r buffer o e l =
    let n : number r ≤ 7 = omega (arith, l, ap (λ (o : Outcome). o.number) e) in
    (λ q. absurd (omega (arith, n, ap number q)), n)
