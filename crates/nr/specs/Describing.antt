-- The call that describes a code: what each of the positions 0..511 is for, by a number. Its outcome, for all inputs.
-- Assumes nothing.
use Rattle.std.specs.Prelude.{ℕ, cond, false, not, List, [], ◌∷◌, map, eqb, leb, length}
use Rattle.nr.specs.declared.RateMatching.{RateMatching}
use Rattle.nr.specs.declared.RateMatching.TheVariants.{Repetition, Puncturing, Shortening}
use Rattle.nr.specs.Rows.{count, has}
use Rattle.nr.specs.Numbers.{K}
use Rattle.nr.specs.Answer.{first_number, tests, Outcome, outcome}
use Rattle.nr.specs.Construction.{N, rate_matching, barred, chosen}

-- a barred position: 2 frozen because of puncturing, 3 because of shortening; repetition bars none
unfoldable pub barred_as : RateMatching → ℕ
barred_as Repetition = 2
barred_as Puncturing = 2
barred_as Shortening = 3

-- 4 where a position is not below N, 2 or 3 where it is barred, 1 where it is chosen, an information position, and
-- 0 where it is frozen since others are more reliable
unfoldable pub roles : ℕ → ℕ → List ℕ
roles K E =
    let bars : List ℕ = barred (rate_matching K E) (N K E) E in
    let best : List ℕ = chosen (rate_matching K E) (N K E) K E in
    map (λ p. cond (leb (N K E) p) 4 (cond (has p bars) (barred_as (rate_matching K E)) (cond (has p best) 1 0))) (count 0 512)

-- 1 to 3 as always; 5 where the output is not 512 long; else 0, and the output holds the roles. With no input there is no 4 and no 6
unfoldable pub describing : ℕ → ℕ → List ℕ → Outcome
describing A E out = outcome (first_number 1 (tests A E (false ∷ not (eqb (length out) 512) ∷ []))) 0 (roles (K A) E) out
