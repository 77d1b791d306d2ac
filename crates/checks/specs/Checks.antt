-- The numbers 1 to 5, which the sizes alone decide, values outside a range, and the place of the first entry that passes a test.
-- Assumes nothing.
use Rattle.std.specs.Prelude.{ℕ, ◌≡◌, Bool, cond, not, ◌||◌, List, [], ◌∷◌, eqb, ltb, length, ℤ, Option, Some, None, Result}
use Rattle.std.specs.Int.Signed.{lt_z}
use Rattle.nr.specs.declared.Refusal.{Refusal}
use Rattle.nr.specs.Rows.{first}
use Rattle.nr.specs.Answer.{first_number, tests, number, place_of}

-- the input should be `asked` long and is `input`, the output buffer `wanted` and is `out`
abbrev pub size_refusal : ℕ → ℕ → ℕ → ℕ → ℕ → ℕ → ℕ
size_refusal A E input asked out wanted = first_number 1 (tests A E (not (eqb input asked) ∷ not (eqb out wanted) ∷ []))

-- the answer has that number, and no place
pub record Says {X : Type 0} (i : ℕ) (r : Result X Refusal) : Type 0 where
  pub number : number r ≡ i
  pub place : place_of r ≡ 0

-- outside low..high
abbrev pub beyond : ℤ → ℤ → ℤ → Bool
beyond low high x = lt_z x low || lt_z high x

-- the first place that passes the test, if one does
abbrev pub first_at : {X : Type 0} → (X → Bool) → List X → Option ℕ
first_at p xs =
    let i : ℕ = first p xs in
    cond (ltb i (length xs)) (Some i) None
