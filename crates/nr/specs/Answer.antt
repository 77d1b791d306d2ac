-- Document 01, "Numbers given back".
-- Assumes nothing.
use Rattle.std.specs.Prelude.{ℕ, zero, suc, Bool, cond, not, ◌||◌, List, [], ◌∷◌, eqb, ltb, length, Result, Ok, Err}
use Rattle.nr.specs.declared.Refusal.{Refusal}
use Rattle.nr.specs.declared.Refusal.TheVariants.{PayloadSize, CodedLength, TooManyBits, InputLength, OutputLength, BadEntry, ParityMismatch, NoCandidate}
use Rattle.nr.specs.Rows.{has, first}
use Rattle.nr.specs.Numbers.{K}

-- the coded lengths
abbrev pub lengths : List ℕ
lengths = 108 ∷ 216 ∷ 432 ∷ 864 ∷ 1728 ∷ []

-- the number of each answer: 0 where the call did its work, else that of the refusal
unfoldable pub number : {X : Type 0} → Result X Refusal → ℕ
number (Ok x) = 0
number (Err PayloadSize) = 1
number (Err CodedLength) = 2
number (Err TooManyBits) = 3
number (Err InputLength) = 4
number (Err OutputLength) = 5
number (Err (BadEntry k)) = 6
number (Err ParityMismatch) = 7
number (Err NoCandidate) = 8

-- the place that it carries; 0 where the paper gives none
unfoldable pub place_of : {X : Type 0} → Result X Refusal → ℕ
place_of (Ok x) = 0
place_of (Err PayloadSize) = 0
place_of (Err CodedLength) = 0
place_of (Err TooManyBits) = 0
place_of (Err InputLength) = 0
place_of (Err OutputLength) = 0
place_of (Err (BadEntry k)) = k
place_of (Err ParityMismatch) = 0
place_of (Err NoCandidate) = 0

-- the numbers from i on, one for each test in turn: the first whose test applies, 0 if none does
abbrev pub first_number : ℕ → List Bool → ℕ
first_number i [] = 0
first_number i (test ∷ tests) = cond test i (first_number (suc i) tests)

-- A is outside 12..140
abbrev pub outside : ℕ → Bool
outside A = ltb A 12 || ltb 140 A

-- the tests of 1 to 3, with those of 4 to 6 behind them
abbrev pub tests : ℕ → ℕ → List Bool → List Bool
tests A E more = outside A ∷ not (has E lengths) ∷ ltb E (K A) ∷ more

-- the numbers 1 to 3: 0 where A and E are accepted
unfoldable pub refusal : ℕ → ℕ → ℕ
refusal A E = first_number 1 (tests A E [])

-- the numbers 1 to 6: the input should be `asked` long, the output buffer `wanted`, and no entry of the input `bad`
unfoldable pub refusal_of : {X : Type 0} → ℕ → ℕ → (X → Bool) → List X → ℕ → List ℕ → ℕ → ℕ
refusal_of A E bad input asked out wanted =
    first_number 1
    (tests A E (not (eqb (length input) asked) ∷ not (eqb (length out) wanted) ∷ ltb (first bad input) (length input) ∷ []))

-- what a call gives: the number, the place that it carries, and what the output buffer then holds
pub record Outcome : Type 0 where
  pub number : ℕ
  pub place : ℕ
  pub buffer : List ℕ

-- by the number: 0 leaves the new row in the buffer, every other the old one; 6 carries the place of the first bad entry
unfoldable pub outcome : ℕ → ℕ → List ℕ → List ℕ → Outcome
outcome zero at new old = record { number = 0; place = 0; buffer = new }
outcome (suc i) at new old = record { number = suc i; place = cond (eqb (suc i) 6) at 0; buffer = old }

-- an answer of the code with the buffer that it leaves, as an outcome
unfoldable pub given : {X : Type 0} → Result X Refusal → List ℕ → Outcome
given r buffer = record { number = number r; place = place_of r; buffer = buffer }

-- what a call that decodes gives: the same, and the noise count
pub record Reading : Type 0 where
  pub number : ℕ
  pub place : ℕ
  pub buffer : List ℕ
  pub noise : ℕ

abbrev pub reading : Outcome → ℕ → Reading
reading o noise = record { number = o.number; place = o.place; buffer = o.buffer; noise = noise }

-- by the number: a count stands with 0, and is 0 with every other
unfoldable pub on_done : ℕ → ℕ → ℕ
on_done zero noise = noise
on_done (suc i) noise = 0
