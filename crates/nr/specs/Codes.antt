-- What is asked of a code's information positions, and the layout of a code that the functions hand on.
-- Assumes nothing.
use Rattle.std.specs.Prelude.{ℕ, ◌≤◌, ◌<◌, List, T, length}
use Rattle.nr.specs.declared.RateMatching.{RateMatching}
use Rattle.nr.specs.Rows.{has, ascending}
use Rattle.nr.specs.Construction.{Layout}

-- at most 164, ascending, below N
pub record Positions (N : ℕ) (positions : List ℕ) : Type 0 where
  pub few : length positions ≤ 164
  pub rising : T (ascending positions)
  pub below : (p : ℕ) → T (has p positions) → p < N

-- the layout of these parts
abbrev pub code : ℕ → RateMatching → List ℕ → Layout
code n kind positions = record { n = n; kind = kind; positions = positions }
