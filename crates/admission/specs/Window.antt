-- Which positions may carry information, as a test on the position and its rank in the sub-block order.
-- Assumes nothing.
use Rattle.std.specs.Prelude.{ℕ, ◌-◌, ◌*◌, ◌^◌, ◌≤◌, Bool, not, ◌&&◌, List, map, leb, ltb}
use Rattle.nr.specs.declared.RateMatching.{RateMatching}
use Rattle.nr.specs.declared.RateMatching.TheVariants.{Repetition, Puncturing, Shortening}
use Rattle.nr.specs.Rows.{count, has, place}
use Rattle.nr.specs.Construction.{P, barred, rank}
use Rattle.admission.specs.declared.Window.{Window}

-- where each sub-block stands in the order P
unfoldable pub ranks : List ℕ
ranks = map (λ b. place b P) (count 0 32)

-- what holds of N and E where a kind applies, for our lengths
abbrev pub Applies : RateMatching → ℕ → ℕ → Type 0
Applies Repetition N E = N ≤ E
Applies Puncturing N E = (E ≤ N) × (3 * N ≤ 4 * E)
Applies Shortening N E = E ≤ N

-- below N and not frozen because of rate matching
abbrev pub usable : RateMatching → ℕ → ℕ → ℕ → Bool
usable kind N E p = ltb p N && not (has p (barred kind N E))

-- below N, from the window's front on, and of a rank inside the window
unfoldable pub admits : ℕ → Window → ℕ → Bool
admits n w p = ltb p (2 ^ n) && (leb w.front p && (leb w.lo (rank (n - 5) p) && ltb (rank (n - 5) p) w.hi))
