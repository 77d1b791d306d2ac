-- Document 01, "Transform, selection, scrambling": bit selection (38.212 5.4.1).
-- Assumes nothing.
use Rattle.std.specs.Prelude.{ℕ, ◌+◌, ◌-◌, ◌%◌, ◌≤◌, ◌<◌, List, map}
use Rattle.nr.specs.declared.RateMatching.{RateMatching}
use Rattle.nr.specs.declared.RateMatching.TheVariants.{Repetition, Puncturing, Shortening}
use Rattle.nr.specs.Rows.{count, entries}
use Rattle.nr.specs.Construction.{J}

-- what the kind says of N and E
abbrev pub Fits : RateMatching → ℕ → ℕ → Type 0
Fits Repetition N E = N ≤ E
Fits Puncturing N E = E < N
Fits Shortening N E = E < N

-- y_i = d at J(i)
unfoldable pub sub_blocks : ℕ → List ℕ → List ℕ
sub_blocks N d = entries (map (J N) (count 0 N)) d

-- sent bit k is y at this place
unfoldable pub selected : RateMatching → ℕ → ℕ → ℕ → ℕ
selected Repetition N E k = k % N
selected Puncturing N E k = k + (N - E)
selected Shortening N E k = k

-- the E sent bits of the code word d
unfoldable pub select : RateMatching → ℕ → ℕ → List ℕ → List ℕ
select kind N E d = entries (map (selected kind N E) (count 0 E)) (sub_blocks N d)
