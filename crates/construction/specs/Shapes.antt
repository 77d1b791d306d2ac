-- A code as it is worked out: its marks, its layout, and what a position is for.
-- Assumes nothing.
use Rattle.std.specs.Prelude.{ℕ, ◌-◌, ◌≡◌, cond, not, List, ◌++◌, eqb, leb, length, get_or, replicate}
use Rattle.nr.specs.declared.code.Code.{Code}
use Rattle.nr.specs.Rows.{count, keep}
use Rattle.nr.specs.Construction.{Layout}
use Rattle.admission.specs.declared.Window.{Window}
use Rattle.admission.specs.Window.{admits}

-- the places of a row that are not 0
abbrev pub marked : List ℕ → List ℕ
marked row = keep (λ p. not (eqb (get_or row p 0) 0)) (count 0 (length row))

-- 164 entries: a row, then 0
abbrev pub padded : List ℕ → List ℕ
padded row = row ++ replicate (164 - length row) 0

-- the code's layout is the definition's
pub record Lays (l : Layout) (made : Code) : Type 0 where
  pub n : made.length.n ≡ l.n
  pub kind : made.kind ≡ l.kind
  pub k : made.k ≡ length l.positions
  pub positions : made.positions ≡ padded l.positions

-- what a position is for, by a row of marks below N: 4 past its end, `bar` outside the window, else the mark
abbrev pub role_of : ℕ → Window → ℕ → List ℕ → ℕ → ℕ
role_of n w bar row p = cond (leb (length row) p) 4 (cond (admits n w p) (get_or row p 0) bar)
