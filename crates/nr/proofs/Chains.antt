-- A row of tests in turn, of any length: when `first_number` gives 0, and when which number; what stands before and behind others.
-- Assumes nothing.
use Prim.Native.Nat.{ℕ, zero, suc, ◌+◌, ◌≤◌}
use native.Mathlib.Nat.{suc-ne-zero}
use native.Mathlib.Omega.{arith}
use mathlib.Core.Path.{◌≡◌, refl, sym, ap, ◌∙◌}
use mathlib.Core.Logic.{◌⊎◌, inl, inr, ◌↔◌}
use mathlib.Core.Bool.{Bool, true, false}
use mathlib.Core.List.{List, [], ◌∷◌, ◌++◌}
use lib.ListN.{length}
use Rattle.nr.specs.Answer.{first_number}
use Rattle.nr.proofs.Tests.{clash}

-- no test applies
abbrev pub None : List Bool → Type 0
None [] = Unit {0}
None (t ∷ ts) = (t ≡ false) × None ts

-- test k applies, and none before it
abbrev pub Applies : ℕ → List Bool → Type 0
Applies k [] = ⊥
Applies zero (t ∷ ts) = t ≡ true
Applies (suc k) (t ∷ ts) = (t ≡ false) × Applies k ts

-- ---- what each number says

pub none : (i : ℕ) (ts : List Bool) → first_number (suc i) ts ≡ 0 → None ts
none i [] e = tt
none i (true ∷ ts) e = absurd (suc-ne-zero i e)
none i (false ∷ ts) e = (refl, none (suc i) ts e)

pub nothing : (i : ℕ) (ts : List Bool) → None ts → first_number i ts ≡ 0
nothing i [] n = refl
nothing i (true ∷ ts) n = clash refl n.0
nothing i (false ∷ ts) n = nothing (suc i) ts n.1

-- numbers begin with the row and end with it
pub at_least : (i : ℕ) (ts : List Bool) → (first_number i ts ≡ 0) ⊎ (i ≤ first_number i ts)
at_least i [] = inl refl
at_least i (true ∷ ts) = inr (omega arith)
at_least i (false ∷ ts) = elim (at_least (suc i) ts) [ inl e ↦ inl e | inr l ↦ inr (omega arith) ]

pub at_most : (i : ℕ) (ts : List Bool) → first_number (suc i) ts ≤ i + length ts
at_most i [] = omega arith
at_most i (true ∷ ts) = omega arith
at_most i (false ∷ ts) = let h = at_most (suc i) ts in omega arith

-- where a number is given, its test applies and none before it; and the other way
pub applies : (i k : ℕ) (ts : List Bool) → first_number (suc i) ts ≡ suc (i + k) → Applies k ts
applies i k [] e = absurd (suc-ne-zero (i + k) (sym e))
applies i zero (true ∷ ts) e = refl
applies i (suc k) (true ∷ ts) e = let z : ⊥ = omega arith in absurd z
applies i zero (false ∷ ts) e = elim (at_least (suc (suc i)) ts) [
  | inl z ↦ absurd (suc-ne-zero (i + 0) (sym e ∙ z))
  | inr l ↦ let z : ⊥ = omega arith in absurd z
]
applies i (suc k) (false ∷ ts) e = (refl, applies (suc i) k ts (e ∙ omega arith))

pub given_by : (i k : ℕ) (ts : List Bool) → Applies k ts → first_number (suc i) ts ≡ suc (i + k)
given_by i k [] a = absurd a
given_by i zero (true ∷ ts) a = omega arith
given_by i (suc k) (true ∷ ts) a = clash refl a.0
given_by i zero (false ∷ ts) a = clash a refl
given_by i (suc k) (false ∷ ts) a = given_by (suc i) k ts a.1 ∙ omega arith

-- ---- two rows, one behind the other

pub ahead : (i : ℕ) (ts us : List Bool) → (first_number (suc i) ts ≡ 0 → ⊥) → first_number (suc i) (ts ++ us) ≡ first_number (suc i) ts
ahead i [] us n = absurd (n refl)
ahead i (true ∷ ts) us n = refl
ahead i (false ∷ ts) us n = ahead (suc i) ts us n

pub behind : (i : ℕ) (ts us : List Bool) → first_number (suc i) ts ≡ 0 → first_number (suc i) (ts ++ us) ≡ first_number (suc i + length ts) us
behind i [] us e = ap (λ (j : ℕ). first_number j us) (omega arith)
behind i (true ∷ ts) us e = absurd (suc-ne-zero i e)
behind i (false ∷ ts) us e = behind (suc i) ts us e ∙ ap (λ (j : ℕ). first_number j us) (omega arith)

none-append : (ts us : List Bool) → None (ts ++ us) ↔ (None ts × None us)
none-append [] us = (λ n. (tt, n), λ n. n.1)
none-append (t ∷ ts) us =
    let r = none-append ts us in
    (λ n. let m = r.0 n.1 in ((n.0, m.0), m.1), λ n. (n.0.0, r.1 (n.0.1, n.1)))

-- test k of what stands behind a row
abbrev pub past : List Bool → ℕ → ℕ
past [] k = k
past (t ∷ ts) k = suc (past ts k)

applies-append : (k : ℕ) (ts us : List Bool) → Applies (past ts k) (ts ++ us) ↔ (None ts × Applies k us)
applies-append k [] us = (λ a. (tt, a), λ a. a.1)
applies-append k (t ∷ ts) us =
    let r = applies-append k ts us in
    (λ a. let b = r.0 a.1 in ((a.0, b.0), b.1), λ a. (a.0.0, r.1 (a.0.1, a.1)))

-- 0, and each number of the second row, come exactly where the first row gives 0 and the second row's tests say so
pub later-none : (ts us : List Bool) → (first_number 1 (ts ++ us) ≡ 0) ↔ ((first_number 1 ts ≡ 0) × None us)
later-none ts us = (
  λ e. let n = (none-append ts us).0 (none 0 (ts ++ us) e) in (nothing 1 ts n.0, n.1),
  λ h. nothing 1 (ts ++ us) ((none-append ts us).1 (none 0 ts h.0, h.1)),
)

pub later : (k : ℕ) (ts us : List Bool) → (first_number 1 (ts ++ us) ≡ suc (past ts k)) ↔ ((first_number 1 ts ≡ 0) × Applies k us)
later k ts us = (
  λ e. let a = (applies-append k ts us).0 (applies 0 (past ts k) (ts ++ us) (e ∙ omega arith)) in (nothing 1 ts a.0, a.1),
  λ h. given_by 0 (past ts k) (ts ++ us) ((applies-append k ts us).1 (none 0 ts h.0, h.1)) ∙ omega arith,
)
