-- The code that `construct` makes for the sizes of a call, in the form that coding and decoding take.
-- Assumes nothing.
use Prim.Native.Nat.{ℕ, ◌+◌, ◌^◌}
use mathlib.Core.Path.{◌≡◌, sym, subst, ap₂, ◌∙◌}
use Rattle.nr.specs.declared.Numbers.{Numbers}
use Rattle.nr.specs.declared.Sizes.{Sizes}
use Rattle.nr.specs.declared.code.Code.{Code}
use Rattle.nr.specs.Numbers.{K}
use Rattle.nr.specs.Answer.{refusal}
use Rattle.nr.specs.Construction.{Layout, layout}
use Rattle.nr.specs.RateMatching.{Fits}
use Rattle.nr.specs.Layouts.{layout_of}
use Rattle.construction.specs.Shapes.{Lays}
use Rattle.construction.proofs.Made.{layout_of as layout-is, count, fits as fits-sizes}

-- of the sizes that the checks hand on, which are the call's
pub lays-for : (s : Numbers) (sizes : Sizes) (made : Code) → (sizes.a ≡ s.a) × (sizes.e ≡ s.e) → Lays (layout (K sizes.a) sizes.e) made → Lays (layout (K s.a) s.e) made
lays-for s sizes made e = subst (λ (l : Layout). Lays l made) (ap₂ (λ (a e : ℕ). layout (K a) e) e.0 e.1)

-- and these are accepted
pub taken : (s : Numbers) (sizes : Sizes) → (sizes.a ≡ s.a) × (sizes.e ≡ s.e) → refusal s.a s.e ≡ 0
taken s sizes e = sym (ap₂ refusal e.0 e.1) ∙ sizes.accepted

module _ (s : Numbers) (ok : refusal s.a s.e ≡ 0) (made : Code) (lays : Lays (layout (K s.a) s.e) made) where
  abbrev sizes : Sizes
  sizes = record { a = s.a; e = s.e; accepted = ok }

  pub code_is : layout_of made ≡ layout (K s.a) s.e
  code_is = layout-is (layout (K s.a) s.e) made lays

  pub row_is : made.k ≡ s.a + 24
  row_is = count sizes made lays

  pub fits : Fits made.kind (2 ^ made.length.n) s.e
  fits = fits-sizes sizes made lays
