-- The code that `construct` makes of sizes that are accepted, in the form that coding and decoding take.
-- Assumes nothing.
use Prim.Native.Nat.{ℕ, ◌^◌}
use mathlib.Core.Path.{◌≡◌, sym, subst, ap, ◌∙◌}
use mathlib.Core.List.{List}
use lib.ListN.{length, take}
use lib.Seq.{take_at}
use Rattle.nr.specs.declared.RateMatching.{RateMatching}
use Rattle.nr.specs.declared.Sizes.{Sizes}
use Rattle.nr.specs.declared.code.Code.{Code}
use Rattle.nr.specs.Numbers.{K}
use Rattle.nr.specs.Construction.{Layout, layout}
use Rattle.nr.specs.RateMatching.{Fits}
use Rattle.nr.specs.Codes.{code}
use Rattle.nr.proofs.Construction.{Sized, accepted, positions}
use Rattle.nr.proofs.RoundTrip.{Sound}
use Rattle.nr.proofs.Promise3.{sound}
use Rattle.construction.specs.Shapes.{Lays}

-- for any layout
module _ (l : Layout) (made : Code) (lays : Lays l made) where
  abbrev pub information : List ℕ
  information = take made.k made.positions

  -- the first k of the 164 positions are the information positions
  pub taken : information ≡ l.positions
  taken = ap (take made.k) lays.positions ∙ take_at l.positions _ made.k (sym lays.k)

  pub layout_of : code made.length.n made.kind information ≡ l
  layout_of =
      ap (λ (n : ℕ). code n made.kind information) lays.n ∙ ap (λ (kind : RateMatching). code l.n kind information) lays.kind
      ∙ ap (code l.n l.kind) taken

  -- there are as many
  pub exact : length information ≡ made.k
  exact = ap length taken ∙ sym lays.k

-- for document 01's
module _ (sizes : Sizes) (made : Code) (lays : Lays (layout (K sizes.a) sizes.e) made) where
  abbrev l : Layout
  l = layout (K sizes.a) sizes.e

  pub sized : Sized (K sizes.a) sizes.e
  sized = accepted sizes.a sizes.e sizes.accepted

  pub count : made.k ≡ K sizes.a
  count = lays.k ∙ (positions (K sizes.a) sizes.e sized).size

  pub is-sound : Sound (code made.length.n made.kind (information l made lays)) sizes.e
  is-sound = subst (λ (l' : Layout). Sound l' sizes.e) (sym (layout_of l made lays)) (sound (K sizes.a) sizes.e sized)

  pub fits : Fits made.kind (2 ^ made.length.n) sizes.e
  fits = is-sound.fits
