-- Marks are ones, placed as bits are; and the loop that picks bits at positions.
-- Assumes nothing.
use Prim.Native.Nat.{ℕ, ◌<◌}
use native.Mathlib.Omega.{arith}
use mathlib.Core.Path.{◌≡◌, refl, sym, subst, ap, ◌∙◌}
use mathlib.Core.Bool.{Bool, true, false, not, cond}
use mathlib.Core.List.{List}
use lib.Dec.{T}
use lib.ListN.{length, get_or, replicate, length-replicate, get_or-replicate}
use lib.Seq.{ext_get_or}
use Rattle.nr.specs.Rows.{has}
use Rattle.nr.specs.SuccessiveDecoder.{marks}
use Rattle.nr.specs.Coding.{placed}
use Rattle.nr.proofs.Rows.{place-has}
use Rattle.nr.proofs.RoundTrip.{length-placed, placed_at, placed_off, length-marks, marks-at}

module _ (N : ℕ) (positions : List ℕ) where
  abbrev ones : List ℕ
  ones = replicate (length positions) 1

  pub ones-placed : placed N positions (replicate (length positions) 1) ≡ marks N positions
  ones-placed =
      ext_get_or 0 (placed N positions ones) (marks N positions) (length-placed N positions ones ∙ sym (length-marks N positions))
      (λ p h. let l : p < N = omega (arith, length-placed N positions ones) in go p l (has p positions) refl ∙ sym (marks-at N positions p l))
    where
      go : (p : ℕ) → p < N → (c : Bool) → has p positions ≡ c → get_or (placed N positions ones) p 0 ≡ cond (has p positions) 1 0
      go p l true e =
          let s = place-has p positions (subst T (sym e) tt) in
          placed_at N positions ones p l ∙ get_or-replicate (length positions) _ 1 0 s.0 ∙ sym (ap (λ (c : Bool). cond c 1 0) e)
      go p l false e =
          placed_off N positions ones (length-replicate (length positions) 1) p l (subst (λ (c : Bool). T (not c)) (sym e) tt)
          ∙ sym (ap (λ (c : Bool). cond c 1 0) e)
