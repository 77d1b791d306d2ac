-- From the answer of the checks to the outcome of the call that describes a code.
-- Assumes nothing.
use Prim.Native.Nat.{ℕ, zero, suc}
use mathlib.Core.Path.{◌≡◌, refl, sym, ap, ◌∙◌}
use mathlib.Core.List.{List}
use lib.ListN.{length}
use Rattle.std.specs.Prelude.{Ok, Err}
use Rattle.nr.specs.declared.Refusal.{Refusal}
use Rattle.nr.specs.Numbers.{K}
use Rattle.nr.specs.Answer.{number, place_of, refusal, outcome, given}
use Rattle.nr.specs.Describing.{roles, describing}
use Rattle.nr.proofs.Promise1.{outcome-number}
use Rattle.nr.proofs.Describing.{placeless, describing-done}
use Rattle.checks.specs.Checks.{size_refusal, Says}
use Rattle.checks.proofs.Refusing.{refused, done, passed_on}

-- a refused call carries no place here and leaves the old buffer
kept : (i : ℕ) (new old : List ℕ) → (i ≡ 0 → ⊥) → outcome i 0 new old ≡ record { number = i; place = 0; buffer = old }
unfolding outcome
kept zero new old n = absurd (n refl)
kept (suc i) new old n = ap (λ (x : ℕ). record { number = suc i; place = x; buffer = old }) (placeless (suc i) new old)

module _ (A E : ℕ) (out : List ℕ) where
  abbrev size : ℕ
  size = size_refusal A E 0 0 (length out) 512

  -- the call, by its number
  describing-is : describing A E out ≡ outcome size 0 (roles (K A) E) out
  unfolding describing
  describing-is = refl

  pub telling-sizes : (Z : Type 0) {Y : Type 0} (r : Refusal) → Says {X = Y} size (Err r) → given {X = Z} (Err r) out ≡ describing A E out
  unfolding given
  telling-sizes Z r y =
      let z : Says {X = Z} size (Err r) = passed_on y in
      cc (z.number, z.place, kept size (roles (K A) E) out (λ e. refused Z r (z.number ∙ e)), describing-is)

  module _ {Y : Type 0} (y : Y) (says : Says size (Ok y)) where
    none : size ≡ 0
    none = sym says.number ∙ done y

    pub telling-passes : (refusal A E ≡ 0) × (length out ≡ 512)
    unfolding describing
    telling-passes = (describing-done A E out).0 (outcome-number size 0 (roles (K A) E) out ∙ none)

    pub telling-done : {Z : Type 0} (z : Z) (new : List ℕ) → new ≡ roles (K A) E → given (Ok z) new ≡ describing A E out
    unfolding given number place_of outcome
    telling-done z new q =
        ap (λ (buffer : List ℕ). outcome 0 0 buffer out) q ∙ ap (λ (i : ℕ). outcome i 0 (roles (K A) E) out) (sym none) ∙ sym describing-is
