-- `construction::shape_of` meets its contract.
-- Assumes nothing.
use Prim.Native.Nat.{ℕ, ◌^◌}
use native.Mathlib.Omega.{arith}
use mathlib.Core.Path.{◌≡◌, refl, sym, ap, ◌∙◌}
use lib.Pow.{pow_mono}
use Rattle.nr.specs.Numbers.{K}
use Rattle.nr.specs.Construction.{N}
use Rattle.nr.proofs.Construction.{Sized, clear, accepted, n-by-length}
use Rattle.nr.proofs.Refusals.{longest}
use Rattle.admission.specs.Window.{usable}
use Rattle.admission.proofs.Sizes.{kind-applies}
use Rattle.construction.proofs.shape_of.Goals as goal
use Rattle.construction.proofs.shape_of.Goals.{Start, After-bits-len}

-- A and E are accepted
sized : (c : Start) → Sized (K c.args.sizes.a) c.args.sizes.e
sized c = accepted c.args.sizes.a c.args.sizes.e c.args.sizes.accepted

-- N
code : (c : After-bits-len) → c.bits-len.result ≡ N (K c.args.sizes.a) c.args.sizes.e
code c =
    c.bits-len.ensures
    ∙ ap (λ (m : ℕ). 2 ^ m) (c.exponent-length.ensures ∙ sym (n-by-length (K c.args.sizes.a) c.args.sizes.e (sized (goal.at.rate_matching-kind-requires c).Start)))

pub overflow_add-k : goal.overflow_add-k
overflow_add-k c = let s = sized (goal.at.overflow_add-k c).Start in omega (arith, s.high)

pub exponent-length-requires : goal.exponent-length-requires
exponent-length-requires c = (clear c.args.sizes.a c.args.sizes.e c.args.sizes.accepted).length

pub rate_matching-kind-requires : goal.rate_matching-kind-requires
rate_matching-kind-requires c =
    let s = sized (goal.at.rate_matching-kind-requires c).Start in
    (s.high, longest c.args.sizes.e s.length, code c)

pub window_of-window-requires : goal.window_of-window-requires
window_of-window-requires c =
    let s = sized (goal.at.window_of-window-requires c).Start in
    let n = c.exponent-length.result in (
      omega (arith, c.bits-len.ensures, pow_mono {i = n.n} {j = 9} n.within.1),
      longest c.args.sizes.e s.length,
      rw (c.rate_matching-kind.ensures, code (goal.at.window_of-window-requires c).After-bits-len) (kind-applies (K c.args.sizes.a) c.args.sizes.e s),
    )

pub invariant_of-result : goal.invariant_of-result
invariant_of-result c = record {
  k_is = refl;
  n_is = c.exponent-length.ensures;
  kind_is = c.rate_matching-kind.ensures;
  window_is = λ p.
      c.window_of-window.ensures c.exponent-length.result.n c.exponent-length.result.within.0 c.bits-len.ensures p
      ∙ ap (λ (len : ℕ). usable c.rate_matching-kind.result len c.args.sizes.e p) c.bits-len.ensures;
}
