-- `construction::Shape::mark` meets its contract.
-- Assumes nothing.
use Prim.Native.Nat.{ℕ, ◌-◌, ◌<◌}
use native.Mathlib.Omega.{arith}
use mathlib.Core.Path.{◌≡◌, sym, subst, ap, ◌∙◌}
use mathlib.Core.Bool.{true}
use lib.ListN.{set}
use Rattle.nr.specs.Reliability.{reliability}
use Rattle.admission.specs.Window.{admits}
use Rattle.admission.proofs.Ranks.{admitted-below}
use Rattle.construction.proofs.Choice.{Choosing, choosing, miss, hit, more, chose}
use Rattle.construction.proofs.Layouts.{sized, room, wanted}
use Rattle.construction.proofs.Shape.mark.Goals as goal
use Rattle.construction.proofs.Shape.mark.Goals.{Then-admits}

module _ (c : Then-admits) where
  passes : admits c.args.self.length.n c.args.self.window c.in-Some.position.now ≡ true
  passes = ap (admits c.args.self.length.n c.args.self.window) (sym c.from-p.ensures) ∙ sym c.admits.ensures ∙ c.if-admits.true

  below : c.in-Some.position.now < 512
  below = let l = admitted-below c.args.self.length.n c.args.self.window c.in-Some.position.now passes in omega (arith, room c.args.self)

  -- the position is marked
  chosen : Choosing (admits c.args.self.length.n c.args.self.window) 512 c.args.self.k reliability (set c.loop-position.row c.from-p.result 1) (c.loop-position.left - 1) c.next.new.self.iter.rest.now
  chosen =
      subst
      (λ (p : ℕ). Choosing (admits c.args.self.length.n c.args.self.window) 512 c.args.self.k reliability (set c.loop-position.row p 1) (c.loop-position.left - 1) c.next.new.self.iter.rest.now)
      (sym c.from-p.ensures)
      (hit _ _ _ _ _ _ _ c.loop-position.invariant.chosen _ _ c.in-Some.ensures.steps passes below c.loop-position.invariant.wanted)

pub loop-position-init : goal.loop-position-init
unfolding reliability
loop-position-init c = record {
  wanted = let s = sized c.args.self in omega (arith, s.low, c.args.self.k_is);
  chosen = choosing _ _ _ _ _ _ c.requires (ap (λ r. r.iter.rest.now) c.into_iter-position-iterator.ensures.into_iter_gives ∙ ap (λ i. i.rest.now) c.rev-position-items.ensures.source ∙ c.iter.ensures.rest);
}

pub loop-position-preserved-else-left-eq0 : goal.loop-position-preserved-else-left-eq0
loop-position-preserved-else-left-eq0 c =
    let t = (goal.at.loop-position-preserved-else-left-eq0 c).Then-admits in
    record { wanted = omega arith; chosen = chosen t }

pub bounds-row-p : goal.bounds-row-p
bounds-row-p c = let t = below (goal.at.bounds-row-p c).Then-admits in omega arith

pub overflow_sub-left : goal.overflow_sub-left
overflow_sub-left c = c.loop-position.invariant.wanted

pub returns-then-left-eq0 : goal.returns-then-left-eq0
returns-then-left-eq0 c =
    let t = (goal.at.returns-then-left-eq0 c).Then-admits in
    chose _ _ _ _ _ _ _ (chosen t) c.if-left-eq0.true

pub loop-position-preserved : goal.loop-position-preserved
loop-position-preserved c =
    let i = c.loop-position.invariant in
    record {
      wanted = i.wanted;
      chosen = miss _ _ _ _ _ _ _ i.chosen _ _ c.in-Some.ensures.steps (cc);
    }

pub returns : goal.returns
returns c =
    let i = c.loop-position.invariant.chosen in
    chose _ _ _ _ _ _ _ i (more _ _ _ _ _ _ _ i (wanted c.args.self) c.in-None.ensures.steps.0)
