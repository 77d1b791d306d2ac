-- `polar::place` meets its contract.
-- Assumes nothing.
use Prim.Native.Nat.{ℕ, ◌<◌}
use native.Mathlib.Omega.{arith}
use mathlib.Core.Path.{◌≡◌, ap, ap₂, ◌∙◌}
use mathlib.Core.List.{List}
use lib.ListN.{length, get_or, set}
use Rattle.nr.proofs.Rows.{has_get_d}
use Rattle.nr.proofs.RoundTrip.{length-placed}
use Rattle.polar.proofs.Placing.{placed-none, placed-next}
use Rattle.polar.proofs.place.Goals as goal
use Rattle.polar.proofs.place.Goals.{At-loop-i, In-loop-i}

row-length : (c : At-loop-i) → length c.loop-i.u ≡ length c.args.u.now
row-length c = ap length c.loop-i.invariant ∙ length-placed (length c.args.u.now) _ _

-- the position of a turn is below N

below : (c : In-loop-i) → get_or c.args.positions.now c.loop-i.i 0 < length c.args.u.now
below c =
    let ps = c.args.positions.now in
    c.requires.bits_len.1.below (get_or ps c.loop-i.i 0) (has_get_d ps c.loop-i.i 0 (omega arith))

pub loop-i-preserved : goal.loop-i-preserved
loop-i-preserved c =
    let a = c.args in
    ap₂ (λ (r : List ℕ) (p : ℕ). set r p (get_or a.bits.now c.loop-i.i 0)) c.loop-i.invariant c.from-p.ensures
    ∙ placed-next (length a.u.now) a.positions.now a.bits.now c.requires.bits_len.0 c.requires.bits_len.1.rising c.loop-i.i (omega arith) (below (goal.at.loop-i-preserved c).In-loop-i)

pub loop-i-init : goal.loop-i-init
loop-i-init c = c.requires.u_value ∙ placed-none (length c.args.u.now)

pub bounds-u-p : goal.bounds-u-p
bounds-u-p c = omega (arith, below (goal.at.bounds-u-p c).In-loop-i, row-length (goal.at.bounds-u-p c).At-loop-i)
