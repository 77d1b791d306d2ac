-- `receiver::pick` meets its contract.
-- Assumes nothing.
use Prim.Native.Nat.{ℕ}
use native.Mathlib.Omega.{arith}
use mathlib.Core.Path.{sym, ap, ◌∙◌}
use lib.ListN.{get_or}
use Rattle.nr.proofs.Rows.{has_get_d, get_or-entries, length-entries}
use Rattle.rows.proofs.Filling.{filling-more}
use Rattle.receiver.proofs.pick.Goals as goal

pub loop-i-preserved : goal.loop-i-preserved
loop-i-preserved c =
    let a = c.args in
    filling-more c.loop-i.invariant _ 0 (omega (arith, length-entries a.positions.now a.row.now))
    (ap (λ (p : ℕ). get_or a.row.now p 0) c.from-p.ensures ∙ sym (get_or-entries a.positions.now a.row.now c.loop-i.i (omega arith)))

pub bounds-row-p : goal.bounds-row-p
bounds-row-p c =
    let ps = c.args.positions.now in
    rw c.from-p.ensures (c.requires.0.below (get_or ps c.loop-i.i 0) (has_get_d ps c.loop-i.i 0 (omega arith)))
