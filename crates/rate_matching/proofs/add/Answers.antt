-- `rate_matching::add` meets its contract.
-- Assumes nothing.
use native.Mathlib.Nat.{le_refl}
use native.Mathlib.Omega.{arith}
use mathlib.Core.Path.{◌≡◌, sym}
use lib.IntN.{pos}
use lib.ListN.{length}
use Rattle.nr.proofs.SoftRows.{drop-plus}
use Rattle.rows.proofs.Filling.{filling, filling-more, filling-old, filled-early}
use Rattle.rate_matching.proofs.Summing.{added-fits, added_is, length-added}
use Rattle.rate_matching.proofs.add.Goals as goal

pub loop-k-preserved : goal.loop-k-preserved
loop-k-preserved c =
    let l = c.loop-k in
    let piece = c.args.piece.now in
    let y = c.args.y.now in
    filling-more l.invariant _ (pos 0) (omega (arith, length-added piece y c.requires.0))
    (added_is piece y l.y l.k (filling-old l.invariant l.k (pos 0) (le_refl l.k)) c.requires.1 c.requires.2)

pub loop-k-init : goal.loop-k-init
loop-k-init c = filling _ _ (sym (length-added c.args.piece.now c.args.y.now c.requires.0))

pub overflow_add-y : goal.overflow_add-y
overflow_add-y c =
    let l = c.loop-k in
    added-fits c.args.piece.now c.args.y.now l.y l.k (filling-old l.invariant l.k (pos 0) (le_refl l.k)) c.requires.1 c.requires.2

pub returns : goal.returns
returns c =
    let piece = c.args.piece.now in
    let y = c.args.y.now in
    let e : length piece ≡ c.loop-k.k = omega arith in
    filled-early c.loop-k.invariant (rw (← e) (sym (drop-plus piece y c.requires.0)))
