-- `scrambling::negate` meets its contract.
-- Assumes nothing.
use lib.IntN.{ℤ}
use Rattle.nr.specs.SuccessiveDecoder.{negate_if}
use Rattle.nr.proofs.Ints.{back}
use Rattle.nr.proofs.SoftRows.{length-descramble, nat_abs-negate_if, get_or-descramble}
use Rattle.rows.proofs.Filling.{filling, filling-more}
use Rattle.std.proofs.Common.{◌≡◌, get_or, arith, pos, sym, ap, ◌∙◌}
use Rattle.scrambling.proofs.negate.Goals as goal

pub loop-k-preserved : goal.loop-k-preserved
loop-k-preserved c =
    let l = c.loop-k in
    let k = l.k in
    let bits = c.args.bits.now in
    let soft = c.args.soft.now in
    let b = get_or bits k 0 in
    let x : ℤ = get_or soft k (pos 0) in
    let small = c.requires.2 k in
    let value : c.negate_if.result ≡ negate_if b x = c.negate_if.ensures ∙ ap (negate_if b) (back x (omega (arith, small))) in
    filling-more l.invariant _ (pos 0) (omega (arith, length-descramble bits soft c.requires.0))
    (back c.negate_if.result (rw (value, nat_abs-negate_if b x) (omega (arith, small))) ∙ value ∙ sym (get_or-descramble bits soft c.requires.0 k (omega arith)))

pub loop-k-init : goal.loop-k-init
loop-k-init c =
    filling _ _ (c.requires.1 ∙ sym (length-descramble c.args.bits.now c.args.soft.now c.requires.0))
