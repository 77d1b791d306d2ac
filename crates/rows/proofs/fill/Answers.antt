-- `rows::fill` meets its contract.
-- Assumes nothing.
use native.Mathlib.Omega.{arith}
use mathlib.Core.Path.{sym}
use lib.ListN.{length, length-replicate, get_or-replicate}
use Rattle.rows.proofs.Filling.{filling-more}
use Rattle.rows.proofs.fill.Goals as goal

pub loop-x-preserved : goal.loop-x-preserved
loop-x-preserved g c =
    let l = c.loop-x in
    let v = c.args.value in
    let n = length c.args.row.now in
    filling-more l.invariant v v (omega (arith, length-replicate n v)) (sym (get_or-replicate n l.x-index v v (omega arith)))
