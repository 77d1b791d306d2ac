-- `parity::write_bits` meets its contract.
-- Assumes nothing.
use Prim.Native.Nat.{◌-◌, ◌/◌, ◌^◌}
use native.Mathlib.Omega.{arith}
use mathlib.Core.Path.{sym, ◌∙◌}
use Rattle.nr.proofs.Zip.{length-msb_first}
use Rattle.nr.proofs.Words.{and_one, get_or-msb_first}
use Rattle.rows.proofs.Filling.{filling-more}
use Rattle.parity.proofs.write_bits.Goals as goal

pub loop-i-preserved : goal.loop-i-preserved
loop-i-preserved c =
    let w = c.args.word in
    let i = c.loop-i.i in
    filling-more c.loop-i.invariant _ 0 (omega (arith, length-msb_first 24 w)) (and_one (w / 2 ^ (23 - i)) ∙ sym (get_or-msb_first 24 w i (omega arith)))
