-- `polar::transform` meets its contract. The loop's invariant: after j stages each block of 2 ^ j entries holds its transform.
-- Assumes nothing.
use Prim.Native.Nat.{◌*◌, ◌%◌, ◌^◌, ◌<◌}
use native.Mathlib.Omega.{arith}
use mathlib.Core.Path.{◌≡◌}
use Rattle.nr.proofs.Words.{shl_one}
use Rattle.polar.proofs.Stages.{staged-none, staged-next, asked, fewer}
use Rattle.polar.proofs.transform.Goals as goal
use Rattle.polar.proofs.transform.Goals.{In-loop-j}

shifts : (c : In-loop-j) → c.loop-j.j < 64
shifts c = omega (arith, fewer c.args.n c.args.row.now c.requires.row_len (omega arith))

half_is : (c : In-loop-j) → 1 * 2 ^ c.loop-j.j % 2 ^ 64 ≡ 2 ^ c.loop-j.j
half_is c = shl_one c.loop-j.j (shifts c)

pub loop-j-preserved : goal.loop-j-preserved
loop-j-preserved c =
    let d = c.stage in
    staged-next c.args.n c.args.row.now c.requires.row_len c.loop-j.invariant c.loop-j-test.true _ (half_is (goal.at.loop-j-preserved c).In-loop-j)
    d.new.row d.auto.row d.ensures

pub loop-j-init : goal.loop-j-init
loop-j-init c = staged-none c.args.n c.args.row.now c.requires.row_len c.requires.bits

pub overflow_shl-j : goal.overflow_shl-j
overflow_shl-j c = shifts (goal.at.overflow_shl-j c).In-loop-j

pub stage-requires : goal.stage-requires
stage-requires c =
    let a = asked c.args.n c.args.row.now c.requires.row_len c.loop-j.invariant c.loop-j-test.true _ (half_is (goal.at.stage-requires c).In-loop-j) in
    record { half_nonzero = a.0; half_len = a.1.0; bits = a.1.1 }
