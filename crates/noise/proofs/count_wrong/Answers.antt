-- `noise::count_wrong` meets its contract. The loop's invariant: the wrong ones of the first k values are counted.
-- Assumes nothing.
use Prim.Native.Nat.{◌+◌}
use native.Mathlib.Omega.{arith}
use mathlib.Core.Path.{◌≡◌, ap, ◌∙◌}
use Rattle.nr.specs.Rows.{xors}
use Rattle.noise.proofs.Counting.{counted, counted-le, one_more, all-counted}
use Rattle.noise.proofs.count_wrong.Goals as goal
use Rattle.noise.proofs.count_wrong.Goals.{After-from-wrong}

next : (c : After-from-wrong) → let a = c.args in
    c.loop-k.wrong + c.from-wrong.result ≡ counted a.soft.now (xors a.sent.now a.sequence.now) (c.loop-k.k + 1)
next c =
    let a = c.args in
    ap (λ n. c.loop-k.wrong + n) c.from-wrong.ensures
    ∙ one_more a.soft.now a.sent.now a.sequence.now c.requires.sent_len.0 c.requires.sent_len.1 c.requires.bits.0 c.requires.bits.1 c.loop-k.k c.loop-k-test.true
    (record { sfits = omega arith }) c.loop-k.wrong c.is_wrong.result c.loop-k.invariant c.is_wrong.ensures

pub loop-k-preserved : goal.loop-k-preserved
loop-k-preserved c = next (goal.at.loop-k-preserved c).After-from-wrong

pub overflow_add-wrong : goal.overflow_add-wrong
overflow_add-wrong c =
    let a = c.args in
    omega (arith, next (goal.at.overflow_add-wrong c).After-from-wrong, counted-le a.soft.now (xors a.sent.now a.sequence.now) (c.loop-k.k + 1), c.requires.sent_len.2)

pub returns : goal.returns
returns c =
    let a = c.args in
    c.loop-k.invariant ∙ all-counted a.soft.now (xors a.sent.now a.sequence.now) c.loop-k.k (omega arith)
