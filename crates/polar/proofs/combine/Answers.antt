-- `polar::combine` meets its contract. The loop's invariant: the first i entries are sums, the rest is as it was.
-- Assumes nothing.
use native.Mathlib.Omega.{arith}
use mathlib.Core.Path.{◌≡◌, ◌∙◌}
use Rattle.polar.proofs.Halves.{sum-next, all-filled}
use Rattle.polar.proofs.combine.Goals as goal

pub loop-i-preserved : goal.loop-i-preserved
loop-i-preserved c =
    let l = c.loop-i in
    sum-next c.args.block.now c.args.half c.requires.block_len c.requires.bits l.block l.i l.invariant c.loop-i-test.true

pub returns : goal.returns
returns c =
    let e : c.loop-i.i ≡ c.args.half = omega arith in
    (rw e at c.loop-i.invariant) ∙ all-filled c.args.block.now c.args.half c.requires.block_len
