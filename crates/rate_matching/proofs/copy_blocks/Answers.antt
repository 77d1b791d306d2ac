-- `rate_matching::copy_blocks` meets its contract.
-- Assumes nothing.
use Prim.Native.Nat.{◌*◌, ◌≤◌, ◌<◌}
use native.Mathlib.Omega.{arith}
use mathlib.Core.Path.{ap}
use lib.ListN.{length}
use borrow.Author.Rules.{rules}
use Rattle.rate_matching.proofs.Moving.{S, Turn, in-turn, moving-more, moved}
use Rattle.rate_matching.proofs.copy_blocks.Given.{Over}
use Rattle.rate_matching.proofs.copy_blocks.Goals as goal
use Rattle.rate_matching.proofs.copy_blocks.Goals.{After-from}

turn : (g : Over) (c : After-from g) → Turn c.args.order.now c.args.code.n c.loop-b.b (c.loop-b.b * S c.args.code.n) (c.from.result * S c.args.code.n)
turn g c =
    let h : c.loop-b.b < 32 = omega arith in
    in-turn c.args.code.n c.loop-b.b _ c.args.code.within.0 c.args.code.within.1 h c.requires.named (ap (λ x. x * S c.args.code.n) c.from.ensures)

pub loop-b-preserved : goal.loop-b-preserved
loop-b-preserved g c =
    moving-more c.loop-b.invariant c.args.code.within.1 c.requires.sizes.0 (turn g (goal.at.loop-b-preserved g c).After-from) _ c.copy.ensures

pub returns : goal.returns
returns g c = moved c.loop-b.invariant c.args.code.within.0 (omega arith)

pub offset_bounds-from-start : goal.offset_bounds-from-start
offset_bounds-from-start g c = omega (arith, (turn g (goal.at.offset_bounds-from-start g c).After-from).named_end, c.requires.sizes.0)

pub slice_bounds-copy-end : goal.slice_bounds-copy-end
slice_bounds-copy-end g c = omega (arith, (turn g (goal.at.slice_bounds-copy-end g c).After-from).named_end, c.requires.sizes.0)

pub offset_bounds-to-at : goal.offset_bounds-to-at
offset_bounds-to-at g c =
    let h : c.loop-b.b * S c.args.code.n ≤ length c.loop-b.to = omega (arith, (turn g (goal.at.offset_bounds-to-at g c).After-from).own-end, c.loop-b.invariant.size) in
    search rules

pub slice_bounds-copy-end-in-loop-b : goal.slice_bounds-copy-end-in-loop-b
slice_bounds-copy-end-in-loop-b g c =
    omega (arith, (turn g (goal.at.slice_bounds-copy-end-in-loop-b g c).After-from).own-end, c.loop-b.invariant.size)
