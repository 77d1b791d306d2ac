-- `admission::Window::admits` meets its contract.
-- Assumes nothing.
use native.Mathlib.Omega.{arith}
use Rattle.std.proofs.lemmas.Bool.Decides.{nat_tests}
use Rattle.admission.specs.Window.{admits}
use Rattle.admission.proofs.Ranks.{block-below}
use Rattle.admission.proofs.Window.admits.Goals as goal

pub rank-r-requires : goal.rank-r-requires
rank-r-requires c = (block-below c.args.length.n c.args.p c.args.length.within.0).0 (omega arith)

pub returns-then-block-ge32 : goal.returns-then-block-ge32
unfolding admits
returns-then-block-ge32 c =
    let below = (block-below c.args.length.n c.args.p c.args.length.within.0).1 in
    grind (arith, nat_tests, below)

pub returns-then-self-r : goal.returns-then-self-r
unfolding admits
returns-then-self-r c =
    let l = (block-below c.args.length.n c.args.p c.args.length.within.0).0 (omega arith) in
    grind (arith, nat_tests, l, c.rank-r.ensures)

pub returns-else-self-r : goal.returns-else-self-r
unfolding admits
returns-else-self-r c =
    let l = (block-below c.args.length.n c.args.p c.args.length.within.0).0 (omega arith) in
    grind (arith, nat_tests, l, c.rank-r.ensures)
