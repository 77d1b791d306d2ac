-- `nodes::bit_node` meets its contract.
-- Assumes nothing.
use native.Mathlib.Omega.{arith}
use mathlib.Core.Path.{◌∙◌}
use Rattle.nr.proofs.Ints.{sum_is, sub_is}
use Rattle.nodes.proofs.Nodes.{g-zero, g-one}
use Rattle.nodes.proofs.bit_node.Goals as goal

pub returns-then-v-eq0 : goal.returns-then-v-eq0
returns-then-v-eq0 c =
    let a = c.args in
    sum_is a.b a.a (omega (arith, c.requires.0, c.requires.1)) ∙ g-zero a.v a.a a.b c.if-v-eq0.true

pub returns-else-v-eq0 : goal.returns-else-v-eq0
returns-else-v-eq0 c =
    let a = c.args in
    sub_is a.b a.a (omega (arith, c.requires.0, c.requires.1)) ∙ g-one a.v a.a a.b c.if-v-eq0.false
