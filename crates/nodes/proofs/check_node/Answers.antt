-- `nodes::check_node` meets its contract.
-- Assumes nothing.
use Prim.Native.Nat.{min, ◌≤◌, ◌^◌}
use mathlib.Core.Path.{◌≡◌, ap, ◌∙◌}
use lib.IntN.{pos, nat_abs, neg_ℤ}
use mir.Syntax.{w32}
use mir.ValLaws.{to_z-of_z}
use Rattle.nr.proofs.Ints.{back, neg_is}
use Rattle.nodes.proofs.Nodes.{least, least-small, same-signs, other-signs}
use Rattle.nodes.proofs.check_node.Goals as goal
use Rattle.nodes.proofs.check_node.Goals.{After-min-s}

smaller : (c : After-min-s) → c.min-s.result ≡ pos (min (nat_abs c.args.a) (nat_abs c.args.b))
smaller c = least c.args.a c.args.b c.abs.result c.abs-2.result c.min-s.result c.requires.0 c.requires.1 c.abs.ensures.value c.abs-2.ensures.value c.min-s.ensures.value

small : (c : After-min-s) → nat_abs c.min-s.result ≤ 2 ^ 30
small c = least-small c.min-s.result c.args.a c.args.b (smaller c) c.requires.0

pub returns-then-a-b : goal.returns-then-a-b
returns-then-a-b c =
    let s = (goal.at.returns-then-a-b c).After-min-s in
    back c.min-s.result (small s) ∙ smaller s
    ∙ same-signs c.args.a c.args.b (rw (to_z-of_z w32 c.args.a c.ranges.a, to_z-of_z w32 c.args.b c.ranges.b) at c.if-a-b.true)

pub returns-else-a-b : goal.returns-else-a-b
returns-else-a-b c =
    let s = (goal.at.returns-else-a-b c).After-min-s in
    neg_is c.min-s.result (small s) ∙ ap neg_ℤ (smaller s)
    ∙ other-signs c.args.a c.args.b (rw (to_z-of_z w32 c.args.a c.ranges.a, to_z-of_z w32 c.args.b c.ranges.b) at c.if-a-b.false)
