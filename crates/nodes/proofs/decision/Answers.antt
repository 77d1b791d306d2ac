-- `nodes::decision` meets its contract.
-- Assumes nothing.
use mathlib.Core.Path.{◌∙◌, ap}
use mir.Val.{bool_byte}
use Rattle.nodes.proofs.Nodes.{decide-frozen, decide-sign}
use Rattle.nodes.proofs.decision.Goals as goal
use Rattle.nodes.proofs.decision.Goals.{then-mark-ne0, else-mark-ne0}

pub returns : goal.returns
returns c =
    let b = c.if-mark-ne0 in
    c.from.ensures
    ∙ elim b.branch [
      | then-mark-ne0 w ↦ ap bool_byte w.from-is ∙ decide-sign c.args.mark c.args.x c.ranges.x w.if-mark-ne0.true
      | else-mark-ne0 w ↦ ap bool_byte w.from-is ∙ decide-frozen c.args.mark c.args.x w.if-mark-ne0.false
    ]
