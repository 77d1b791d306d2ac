-- `checks::first_outside` meets its contract.
-- Assumes nothing.
use mathlib.Core.Path.{◌∙◌}
use borrow.Author.Tests.{tests}
use Rattle.std.proofs.Common.{rules}
use Rattle.std.proofs.lemmas.Iterator.{YieldsList-from_slice}
use Rattle.std.proofs.lemmas.Iterator.Search.{position_from_yields_List}
use Rattle.checks.specs.Checks.{beyond}
use Rattle.checks.proofs.Places.{first_is}
use Rattle.checks.proofs.first_outside.Goals as goal

pub returns : goal.returns
returns c =
    let bad = beyond c.args.low c.args.high in
    position_from_yields_List bad _ _ _ c.position.ensures.ran (YieldsList-from_slice c.args.row.now cc) (λ x b q k. search (rules, tests))
    ∙ first_is bad c.args.row.now
