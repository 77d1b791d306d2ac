-- `checks::first_bad` meets its contract.
-- Assumes nothing.
use mathlib.Core.Path.{◌∙◌}
use borrow.Author.Tests.{tests}
use Rattle.std.proofs.Common.{rules}
use Rattle.std.proofs.lemmas.Iterator.{YieldsList-from_slice}
use Rattle.std.proofs.lemmas.Iterator.Search.{position_from_yields_List}
use Rattle.nr.specs.Coding.{bad_byte}
use Rattle.checks.proofs.Places.{first_is}
use Rattle.checks.proofs.first_bad.Goals as goal

pub returns : goal.returns
unfolding bad_byte
returns c =
    position_from_yields_List bad_byte _ _ _ c.position.ensures.ran (YieldsList-from_slice c.args.payload.now cc) (λ x b q k. search (rules, tests))
    ∙ first_is bad_byte c.args.payload.now
