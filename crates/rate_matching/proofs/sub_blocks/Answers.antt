-- `rate_matching::sub_blocks` meets its contract.
-- Assumes nothing.
use mathlib.Core.Path.{refl, ◌∙◌}
use Rattle.nr.specs.Construction.{P}
use Rattle.rate_matching.proofs.Moving.{named_P, code-ordered}
use Rattle.rate_matching.proofs.sub_blocks.Goals as goal

pub returns-in-7 : goal.returns-in-7
unfolding P
returns-in-7 c =
    code-ordered c.in-7.is c.args.code.within.0 c.args.d.now _ (c.copy_blocks.auto.to ∙ c.requires.1) c.copy_blocks.ensures

pub returns-in-8 : goal.returns-in-8
unfolding P
returns-in-8 c =
    code-ordered c.in-8.is c.args.code.within.0 c.args.d.now _ (c.copy_blocks-in-8.auto.to ∙ c.requires.1) c.copy_blocks-in-8.ensures

pub returns-in-9 : goal.returns-in-9
unfolding P
returns-in-9 c =
    code-ordered c.in-9.is c.args.code.within.0 c.args.d.now _ (c.copy_blocks-in-9.auto.to ∙ c.requires.1) c.copy_blocks-in-9.ensures

pub returns-in_default : goal.returns-in_default
unfolding P
returns-in_default c =
    code-ordered refl c.args.code.within.0 c.args.d.now _ (c.copy_blocks-in_default.auto.to ∙ c.requires.1) c.copy_blocks-in_default.ensures

pub copy_blocks-requires-clause-named : goal.copy_blocks-requires-clause-named
unfolding P
copy_blocks-requires-clause-named c = named_P

pub copy_blocks-requires-in-8-clause-named : goal.copy_blocks-requires-in-8-clause-named
unfolding P
copy_blocks-requires-in-8-clause-named c = named_P

pub copy_blocks-requires-in-9-clause-named : goal.copy_blocks-requires-in-9-clause-named
unfolding P
copy_blocks-requires-in-9-clause-named c = named_P

pub copy_blocks-requires-in_default-clause-named : goal.copy_blocks-requires-in_default-clause-named
unfolding P
copy_blocks-requires-in_default-clause-named c = named_P
