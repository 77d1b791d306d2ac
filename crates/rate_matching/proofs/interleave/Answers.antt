-- `rate_matching::interleave` meets its contract.
-- Assumes nothing.
use mathlib.Core.Path.{refl, ◌∙◌}
use Rattle.nr.specs.Construction.{P}
use Rattle.rate_matching.proofs.Moving.{named_P, code-ordered}
use Rattle.rate_matching.proofs.interleave.Goals as goal

pub returns : goal.returns
unfolding P
returns c = code-ordered refl c.args.code.within.0 c.args.d.now _ (c.copy_blocks.auto.to ∙ c.requires.1) c.copy_blocks.ensures

pub copy_blocks-requires-clause-named : goal.copy_blocks-requires-clause-named
unfolding P
copy_blocks-requires-clause-named c = named_P
