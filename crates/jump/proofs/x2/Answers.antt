-- `jump::x2` meets its contract: its masks pass the test.
-- Assumes nothing.
use mathlib.Core.Path.{◌∙◌}
use Rattle.nr.specs.Scrambling.{next2, step2, after}
use Rattle.nr.proofs.Scrambling.{linear2}
use Rattle.jump.proofs.Parities.{jumps}
use Rattle.jump.proofs.x2.Goals as goal

pub returns : goal.returns
unfolding after step2 next2
returns c = c.jump.ensures ∙ jumps step2 1600 (linear2 1600) _ tt c.args.s c.requires
