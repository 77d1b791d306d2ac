-- `jump::x1` meets its contract: its masks pass the test, and from 1 the state is the constant.
-- Assumes nothing.
use mathlib.Core.Path.{◌≡◌, refl, sym, ap, ◌∙◌}
use Rattle.nr.specs.Scrambling.{next1, step1, after}
use Rattle.nr.proofs.Scrambling.{linear1}
use Rattle.jump.proofs.Parities.{jumps}
use Rattle.jump.proofs.x1.Goals as goal

from_one : after step1 1600 1 ≡ 0x5e485840
unfolding after step1 next1
from_one = refl

pub returns-then-s-eq1 : goal.returns-then-s-eq1
returns-then-s-eq1 c = sym (ap (after step1 1600) c.if-s-eq1.true ∙ from_one)

pub returns-else-s-eq1 : goal.returns-else-s-eq1
unfolding after step1 next1
returns-else-s-eq1 c = c.jump.ensures ∙ jumps step1 1600 (linear1 1600) _ tt c.args.s c.requires
