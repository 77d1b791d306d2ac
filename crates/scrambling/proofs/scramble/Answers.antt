-- `scrambling::scramble` meets its contract: `gold` is the sequence that the registers go on with after `start`.
-- Assumes nothing.
use Rattle.nr.specs.Scrambling.{gold}
use Rattle.scrambling.proofs.scramble.Goals as goal

pub returns : goal.returns
unfolding gold
returns c = rw (c.start.ensures.0, c.start.ensures.1) at c.add_sequence.ensures
