-- `noise::is_wrong` meets its contract.
-- Assumes nothing.
use Rattle.noise.proofs.Counting.{below, above}
use Rattle.noise.proofs.is_wrong.Goals as goal

pub returns-then-bit-eq0 : goal.returns-then-bit-eq0
returns-then-bit-eq0 c = below c.args.bit c.args.x c.ranges.x c.if-bit-eq0.true

pub returns-else-bit-eq0 : goal.returns-else-bit-eq0
returns-else-bit-eq0 c = above c.args.bit c.args.x c.ranges.x c.if-bit-eq0.false
