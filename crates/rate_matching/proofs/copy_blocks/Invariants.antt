-- `rate_matching::copy_blocks` meets its contract.
-- Assumes nothing.
use Rattle.rate_matching.proofs.Moving.{Moving}
use Rattle.rate_matching.proofs.copy_blocks.Given as goal

abbrev pub invariant-loop-b : goal.invariant-loop-b
invariant-loop-b g l = Moving l.order l.fn.code.n l.from l.to l.b
