-- `rows::copy` meets its contract.
-- Assumes nothing.
use native.Mathlib.Omega.{arith}
use Rattle.rows.proofs.Filling.{filling-more}
use Rattle.rows.proofs.copy.Goals as goal

pub loop-i-preserved : goal.loop-i-preserved
loop-i-preserved g c = filling-more c.loop-i.invariant _ _ (omega arith) c.index-from-i.is
