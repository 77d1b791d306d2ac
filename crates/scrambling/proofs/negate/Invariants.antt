-- `scrambling::negate` meets its contract.
-- Assumes nothing.
use Rattle.nr.specs.SuccessiveDecoder.{descramble}
use Rattle.rows.proofs.Filling.{Filling}
use Rattle.scrambling.proofs.negate.Given as goal

abbrev pub invariant-loop-k : goal.invariant-loop-k
invariant-loop-k l = Filling l.fn.out (descramble l.bits l.soft) l.out l.k
