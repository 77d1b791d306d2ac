-- `rate_matching::add` meets its contract.
-- Assumes nothing.
use Rattle.nr.specs.SuccessiveDecoder.{plus}
use Rattle.rows.proofs.Filling.{Filling}
use Rattle.rate_matching.proofs.add.Given as goal

abbrev pub invariant-loop-k : goal.invariant-loop-k
invariant-loop-k l = Filling l.initial.y (plus l.piece l.initial.y) l.y l.k
