-- `rate_matching::put_first` meets its contract.
-- Assumes nothing.
use lib.ListN.{length}
use Rattle.nr.specs.SuccessiveDecoder.{certain}
use Rattle.rate_matching.proofs.Undoing.{undo-shortening}
use Rattle.rate_matching.proofs.put_first.Goals as goal

pub returns : goal.returns
unfolding certain
returns c =
    undo-shortening (length c.args.y.now) c.args.soft.now _ _ (length c.split_at_mut-front.result.1.now) c.copy.ensures c.fill.ensures c.split_at_mut-front.ensures.back_len
