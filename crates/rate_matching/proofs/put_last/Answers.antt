-- `rate_matching::put_last` meets its contract.
-- Assumes nothing.
use mathlib.Core.Path.{refl}
use lib.ListN.{length}
use Rattle.rate_matching.proofs.Undoing.{undo-puncturing}
use Rattle.rate_matching.proofs.put_last.Goals as goal

pub returns : goal.returns
returns c =
    undo-puncturing (length c.args.y.now) c.args.soft.now c.args.y.now refl c.requires.0 c.requires.1 _ c.copy.ensures
