-- `parity::feed` meets its contract.
-- Assumes nothing.
use Rattle.parity.proofs.Register.{next-lt, fed}
use Rattle.parity.proofs.feed.Goals as goal

pub returns : goal.returns
returns c =
    let a = c.args in
    rw c.from.ensures record { small = next-lt a.register a.bit c.requires.0 c.requires.1; bits = fed a.register a.bit c.requires.0 c.requires.1 }
