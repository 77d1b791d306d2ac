-- `search::kept::make` meets its contract.
-- Assumes nothing.
use native.Mathlib.Omega.{arith}
use Rattle.search.proofs.Keeping.{made-ready}
use Rattle.search.proofs.kept.make.Goals as goal

pub returns : goal.returns
returns c = (made-ready c.args.start.bits c.args.e c.args.row.now (omega arith) c.sequence.new.row c.sequence.ensures).1
