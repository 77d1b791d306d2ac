-- `admission::rank` meets its contract.
-- Assumes nothing.
use Prim.Native.Nat.{◌-◌, ◌/◌, ◌^◌}
use mathlib.Core.Path.{◌≡◌}
use lib.ListN.{get_or}
use Rattle.nr.specs.Construction.{P}
use Rattle.admission.specs.Window.{ranks}
use Rattle.admission.proofs.Ranks.{block-lt, rank_is}
use Rattle.admission.proofs.rank.Goals as goal

pub bounds-block : goal.bounds-block
bounds-block c = block-lt c.args.length.n c.args.p c.args.length.within c.requires

pub returns : goal.returns
unfolding ranks P
returns c =
    let e : c.from.result ≡ get_or ranks (c.args.p / 2 ^ (c.args.length.n - 5)) 0 = c.from.ensures in
    rw e (rank_is c.args.length.n c.args.p c.args.length.within c.requires)
