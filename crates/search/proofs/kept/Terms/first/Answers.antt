-- `search::kept::Terms::first` meets its contract.
-- Assumes nothing.
use mathlib.Core.Path.{sym, ap, ◌∙◌}
use lib.ListN.{take}
use lib.Seq.{take-take}
use Rattle.nr.proofs.Scrambling.{take-gold}
use Rattle.search.proofs.kept.Terms.first.Goals as goal

pub returns : goal.returns
returns c =
    let t = c.args.self.now in
    sym (take-take c.args.e t.ready t.row c.requires) ∙ ap (take c.args.e) t.terms ∙ take-gold t.start.bits c.args.e t.ready c.requires
