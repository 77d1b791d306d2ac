-- `receiver::mark` meets its contract.
-- Assumes nothing.
use Prim.Native.Nat.{ℕ}
use mathlib.Core.Path.{ap, ◌∙◌}
use mathlib.Core.List.{List}
use lib.ListN.{length}
use Rattle.nr.specs.Coding.{placed}
use Rattle.rows.proofs.Parts.{take-replicate}
use Rattle.receiver.proofs.Marking.{ones-placed}
use Rattle.receiver.proofs.mark.Goals as goal

pub returns : goal.returns
returns c =
    let a = c.args in
    c.place.ensures
    ∙ ap (λ (r : List ℕ). placed (length a.row.now) a.positions.now r) (take-replicate (length a.positions.now) 164 1 c.requires.0.few)
    ∙ ones-placed (length a.row.now) a.positions.now
