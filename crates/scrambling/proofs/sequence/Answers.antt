-- `scrambling::sequence` meets its contract.
-- Assumes nothing.
use Prim.Native.Nat.{ℕ}
use mathlib.Core.Path.{ap₂, ◌∙◌}
use mathlib.Core.List.{List}
use lib.ListN.{length}
use Rattle.nr.specs.Rows.{xors}
use Rattle.nr.specs.Scrambling.{gold}
use Rattle.nr.proofs.Scrambling.{zeros-gold}
use Rattle.scrambling.proofs.sequence.Goals as goal

pub returns : goal.returns
returns c =
    let a = c.args in
    let n = length a.row.now in
    c.scramble.ensures
    ∙ ap₂ (λ (row : List ℕ) (k : ℕ). xors row (gold a.seed.bits k)) c.clear.ensures c.clear.auto.row
    ∙ zeros-gold a.seed.bits n
