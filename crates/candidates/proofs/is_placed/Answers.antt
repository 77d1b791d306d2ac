-- `candidates::is_placed` meets its contract: the levels are those that `level-is` says give a coded length.
-- Assumes nothing.
use Prim.Native.Nat.{ℕ, ◌*◌}
use mathlib.Core.Path.{◌≡◌, refl, sym, ap, ◌∙◌}
use mathlib.Core.Bool.{Bool}
use Rattle.nr.specs.Rows.{has}
use Rattle.nr.specs.Answer.{lengths}
use Rattle.nr.specs.Searching.{levels, fits}
use Rattle.nr.proofs.Tests.{clash}
use Rattle.candidates.proofs.Checked.{level-is}
use Rattle.candidates.proofs.is_placed.Goals as goal
use Rattle.candidates.proofs.is_placed.Goals.{then-is_coded_length, else-is_coded_length}

-- whether the level is one, by the test of its coded length
listed : (l level : ℕ) (t : Bool) → l ≡ level → t ≡ has (108 * l) lengths → has level levels ≡ t
listed l level t is e = sym (level-is level) ∙ sym (e ∙ ap (λ (l : ℕ). has (108 * l) lengths) is)

pub returns-then-first-level-eq0 : goal.returns-then-first-level-eq0
unfolding fits
returns-then-first-level-eq0 c =
    let l = listed c.from.result c.args.level _ c.from.ensures c.is_coded_length.ensures in elim c.if-is_coded_length.branch [
      | then-is_coded_length w ↦
          rw (l, w.if-is_coded_length.true, sym w.value-is ∙ c.if-first-level-eq0.true, c.from-then-first-level-eq0.ensures, c.from-then-first-level-eq0-2.ensures) refl
      | else-is_coded_length w ↦ clash c.if-first-level-eq0.true (w.value-is ∙ w.if-is_coded_length.false)
    ]

pub returns-else-first-level-eq0 : goal.returns-else-first-level-eq0
unfolding fits
returns-else-first-level-eq0 c =
    let l = listed c.from.result c.args.level _ c.from.ensures c.is_coded_length.ensures in elim c.if-is_coded_length.branch [
      | then-is_coded_length w ↦ rw (l, w.if-is_coded_length.true, sym w.value-is ∙ c.if-first-level-eq0.false) c.if-first-level-eq0.false
      | else-is_coded_length w ↦ rw (l, w.if-is_coded_length.false) c.if-first-level-eq0.false
    ]
