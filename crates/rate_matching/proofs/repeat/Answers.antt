-- `rate_matching::repeat` meets its contract.
-- Assumes nothing.
use native.Mathlib.Nat.{zero-mod, add-mod_right}
use native.Mathlib.Numerals.{unary_clauses}
use native.Mathlib.Omega.{arith}
use mathlib.Core.Path.{refl, sym, ◌∙◌}
use lib.ListN.{length}
use Rattle.rows.proofs.Filling.{filling}
use Rattle.rate_matching.proofs.Pieces.{length-cycle, next-turn, cycled}
use Rattle.rate_matching.proofs.repeat.Goals as goal

pub loop-at-init : goal.loop-at-init
loop-at-init c = (simp unary_clauses (filling _ _ (sym (length-cycle c.args.y.now _))), zero-mod (length c.args.y.now))

pub loop-at-preserved : goal.loop-at-preserved
loop-at-preserved c =
    let l = c.loop-at in
    let y = c.args.y.now in (
      next-turn y _ refl l.invariant.0 l.invariant.1 (omega arith) _ c.min-size.ensures _ c.copy.ensures,
      add-mod_right l.at (length y) ∙ l.invariant.1,
    )

pub returns-2 : goal.returns-2
returns-2 c =
    let l = c.loop-at in
    let y = c.args.y.now in
    cycled y _ (next-turn y _ refl l.invariant.0 l.invariant.1 (omega arith) _ c.min-size.ensures _ c.copy.ensures) (omega arith)
