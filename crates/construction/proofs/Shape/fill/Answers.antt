-- `construction::Shape::fill` meets its contract.
-- Assumes nothing.
use native.Mathlib.Omega.{arith}
use mathlib.Core.Path.{sym, ◌∙◌}
use lib.ListN.{length}
use Rattle.nr.proofs.Rows.{length-table, get_or-table}
use Rattle.rows.proofs.Filling.{filling, filling-more}
use Rattle.construction.specs.Shapes.{role_of}
use Rattle.construction.proofs.Shape.fill.Goals as goal

pub loop-p-init : goal.loop-p-init
loop-p-init c =
    let a = c.args in
    filling _ _ (sym (length-table (role_of a.self.length.n a.self.window a.bar a.row.now) 0 (length a.out.now)))

pub loop-p-preserved : goal.loop-p-preserved
loop-p-preserved c =
    let a = c.args in
    let here = role_of a.self.length.n a.self.window a.bar a.row.now in
    filling-more c.loop-p.invariant _ 0 (omega (arith, length-table here 0 (length a.out.now)))
    (c.role.ensures ∙ sym (get_or-table here (length a.out.now) c.loop-p.p 0 c.loop-p-test.true))
