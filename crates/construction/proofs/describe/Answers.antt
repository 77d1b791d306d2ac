-- `construction::describe` meets its contract.
-- Assumes nothing.
use Prim.Native.Nat.{◌≤◌}
use native.Mathlib.Omega.{arith}
use mathlib.Core.Path.{sym, ap, ◌∙◌}
use lib.ListN.{length}
use lib.Seq.{length-take-le}
use Rattle.nr.specs.declared.Sizes.{Sizes}
use Rattle.nr.specs.Numbers.{K}
use Rattle.nr.specs.Describing.{roles}
use Rattle.construction.proofs.Layouts.{room, lent}
use Rattle.construction.proofs.Roles.{described}
use Rattle.construction.proofs.describe.Goals as goal
use Rattle.construction.proofs.describe.Goals.{After-bits}

low : (c : After-bits) → c.bits.result ≤ length c.mark.new.row
low c = omega (arith, c.mark.array_long, c.bits.ensures, room c.shape_of-shape.result)

pub slice_bounds-row-end : goal.slice_bounds-row-end
slice_bounds-row-end c = low c

pub slice_bounds-fill-end : goal.slice_bounds-fill-end
slice_bounds-fill-end c = sym (length-take-le c.bits.result c.mark.new.row (low (goal.at.slice_bounds-fill-end c).After-bits))

pub returns : goal.returns
returns c =
    let s = c.shape_of-shape.result in
    c.fill.ensures
    ∙ described s c.barred_as-bar.result c.barred_as-bar.ensures _ (lent s c.bits.result c.bits.ensures c.mark.new.row c.mark.ensures) (length c.args.out.now) c.requires
    ∙ ap (λ (z : Sizes). roles (K z.a) z.e) c.shape_of-shape.ensures
