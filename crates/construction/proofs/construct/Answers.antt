-- `construction::construct` meets its contract.
-- Assumes nothing.
use Prim.Native.Nat.{◌≤◌}
use native.Mathlib.Omega.{arith}
use mathlib.Core.Path.{◌≡◌, sym, ap, ◌∙◌}
use lib.ListN.{length, take}
use lib.Seq.{length-take-le}
use Rattle.nr.specs.declared.Sizes.{Sizes}
use Rattle.nr.specs.Numbers.{K}
use Rattle.nr.specs.Construction.{Layout, layout}
use Rattle.construction.specs.Shapes.{padded}
use Rattle.construction.proofs.Layouts.{room, exponent-is, many, few, found, placed}
use Rattle.construction.proofs.construct.Goals as goal
use Rattle.construction.proofs.construct.Goals.{After-bits, After-collect-positions}

-- the part of the row that is lent
inside : (c : After-bits) → c.bits.result ≤ 512
inside c = omega (arith, c.bits.ensures, room c.shape_of-shape.result)

size : (c : After-bits) → length (take c.bits.result c.mark.new.row) ≡ c.bits.result
size c = length-take-le c.bits.result c.mark.new.row (omega (arith, inside c, c.mark.array_long))

-- the row that is made
row : (c : After-collect-positions) → c.collect-positions.result ≡ padded (layout (K c.shape_of-shape.result.sizes.a) c.shape_of-shape.result.sizes.e).positions
row c = c.collect-positions.ensures ∙ ap padded (found c.shape_of-shape.result c.bits.result c.bits.ensures c.mark.new.row c.mark.ensures)

pub slice_bounds-row-end : goal.slice_bounds-row-end
slice_bounds-row-end c = omega (arith, inside c, c.mark.array_long)

pub slice_bounds-collect-end : goal.slice_bounds-collect-end
slice_bounds-collect-end c = sym (size (goal.at.slice_bounds-collect-end c).After-bits)

pub collect-positions-requires : goal.collect-positions-requires
collect-positions-requires c =
    let b = (goal.at.collect-positions-requires c).After-bits in
    let s = c.shape_of-shape.result in
    (omega (arith, size b, inside b), omega (arith, ap length (found s c.bits.result c.bits.ensures c.mark.new.row c.mark.ensures), few s))

pub returns : goal.returns
unfolding layout
returns c =
    let s = c.shape_of-shape.result in
    let same = ap (λ (z : Sizes). layout (K z.a) z.e) c.shape_of-shape.ensures in record {
      n = exponent-is s ∙ ap (λ (l : Layout). l.n) same;
      kind = s.kind_is ∙ ap (λ (l : Layout). l.kind) same;
      k = many s ∙ ap (λ (l : Layout). length l.positions) same;
      positions = row (goal.at.returns c).After-collect-positions ∙ ap (λ (l : Layout). padded l.positions) same;
    }

pub invariant_of-result : goal.invariant_of-result
invariant_of-result c =
    let s = c.shape_of-shape.result in record {
      few = omega (arith, many s, few s);
      placed = placed s c.collect-positions.result (row (goal.at.invariant_of-result c).After-collect-positions);
    }
