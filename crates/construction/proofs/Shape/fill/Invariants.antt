-- `construction::Shape::fill` meets its contract. The loop's invariant: the entries below p say what their positions are for.
-- Assumes nothing.
use mathlib.Core.List.{map}
use lib.ListN.{length}
use Rattle.nr.specs.Rows.{count}
use Rattle.rows.proofs.Filling.{Filling}
use Rattle.construction.specs.Shapes.{role_of}
use Rattle.construction.proofs.Shape.fill.Given as goal

abbrev pub invariant-loop-p : goal.invariant-loop-p
invariant-loop-p l =
    Filling l.initial.out (map (role_of l.self.length.n l.self.window l.bar l.row) (count 0 (length l.initial.out))) l.out l.p
