-- `construction::Shape::mark` meets its contract. The loop's invariant: of the positions seen, those that the window admits are marked.
-- Assumes nothing.
use Prim.Native.Nat.{◌<◌}
use Rattle.nr.specs.Reliability.{reliability}
use Rattle.admission.specs.Window.{admits}
use Rattle.construction.proofs.Choice.{Choosing}
use Rattle.construction.proofs.Shape.mark.Given as goal

abbrev pub invariant-loop-position : goal.invariant-loop-position
invariant-loop-position l = record {
  wanted : 0 < l.left;
  chosen : Choosing (admits l.self.length.n l.self.window) 512 l.self.k reliability l.row l.left l.position-iterator.iter.rest.now;
}
