-- `interleaver::deinterleave` meets its contract.
-- Assumes nothing.
use Prim.Native.Nat.{◌-◌, ◌≤◌}
use native.Mathlib.Omega.{arith}
use mathlib.Core.Path.{refl, ◌∙◌}
use lib.ListN.{length}
use Rattle.nr.specs.Interleaver.{interleaver}
use Rattle.interleaver.proofs.Picking.{whole, Counted, skips, counts, returned-none, returned-more, returned-all}
use Rattle.interleaver.proofs.deinterleave.Goals as goal
use Rattle.interleaver.proofs.deinterleave.Goals.{After-from-x, then-least-x, else-least-x}

pub loop-place-init : goal.loop-place-init
unfolding interleaver
loop-place-init c = record { table = refl; count = refl; returned = returned-none _ _ c.requires.1 }

turn : (c : After-from-x) → 164 - length c.args.row.now ≤ c.from-x.result → Counted (length c.args.row.now) c.loop-place.j c.loop-place.place-index c.from-x.result
turn c =
    counts c.loop-place.invariant.table c.requires.0 c.loop-place-test.true c.from-x.ensures c.loop-place.invariant.count

pub loop-place-preserved : goal.loop-place-preserved
loop-place-preserved c =
    let few = c.requires.0 in
    let i = c.loop-place.invariant in
    elim c.if-least-x.branch [
      | then-least-x w ↦
          let t = turn (goal.at.loop-place-preserved c).After-from-x w.if-least-x.true in
          record {
            table = i.table;
            count = w.j-is ∙ t.next;
            returned = rw (w.out-is, w.j-is) (returned-more _ _ few c.loop-place.j _ _ i.returned t.room t.spot refl);
          }
      | else-least-x w ↦ record {
        table = i.table;
        count = w.j-is ∙ skips i.table few c.loop-place-test.true c.from-x.ensures i.count w.if-least-x.false;
        returned = rw (w.out-is, w.j-is) i.returned;
      }
    ]

pub bounds-row-j : goal.bounds-row-j
bounds-row-j c = (turn (goal.at.bounds-row-j c).After-from-x c.if-least-x.true).room

pub bounds-out-x : goal.bounds-out-x
bounds-out-x c = omega (arith, (turn (goal.at.bounds-out-x c).After-from-x c.if-least-x.true).below, c.loop-place.invariant.returned.size)

pub overflow_add-j : goal.overflow_add-j
overflow_add-j c = omega (arith, (turn (goal.at.overflow_add-j c).After-from-x c.if-least-x.true).room)

pub returns : goal.returns
returns c =
    let few = c.requires.0 in
    let i = c.loop-place.invariant in
    returned-all _ _ few c.loop-place.j i.returned (omega (arith, i.count, whole _ few c.loop-place.place-index (omega arith)))
