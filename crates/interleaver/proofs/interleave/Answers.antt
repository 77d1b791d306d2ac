-- `interleaver::interleave` meets its contract.
-- Assumes nothing.
use Prim.Native.Nat.{◌-◌, ◌≤◌}
use native.Mathlib.Omega.{arith}
use mathlib.Core.Path.{refl, sym, ◌∙◌}
use lib.ListN.{length}
use Rattle.nr.specs.Interleaver.{interleaver}
use Rattle.nr.proofs.Interleaver.{length-interleave}
use Rattle.rows.proofs.Filling.{filling, filling-more, filled, filling-length}
use Rattle.interleaver.proofs.Picking.{whole, Counted, skips, counts, output}
use Rattle.interleaver.proofs.interleave.Goals as goal
use Rattle.interleaver.proofs.interleave.Goals.{After-from-x, then-h-x, else-h-x}

pub loop-entry-init : goal.loop-entry-init
unfolding interleaver
loop-entry-init c = record { table = refl; count = refl; filled = filling _ _ (c.requires.1 ∙ sym (length-interleave c.args.row.now c.requires.0)) }

turn : (c : After-from-x) → 164 - length c.args.row.now ≤ c.from-x.result → Counted (length c.args.row.now) c.loop-entry.k c.loop-entry.entry-index c.from-x.result
turn c =
    counts c.loop-entry.invariant.table c.requires.0 c.loop-entry-test.true c.from-x.ensures c.loop-entry.invariant.count

pub loop-entry-preserved : goal.loop-entry-preserved
loop-entry-preserved c =
    let row = c.args.row.now in
    let few = c.requires.0 in
    let i = c.loop-entry.invariant in
    elim c.if-h-x.branch [
      | then-h-x w ↦
          let t = turn (goal.at.loop-entry-preserved c).After-from-x w.if-h-x.true in
          record {
            table = i.table;
            count = w.k-is ∙ t.next;
            filled = rw (w.out-is, w.k-is) (filling-more i.filled _ 0 (omega (arith, length-interleave row few, t.room)) (output row c.loop-entry.k _ few t.room t.spot));
          }
      | else-h-x w ↦ record {
        table = i.table;
        count = w.k-is ∙ skips i.table few c.loop-entry-test.true c.from-x.ensures i.count w.if-h-x.false;
        filled = rw (w.out-is, w.k-is) i.filled;
      }
    ]

pub bounds-row-x : goal.bounds-row-x
bounds-row-x c = omega (arith, (turn (goal.at.bounds-row-x c).After-from-x c.if-h-x.true).below)

pub bounds-out-k : goal.bounds-out-k
bounds-out-k c = omega (arith, (turn (goal.at.bounds-out-k c).After-from-x c.if-h-x.true).room, filling-length c.loop-entry.invariant.filled)

pub returns : goal.returns
returns c =
    let row = c.args.row.now in
    let few = c.requires.0 in
    let i = c.loop-entry.invariant in
    filled i.filled (omega (arith, i.count, whole (length row) few c.loop-entry.entry-index (omega arith), length-interleave row few))
