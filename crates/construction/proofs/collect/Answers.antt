-- `construction::collect` meets its contract.
-- Assumes nothing.
use Rattle.construction.proofs.Collection.{collecting, leave, room, store, collected}
use Rattle.construction.proofs.collect.Goals as goal
use Rattle.construction.proofs.collect.Goals.{then-mark-ne0, else-mark-ne0}

pub loop-p-init : goal.loop-p-init
loop-p-init c = collecting c.args.row.now c.requires.1

pub loop-p-preserved : goal.loop-p-preserved
loop-p-preserved c =
    let turn = c.loop-p.invariant in
    elim c.if-mark-ne0.branch [
      | then-mark-ne0 w ↦ rw (w.positions-is, w.j-is) (store _ c.requires.1 _ _ _ turn c.loop-p-test.true w.if-mark-ne0.true)
      | else-mark-ne0 w ↦ rw (w.positions-is, w.j-is) (leave _ c.requires.1 _ _ _ turn c.loop-p-test.true w.if-mark-ne0.false)
    ]

pub bounds-positions-j : goal.bounds-positions-j
bounds-positions-j c = room _ c.requires.1 _ _ _ c.loop-p.invariant c.loop-p-test.true c.if-mark-ne0.true

pub returns : goal.returns
returns c = collected _ c.requires.1 _ _ _ c.loop-p.invariant c.loop-p-test.false
