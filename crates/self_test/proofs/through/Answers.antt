-- `self_test::through` meets its contract: promise 3 over the two calls.
-- Assumes nothing.
use Prim.Native.Nat.{◌≤◌}
use mathlib.Core.Path.{sym, ◌∙◌}
use lib.ListN.{length}
use lib.Seq.{length-take-le}
use Rattle.nr.proofs.Construction.{accepted}
use Rattle.nr.proofs.Refusals.{longest}
use Rattle.self_test.proofs.Looping.{strengths-within, loop-found}
use Rattle.self_test.proofs.through.Goals as goal
use Rattle.self_test.proofs.through.Goals.{Start}

short : (s : Start) → s.args.numbers.e ≤ 1728
short s = longest s.args.numbers.e (accepted s.args.numbers.a s.args.numbers.e s.requires.numbers).length

-- one entry for each strength
room : (s : Start) → length s.args.strengths.now ≤ 1728
room s = rw s.requires.size (short s)

pub slice_bounds-room-end : goal.slice_bounds-room-end
slice_bounds-room-end c = room (goal.at.slice_bounds-room-end c).Start

pub slice_bounds-soft-end : goal.slice_bounds-soft-end
slice_bounds-soft-end c = sym (length-take-le (length c.args.strengths.now) _ (room (goal.at.slice_bounds-soft-end c).Start))

pub sign-requires : goal.sign-requires
sign-requires c =
    let s = (goal.at.sign-requires c).Start in
    let a = c.args in (
      c.requires.size,
      length-take-le (length a.strengths.now) _ (room s) ∙ c.requires.size,
      short s,
      strengths-within a.numbers a.payload.now a.strengths.now a.out.now c.requires,
    )

pub returns : goal.returns
returns c =
    let a = c.args in
    loop-found a.numbers a.payload.now a.strengths.now a.out.now c.requires _ c.sign.ensures c.decode.ensures
