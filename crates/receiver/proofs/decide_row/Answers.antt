-- `receiver::decide_row` meets its contract.
-- Assumes nothing.
use Prim.Native.Nat.{ℕ, ◌^◌}
use mathlib.Core.Path.{◌≡◌, sym, ap, ap₂, ◌∙◌}
use mathlib.Core.List.{List, ◌++◌}
use lib.ListN.{length, take, drop, replicate}
use Rattle.nr.specs.Transform.{transform}
use Rattle.nr.specs.SuccessiveDecoder.{marks, successive}
use Rattle.nr.proofs.Lengths.{at_most_512, length-front, front-is, front-new, length-new, front-room}
use Rattle.successive_decoder.specs.Levels.{row_of}
use Rattle.receiver.proofs.decide_row.Goals as goal
use Rattle.receiver.proofs.decide_row.Goals.{After-mark}

-- the row that is marked is of zeros
pub mark-requires : goal.mark-requires
mark-requires c =
    let code = c.args.code.now in
    let is = c.requires.lengths.0 in
    let size = length-front is code.length.within.1 0 ∙ is in (
      rw (size, c.information.ensures) code.placed,
      front-is is code.length.within.1 0 ∙ ap (λ (m : ℕ). replicate m 0) (sym size),
    )

-- the marks come back in it
marked : (c : After-mark) → let len = length c.args.est.now in let code = c.args.code.now in
    take len (c.mark.new.row ++ drop len (replicate 512 0)) ≡ marks (2 ^ code.length.n) (take code.k code.positions)
marked c =
    let is = c.requires.lengths.0 in
    let small = c.args.code.now.length.within.1 in
    front-new is small 0 c.mark.new.row _ c.mark.auto.row ∙ c.mark.ensures ∙ ap₂ marks (length-front is small 0 ∙ is) c.information.ensures

-- ---- the answers

pub slice_bounds-chosen-end : goal.slice_bounds-chosen-end
slice_bounds-chosen-end c = at_most_512 c.requires.lengths.0 c.args.code.now.length.within.1

pub slice_bounds-mark-end : goal.slice_bounds-mark-end
slice_bounds-mark-end c = sym (length-front c.requires.lengths.0 c.args.code.now.length.within.1 0)

pub slice_bounds-chosen-end-2 : goal.slice_bounds-chosen-end-2
slice_bounds-chosen-end-2 c = front-room c.requires.lengths.0 c.args.code.now.length.within.1 0 c.mark.new.row _ c.mark.auto.row

pub slice_bounds-decode_row-end : goal.slice_bounds-decode_row-end
slice_bounds-decode_row-end c = sym (length-new c.requires.lengths.0 c.args.code.now.length.within.1 0 c.mark.new.row _ c.mark.auto.row)

pub decode_row-requires-clause-n_bound : goal.decode_row-requires-clause-n_bound
decode_row-requires-clause-n_bound c =
    let small = c.args.code.now.length.within.1 in
    let is = c.requires.lengths.0 in
    (small, c.told-work, length-new is small 0 c.mark.new.row _ c.mark.auto.row ∙ is, is, c.requires.lengths.1)

pub returns : goal.returns
returns c =
    let n = c.args.code.now.length.n in
    let m = marked (goal.at.returns c).After-mark in
    let decided : List ℕ → List ℕ = λ r. successive n r (row_of (2 ^ n) c.args.work.now) in
    record {
      est_after = c.decode_row.ensures.est_after ∙ ap decided m;
      word_after = c.decode_row.ensures.word_after ∙ ap (λ (r : List ℕ). transform n (decided r)) m;
    }
