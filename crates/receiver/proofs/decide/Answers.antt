-- `receiver::decide` meets its contract.
-- Assumes nothing.
use Prim.Native.Nat.{ℕ, ◌-◌, ◌*◌, ◌≤◌, ◌^◌}
use native.Mathlib.Omega.{arith}
use borrow.Rule.Slice.PartMut.{put_mid}
use mathlib.Core.Path.{◌≡◌, sym, subst, ap, ◌∙◌}
use mathlib.Core.List.{List}
use lib.IntN.{ℤ, pos}
use lib.ListN.{length, take, replicate}
use Rattle.nr.specs.Transform.{transform}
use Rattle.nr.specs.SuccessiveDecoder.{descramble, code_row, marks, successive}
use Rattle.nr.specs.Decoding.{decided}
use Rattle.nr.specs.Rows.{Within}
use Rattle.nr.proofs.Lengths.{at_most_512}
use Rattle.nr.proofs.SoftRows.{length-code_row, code_row-within, descramble-within}
use Rattle.successive_decoder.specs.Levels.{row_of}
use Rattle.receiver.proofs.Working.{row-in-place}
use Rattle.receiver.proofs.decide.Goals as goal
use Rattle.receiver.proofs.decide.Goals.{Start, After-code_row}

room : (s : Start) → 2 * length s.args.est.now ≤ 1024
room s = omega (arith, at_most_512 s.requires.lengths.1 s.args.code.now.length.within.1)

values : Start → List ℤ
values s =
    let code = s.args.code.now in
    code_row code.kind (2 ^ code.length.n) (length s.args.soft.now) (descramble s.args.sequence.now s.args.soft.now)

-- they stand in their place, once the part from N to 2N came back as them
in_place : (c : After-code_row) → let N = length c.args.est.now in
    row_of (2 ^ c.args.code.now.length.n) (put_mid N (2 * N - N) (replicate 1024 (pos 0)) c.code_row.new.row) ≡ values (goal.at.After-code_row c).Start
unfolding values
in_place c =
    let N = length c.args.est.now in
    let is = c.requires.lengths.1 in
    let row = c.code_row.new.row in
    let size : length row ≡ N = ap length c.code_row.ensures ∙ length-code_row c.args.code.now.kind (2 ^ c.args.code.now.length.n) _ _ ∙ sym is in
    ap (λ (m : ℕ). row_of m (put_mid N (2 * N - N) (replicate 1024 (pos 0)) row)) (sym is)
    ∙ row-in-place (replicate 1024 (pos 0)) row N (room (goal.at.After-code_row c).Start) size
    ∙ c.code_row.ensures

pub returns : goal.returns
unfolding values decided
returns c =
    let code = c.args.code.now in
    let bits : List ℤ → List ℕ = successive code.length.n (marks (2 ^ code.length.n) (take code.k code.positions)) in
    let placed = in_place (goal.at.returns c).After-code_row in
    record {
      est_after = c.decide_row.ensures.est_after ∙ ap bits placed;
      word_after = c.decide_row.ensures.word_after ∙ ap (λ (v : List ℤ). transform code.length.n (bits v)) placed;
    }

pub slice_bounds-work-end : goal.slice_bounds-work-end
slice_bounds-work-end c = room (goal.at.slice_bounds-work-end c).Start

pub decide_row-requires-clause-work : goal.decide_row-requires-clause-work
unfolding values
decide_row-requires-clause-work c =
    let code = c.args.code.now in
    let soft = c.args.soft.now in
    subst (Within (2 ^ 20)) (sym (in_place (goal.at.decide_row-requires-clause-work c).After-code_row))
    (code_row-within code.kind (2 ^ code.length.n) (length soft) _ c.requires.fits.1 (descramble-within 127 c.args.sequence.now soft c.requires.fits.2))
