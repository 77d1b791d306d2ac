-- `sender::send` meets its contract.
-- Assumes nothing.
use Prim.Native.Nat.{ℕ, ◌^◌}
use mathlib.Core.Path.{◌≡◌, sym, subst, ap, ap₂, ◌∙◌}
use mathlib.Core.List.{List}
use lib.ListN.{length}
use Rattle.nr.specs.Rows.{xors, Bits}
use Rattle.nr.specs.RateMatching.{select}
use Rattle.nr.specs.Scrambling.{gold}
use Rattle.nr.specs.Coding.{code_word, coded}
use Rattle.nr.specs.Layouts.{layout_of}
use Rattle.nr.proofs.Lengths.{at_most_512, length-front, front-is, front-new, length-new, front-room}
use Rattle.nr.proofs.Matching.{length-select, bits-select}
use Rattle.nr.proofs.RoundTrip.{bits-code_word}
use Rattle.sender.proofs.send.Goals as goal
use Rattle.sender.proofs.send.Goals.{After-select}

pub slice_bounds-d-end : goal.slice_bounds-d-end
slice_bounds-d-end c = at_most_512 c.bits-len.ensures c.args.code.now.length.within.1

-- ---- the bits that are sent, before scrambling

selected : (c : After-select) → List ℕ
selected c =
    let code = c.args.code.now in
    select code.kind (2 ^ code.length.n) (length c.args.out.now) (code_word (layout_of code) c.args.rnti c.args.payload.now)

selected-is : (c : After-select) → c.select.new.out ≡ selected c
unfolding selected
selected-is c =
    let code = c.args.code.now in
    c.select.ensures
    ∙ ap (select code.kind (2 ^ code.length.n) (length c.args.out.now))
    (front-new c.bits-len.ensures code.length.within.1 0 c.code_word.new.d _ c.code_word.auto.d ∙ c.code_word.ensures)

-- ---- the other answers

pub slice_bounds-code_word-end : goal.slice_bounds-code_word-end
slice_bounds-code_word-end c = sym (length-front c.bits-len.ensures c.args.code.now.length.within.1 0)

pub code_word-requires-clause-zero : goal.code_word-requires-clause-zero
code_word-requires-clause-zero c = front-is c.bits-len.ensures c.args.code.now.length.within.1 0

pub slice_bounds-d-end-2 : goal.slice_bounds-d-end-2
slice_bounds-d-end-2 c = front-room c.bits-len.ensures c.args.code.now.length.within.1 0 c.code_word.new.d _ c.code_word.auto.d

pub slice_bounds-select-end : goal.slice_bounds-select-end
slice_bounds-select-end c =
    sym (length-new c.bits-len.ensures c.args.code.now.length.within.1 0 c.code_word.new.d _ c.code_word.auto.d)

pub select-requires : goal.select-requires
select-requires c =
    let size = length-new c.bits-len.ensures c.args.code.now.length.within.1 0 c.code_word.new.d _ c.code_word.auto.d in
    (size ∙ c.bits-len.ensures, c.requires.fits)

pub scramble-requires : goal.scramble-requires
unfolding selected
scramble-requires c =
    subst Bits (sym (selected-is (goal.at.scramble-requires c).After-select)) (bits-select _ _ _ _ (bits-code_word _ _ _))

pub returns : goal.returns
unfolding selected coded
returns c =
    let e = selected-is (goal.at.returns c).After-select in
    c.scramble.ensures
    ∙ ap₂ (λ (row : List ℕ) (m : ℕ). xors row (gold c.args.start.bits m)) e (ap length e ∙ length-select _ _ _ _)
