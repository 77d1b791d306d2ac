-- `dci::accept` meets its contract.
-- Assumes nothing.
use Prim.Native.Nat.{ℕ, ◌^◌}
use mathlib.Core.Path.{◌≡◌, sym, subst, ap, ◌∙◌}
use mathlib.Core.List.{List, ◌++◌}
use lib.ListN.{length, take, drop, replicate}
use Rattle.nr.specs.Rows.{xors, Bits}
use Rattle.nr.specs.RateMatching.{select}
use Rattle.nr.specs.Scrambling.{c_init}
use Rattle.nr.specs.Noise.{noise_count}
use Rattle.nr.proofs.Scrambling.{bits-gold}
use Rattle.nr.proofs.Lengths.{at_most_512, length-front, front-new, length-new, front-room}
use Rattle.rows.proofs.Parts.{front-size}
use Rattle.dci.proofs.Judging.{Handed, soft-fits, soft-few, terms-size, matches-asks, payload-room, payload-size, refused, decoded}
use Rattle.dci.proofs.Tallying.{bits-word, counted-again}
use Rattle.dci.proofs.accept.Goals as goal
use Rattle.dci.proofs.accept.Goals.{Start, After-receive}

handed : (s : Start) → let a = s.args in Handed a.numbers a.code.now a.sequence.now a.soft.now a.out.now
handed s =
    record {
      ok = s.requires.e_value.0;
      received = s.requires.e_value.1;
      room = s.requires.e_value.2;
      lays = s.requires.lays.0;
      terms = s.requires.lays.1;
    }

-- ---- what the receiver asks

pub slice_bounds-word-end : goal.slice_bounds-word-end
slice_bounds-word-end c = at_most_512 c.bits-len.ensures c.args.code.now.length.within.1

pub slice_bounds-receive-end-2 : goal.slice_bounds-receive-end-2
slice_bounds-receive-end-2 c = sym (length-front c.bits-len.ensures c.args.code.now.length.within.1 0)

pub receive-requires-clause-fits : goal.receive-requires-clause-fits
receive-requires-clause-fits c =
    let h = handed (goal.at.receive-requires-clause-fits c).Start in
    (soft-fits h, soft-few h, c.requires.e_value.3)

pub receive-requires-clause-lengths : goal.receive-requires-clause-lengths
receive-requires-clause-lengths c =
    let h = handed (goal.at.receive-requires-clause-lengths c).Start in
    (terms-size h, front-size c.args.code.now.k 164 0 c.args.code.now.few, length-front c.bits-len.ensures c.args.code.now.length.within.1 0 ∙ c.bits-len.ensures)

-- ---- by the parity of the row

pub matches-matched-requires : goal.matches-matched-requires
matches-matched-requires c = matches-asks (handed (goal.at.matches-matched-requires c).Start) c.receive.new.row _ c.receive.ensures.row_after

pub returns-then-not-matched : goal.returns-then-not-matched
returns-then-not-matched c =
    refused (handed (goal.at.returns-then-not-matched c).Start) c.receive.new.row _ c.receive.ensures.row_after _ c.matches-matched.ensures c.if-not-matched.true

pub slice_bounds-row-end-3 : goal.slice_bounds-row-end-3
slice_bounds-row-end-3 c = payload-room (handed (goal.at.slice_bounds-row-end-3 c).Start) c.receive.new.row _ c.receive.ensures.row_after

pub slice_bounds-copy-end : goal.slice_bounds-copy-end
slice_bounds-copy-end c = sym (payload-size (handed (goal.at.slice_bounds-copy-end c).Start) c.receive.new.row _ c.receive.ensures.row_after)

pub copy-requires : goal.copy-requires
copy-requires c = sym (payload-size (handed (goal.at.copy-requires c).Start) c.receive.new.row _ c.receive.ensures.row_after)

-- ---- the noise count

word-is : (c : After-receive) → take c.bits-len.result (c.receive.new.word ++ drop c.bits-len.result (replicate 512 0)) ≡ c.receive.new.word
word-is c = front-new c.bits-len.ensures c.args.code.now.length.within.1 0 c.receive.new.word _ c.receive.auto.word

pub slice_bounds-word-end-2 : goal.slice_bounds-word-end-2
slice_bounds-word-end-2 c = front-room c.bits-len.ensures c.args.code.now.length.within.1 0 c.receive.new.word _ c.receive.auto.word

pub slice_bounds-count-end : goal.slice_bounds-count-end
slice_bounds-count-end c = sym (length-new c.bits-len.ensures c.args.code.now.length.within.1 0 c.receive.new.word _ c.receive.auto.word)

pub count-requires-clause-le_n : goal.count-requires-clause-le_n
count-requires-clause-le_n c = let h = handed (goal.at.count-requires-clause-le_n c).Start in (soft-fits h, soft-few h)

pub count-requires-clause-word_len : goal.count-requires-clause-word_len
count-requires-clause-word_len c =
    let h = handed (goal.at.count-requires-clause-word_len c).Start in
    let r = (goal.at.count-requires-clause-word_len c).After-receive in (
      length-new c.bits-len.ensures c.args.code.now.length.within.1 0 c.receive.new.word _ c.receive.auto.word ∙ c.bits-len.ensures,
      terms-size h,
      subst Bits (sym (word-is r ∙ c.receive.ensures.word_after)) (bits-word _ _ _ _),
      subst Bits (sym c.requires.lays.1) (bits-gold (c_init c.args.numbers) c.args.numbers.e),
    )

pub returns : goal.returns
returns c =
    let h = handed (goal.at.returns c).Start in
    let r = (goal.at.returns c).After-receive in
    let a = c.args in
    let count : List ℕ → ℕ = λ w. noise_count a.soft.now (xors (select a.code.now.kind (2 ^ a.code.now.length.n) (length a.soft.now) w) a.sequence.now) in
    decoded h c.receive.new.row _ c.receive.ensures.row_after _ c.matches-matched.ensures c.if-not-matched.false c.copy.new.to c.count.result c.copy.ensures
    (λ m. c.count.ensures ∙ ap count (word-is r ∙ c.receive.ensures.word_after) ∙ counted-again h m)
