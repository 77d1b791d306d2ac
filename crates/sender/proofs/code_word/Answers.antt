-- `sender::code_word` meets its contract.
-- Assumes nothing.
use Prim.Native.Nat.{ℕ, ◌^◌}
use mathlib.Core.Path.{◌≡◌, sym, subst, ap, ◌∙◌}
use mathlib.Core.List.{List, ◌++◌}
use lib.ListN.{length, take, drop, replicate, length-replicate}
use Rattle.nr.specs.Rows.{Bits}
use Rattle.nr.specs.Parity.{attach, mask_rnti}
use Rattle.nr.specs.Interleaver.{interleave}
use Rattle.nr.specs.Transform.{transform}
use Rattle.nr.specs.Coding.{placed, code_word}
use Rattle.nr.proofs.Parity.{bits-mask_rnti}
use Rattle.nr.proofs.Interleaver.{bits-interleave}
use Rattle.nr.proofs.RoundTrip.{bits-placed}
use Rattle.rows.proofs.Parts.{front-back, front-size}
use Rattle.sender.proofs.code_word.Goals as goal
use Rattle.sender.proofs.code_word.Goals.{After-information_bits, After-place}

-- the interleaved bits, as many as there are positions, come back in the part of the row that is lent
lent : (c : After-information_bits) → let k = c.args.code.now.k in let bits = c.information_bits.new.bits in
    take k (bits ++ drop k (replicate 164 0)) ≡ bits
lent c =
    let k = c.args.code.now.k in
    front-back c.information_bits.new.bits _ k (c.information_bits.auto.bits ∙ front-size k 164 0 c.args.code.now.few)

-- the row that is transformed
word : (c : After-place) → List ℕ
word c =
    let code = c.args.code.now in
    placed (2 ^ code.length.n) (take code.k code.positions) (interleave (mask_rnti c.args.rnti (attach c.args.payload.now)))

word-is : (c : After-place) → c.place.new.u ≡ word c
unfolding word
word-is c =
    let sent = lent (goal.at.After-place c).After-information_bits ∙ c.information_bits.ensures in
    let size = ap length c.requires.zero ∙ length-replicate (2 ^ c.args.code.now.length.n) 0 in
    cc (sent, size)

pub transform-requires-clause-bits : goal.transform-requires-clause-bits
unfolding word
transform-requires-clause-bits c =
    subst Bits (sym (word-is (goal.at.transform-requires-clause-bits c).After-place)) (bits-placed _ _ _ (bits-interleave _ (bits-mask_rnti _ _)))

pub returns : goal.returns
unfolding word code_word
returns c = c.transform.ensures ∙ ap (transform c.args.code.now.length.n) (word-is (goal.at.returns c).After-place)
