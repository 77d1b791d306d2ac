-- `self_test::sign` meets its contract.
-- Assumes nothing.
use Prim.Native.Nat.{ℕ, ◌≤◌}
use mathlib.Core.Path.{◌≡◌, ap, ◌∙◌}
use mathlib.Core.List.{List}
use lib.ListN.{length, replicate}
use Rattle.std.proofs.lemmas.List.{take-replicate}
use Rattle.nr.specs.Answer.{Outcome, given}
use Rattle.nr.specs.SuccessiveDecoder.{descramble}
use Rattle.nr.specs.Coding.{coding}
use Rattle.self_test.proofs.sign.Goals as goal
use Rattle.self_test.proofs.sign.Goals.{After-encode}

-- the row is given as zeros, so that what is in it does not depend on the caller's
coded : (c : After-encode) → c.encode.new.out ≡ (coding c.args.numbers c.args.payload.now (replicate c.args.numbers.e 0)).buffer
unfolding given
coded c =
    let short : length c.args.strengths.now ≤ 1728 = rw c.requires.0 c.requires.2 in
    ap (λ (o : Outcome). o.buffer) c.encode.ensures
    ∙ ap (λ (x : List ℕ). (coding c.args.numbers c.args.payload.now x).buffer)
    (take-replicate (length c.args.strengths.now) 1728 0 short ∙ ap (λ (m : ℕ). replicate m 0) c.requires.0)

pub returns : goal.returns
returns c =
    c.negate.ensures ∙ ap (λ (x : List ℕ). descramble x c.args.strengths.now) (coded (goal.at.returns c).After-encode)
