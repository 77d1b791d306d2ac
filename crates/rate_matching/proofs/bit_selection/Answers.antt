-- `rate_matching::bit_selection` meets its contract.
-- Assumes nothing.
use native.Mathlib.Nat.{le_of_lt}
use mathlib.Core.Path.{sym, ◌∙◌}
use lib.ListN.{length}
use Rattle.rate_matching.proofs.Sending.{sent-repetition, sent-puncturing, sent-shortening, fitting}
use Rattle.rate_matching.proofs.bit_selection.Goals as goal

pub returns-in-Puncturing : goal.returns-in-Puncturing
returns-in-Puncturing c =
    let y = c.args.y.now in
    let told = c.in-Puncturing.is in
    c.copy.ensures ∙ sym (sent-puncturing y _ told (le_of_lt (fitting (length y) _ told c.requires.1)))

pub returns-in-Repetition : goal.returns-in-Repetition
returns-in-Repetition c =
    c.repeat.ensures ∙ sym (sent-repetition c.args.y.now (length c.args.out.now) c.in-Repetition.is)

pub returns-in-Shortening : goal.returns-in-Shortening
returns-in-Shortening c =
    let y = c.args.y.now in
    let told = c.in-Shortening.is in
    c.copy-in-Shortening.ensures ∙ sym (sent-shortening y _ told (le_of_lt (fitting (length y) _ told c.requires.1)))
