-- `dci::decode` meets its contract.
-- Assumes nothing.
use mathlib.Core.Path.{◌≡◌, sym, ◌∙◌}
use Rattle.std.specs.Prelude.{None}
use Rattle.std.proofs.lemmas.Result.{err_from_is_err_and}
use Rattle.nr.specs.Decoding.{bad_soft}
use Rattle.nr.proofs.Refusals.{Passes}
use Rattle.checks.specs.Checks.{first_at}
use Rattle.checks.proofs.Places.{first_at-none}
use Rattle.dci.proofs.Ranges.{first_at-soft}
use Rattle.dci.proofs.Outcomes.{decoding-sizes, decoding-entry, decoding-passes, judged-decoding, soft-within}
use Rattle.dci.proofs.decode.Goals as goal
use Rattle.dci.proofs.decode.Goals.{In_default}

pub returns-in-Some : goal.returns-in-Some
returns-in-Some c =
    let a = c.args in
    decoding-entry a.numbers a.soft.now a.out.now c.in_ok-sizes.sizes c.in_ok-sizes.ensures.says c.in-Some.place
    (sym (c.in-Some.ensures ∙ first_at-soft a.soft.now))

pub returns-in_err-sizes : goal.returns-in_err-sizes
returns-in_err-sizes c =
    let a = c.args in
    let p = err_from_is_err_and c.from_residual.result c.from_residual.ensures.1 in
    rw (p.1, p.2) (decoding-sizes a.numbers a.soft.now a.out.now c.in_err-sizes.field-0.0 c.in_err-sizes.ensures.says)

-- ---- nothing is refused

pub fresh-requires-clause-sizes : goal.fresh-requires-clause-sizes
fresh-requires-clause-sizes c = c.in_ok-sizes.ensures.sizes

clean : (c : In_default) → first_at bad_soft c.args.soft.now ≡ None
clean c = sym (c.in_default.ensures ∙ first_at-soft c.args.soft.now)

passed : (c : In_default) → let a = c.args in Passes a.numbers.a a.numbers.e bad_soft a.soft.now a.numbers.e a.out.now a.numbers.a
passed c =
    let a = c.args in
    decoding-passes a.numbers a.soft.now a.out.now c.in_ok-sizes.sizes c.in_ok-sizes.ensures.says (clean c)

pub fresh-requires-clause-fits : goal.fresh-requires-clause-fits
fresh-requires-clause-fits c =
    let soft = c.args.soft.now in
    let at = (goal.at.fresh-requires-clause-fits c).In_default in
    let p = passed at in
    (p.input-length, p.output-length, soft-within soft (first_at-none bad_soft soft (clean at)))

pub returns : goal.returns
returns c =
    let a = c.args in
    c.fresh.ensures ∙ judged-decoding a.numbers a.soft.now a.out.now (passed (goal.at.returns c).In_default)
