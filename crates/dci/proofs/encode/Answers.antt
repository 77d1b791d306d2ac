-- `dci::encode` meets its contract.
-- Assumes nothing.
use mathlib.Core.Path.{sym}
use Rattle.std.proofs.lemmas.Result.{err_from_is_err_and}
use Rattle.nr.specs.Coding.{bad_byte}
use Rattle.nr.proofs.Refusals.{Passes}
use Rattle.checks.proofs.Places.{first_at-none}
use Rattle.dci.proofs.Outcomes.{coding-sizes, coding-entry, coding-passes, coding-done, payload-bits}
use Rattle.dci.proofs.encode.Goals as goal

-- ---- nothing is refused

pub write-requires-clause-fits : goal.write-requires-clause-fits
write-requires-clause-fits c =
    let a = c.args in
    let p : Passes a.numbers.a a.numbers.e bad_byte a.payload.now a.numbers.a a.out.now a.numbers.e =
    coding-passes a.numbers a.payload.now a.out.now c.in_ok-sizes.sizes c.in_ok-sizes.ensures.says (sym c.in_default.ensures) in
    (p.input-length, p.output-length, payload-bits a.payload.now (first_at-none bad_byte a.payload.now (sym c.in_default.ensures)))

pub write-requires-clause-sizes : goal.write-requires-clause-sizes
write-requires-clause-sizes c = c.in_ok-sizes.ensures.sizes

pub returns : goal.returns
returns c =
    let a = c.args in
    coding-done a.numbers a.payload.now a.out.now c.in_ok-sizes.sizes c.in_ok-sizes.ensures.says (sym c.in_default.ensures) _ c.write.new.out c.write.ensures

-- ---- one of the tests refuses

pub returns-in_err-sizes : goal.returns-in_err-sizes
returns-in_err-sizes c =
    let a = c.args in
    let p = err_from_is_err_and c.from_residual.result c.from_residual.ensures.1 in
    rw (p.1, p.2) (coding-sizes a.numbers a.payload.now a.out.now _ c.in_err-sizes.field-0.0 c.in_err-sizes.ensures.says)

pub returns-in-Some : goal.returns-in-Some
returns-in-Some c =
    let a = c.args in
    coding-entry a.numbers a.payload.now a.out.now c.in_ok-sizes.sizes c.in_ok-sizes.ensures.says _ c.in-Some.place (sym c.in-Some.ensures)
