-- `self_test::loopback` meets its contract.
-- Assumes nothing.
use mathlib.Core.Path.{◌≡◌, sym, ◌∙◌}
use Rattle.std.proofs.lemmas.Result.{err_from_is_err_and}
use Rattle.nr.specs.Loopback.{bad_strength}
use Rattle.checks.specs.Checks.{first_at}
use Rattle.self_test.proofs.Looping.{first-refused, second-refused, byte-refused, strength-refused, loops, loop-done}
use Rattle.self_test.proofs.loopback.Goals as goal
use Rattle.self_test.proofs.loopback.Goals.{After-first_outside}

-- the place that was looked for is that of the first bad strength
strength-is : (c : After-first_outside) → first_at bad_strength c.args.strengths.now ≡ c.first_outside.result
unfolding bad_strength
strength-is c = sym c.first_outside.ensures

pub returns-in_err-check_sizes : goal.returns-in_err-check_sizes
returns-in_err-check_sizes c =
    let a = c.args in
    let p = err_from_is_err_and c.from_residual.result c.from_residual.ensures.1 in
    rw (p.1, p.2) (first-refused a.numbers a.payload.now a.strengths.now a.out.now _ c.in_err-check_sizes.ensures.says)

pub through-requires : goal.through-requires
through-requires c =
    let a = c.args in
    loops a.numbers a.payload.now a.strengths.now a.out.now _ c.in_ok-check_sizes.ensures.says _ c.in_ok-check_sizes-2.ensures.says
    (sym c.in_default.ensures) (strength-is (goal.at.through-requires c).After-first_outside ∙ c.in_default-first_outside.is)

pub returns-in_err-check_sizes-2 : goal.returns-in_err-check_sizes-2
returns-in_err-check_sizes-2 c =
    let a = c.args in
    let r = c.from_residual-in_err-check_sizes-2 in
    let p = err_from_is_err_and r.result r.ensures.1 in
    rw (p.1, p.2)
    (second-refused a.numbers a.payload.now a.strengths.now a.out.now _ c.in_ok-check_sizes.ensures.says _ c.in_err-check_sizes-2.ensures.says)

pub returns-in-Some : goal.returns-in-Some
returns-in-Some c =
    let a = c.args in
    byte-refused a.numbers a.payload.now a.strengths.now a.out.now _ c.in_ok-check_sizes.ensures.says _ c.in_ok-check_sizes-2.ensures.says
    c.in-Some.byte (sym c.in-Some.ensures)

pub returns-in-Some-first_outside : goal.returns-in-Some-first_outside
returns-in-Some-first_outside c =
    let a = c.args in
    strength-refused a.numbers a.payload.now a.strengths.now a.out.now _ c.in_ok-check_sizes.ensures.says _ c.in_ok-check_sizes-2.ensures.says
    (sym c.in_default.ensures) c.in-Some-first_outside.strength
    (strength-is (goal.at.returns-in-Some-first_outside c).After-first_outside ∙ c.in-Some-first_outside.is)

pub returns : goal.returns
returns c =
    let a = c.args in
    loop-done a.numbers a.payload.now a.strengths.now a.out.now _ c.in_ok-check_sizes.ensures.says _ c.in_ok-check_sizes-2.ensures.says
    (sym c.in_default.ensures) (strength-is (goal.at.returns c).After-first_outside ∙ c.in_default-first_outside.is) c.through.ensures
