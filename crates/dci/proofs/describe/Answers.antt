-- `dci::describe` meets its contract.
-- Assumes nothing.
use Prim.Native.Nat.{ℕ}
use mathlib.Core.Path.{ap₂, ◌∙◌}
use Rattle.std.proofs.lemmas.Result.{err_from_is_err_and}
use Rattle.nr.specs.Numbers.{K}
use Rattle.nr.specs.Describing.{roles}
use Rattle.dci.proofs.Telling.{telling-sizes, telling-passes, telling-done}
use Rattle.dci.proofs.describe.Goals as goal

pub returns-in_err-sizes : goal.returns-in_err-sizes
returns-in_err-sizes c =
    let a = c.args in
    let p = err_from_is_err_and c.from_residual.result c.from_residual.ensures.1 in
    rw (p.1, p.2) (telling-sizes a.a a.e a.out.now _ c.in_err-sizes.field-0.0 c.in_err-sizes.ensures.says)

pub describe-requires : goal.describe-requires
describe-requires c =
    let a = c.args in
    (telling-passes a.a a.e a.out.now c.in_ok-sizes.sizes c.in_ok-sizes.ensures.says).1

pub returns : goal.returns
returns c =
    let a = c.args in
    let s = c.in_ok-sizes.ensures.sizes in
    telling-done a.a a.e a.out.now c.in_ok-sizes.sizes c.in_ok-sizes.ensures.says _ c.describe.new.out
    (c.describe.ensures ∙ ap₂ (λ (a e : ℕ). roles (K a) e) s.0 s.1)
