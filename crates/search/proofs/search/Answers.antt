-- `search::search` meets its contract.
-- Assumes nothing.
use mathlib.Core.Path.{sym, ◌∙◌}
use Rattle.std.proofs.lemmas.Result.{err_from_is_err_and}
use Rattle.checks.proofs.Refusing.{done}
use Rattle.search.proofs.Turns.{size-refused, no_start}
use Rattle.search.proofs.search.Goals as goal

pub returns-in_err-check_sizes-clause-is : goal.returns-in_err-check_sizes-clause-is
returns-in_err-check_sizes-clause-is c =
    let a = c.args in
    let p = err_from_is_err_and c.from_residual.result c.from_residual.ensures.1 in
    rw (p.1, p.2) (size-refused a.n_id a.region.now a.list.now a.out.now c.in_err-check_sizes.field-0.0 c.in_err-check_sizes.ensures)

pub returns-in_err-check_sizes-clause-own_refused : goal.returns-in_err-check_sizes-clause-own_refused
returns-in_err-check_sizes-clause-own_refused c =
    let a = c.args in
    let p = err_from_is_err_and c.from_residual.result c.from_residual.ensures.1 in
    rw p.1
    (no_start a.n_id a.region.now a.list.now a.out.now c.in_err-check_sizes.field-0.0 a.out.now
    (size-refused a.n_id a.region.now a.list.now a.out.now c.in_err-check_sizes.field-0.0 c.in_err-check_sizes.ensures))

pub among-requires : goal.among-requires
among-requires c = sym (done c.in_ok-check_sizes.field-0) ∙ c.in_ok-check_sizes.ensures.number
