-- `search::among` meets its contract.
-- Assumes nothing.
use Rattle.search.proofs.Turns.{Passed, Passed_over}
use Rattle.search.proofs.among.Given as goal

abbrev pub invariant-values : goal.invariant-values
invariant-values l = Passed l.region l.c l.row l.x-index

abbrev pub invariant-candidates : goal.invariant-candidates
invariant-candidates l = Passed_over l.n_id l.region l.list l.initial.out l.out l.i
