-- `search::among` meets its contract.
-- Assumes nothing.
use Prim.Native.Nat.{ℕ, ◌+◌}
use mathlib.Core.Path.{◌≡◌, sym, ap, ◌∙◌}
use mathlib.Core.Logic.{◌≢◌}
use lib.ListN.{length}
use borrow.Author.Rules.{rules}
use Rattle.nr.specs.declared.Refusal.TheVariants.{NoCandidate}
use Rattle.nr.specs.Answer.{number}
use Rattle.nr.specs.Searching.{search_refusal}
use Rattle.checks.proofs.Refusing.{refused}
use Rattle.candidates.proofs.Checked.{able}
use Rattle.search.specs.Tries.{named}
use Rattle.search.proofs.Keeping.{same_code}
use Rattle.search.proofs.Turns.{bad-row, one_more, Turn, skip-unable, skip, skip-refused, found_it, found_none, room, row_fits, tries, no_start, start-at}
use Rattle.search.proofs.among.Goals as goal
use Rattle.search.proofs.among.Goals.{After-candidate_at-c}

-- ---- what holds at the places of the code

-- with a candidate
turn : (c : After-candidate_at-c) → let a = c.args in
    Turn a.n_id a.region.now a.list.now a.out.now c.candidates.out c.candidates.i c.candidate_at-c.result
turn c = record { kept = c.candidates.invariant; below = c.candidates-test.true; is = c.candidate_at-c.ensures }

-- the lengths are right
sized : (c : After-candidate_at-c) → let a = c.args in 0 ≡ search_refusal (length a.region.now) (length a.list.now) (length a.out.now)
sized c = c.requires

-- ---- the answers

pub candidates-preserved-in_default : goal.candidates-preserved-in_default
candidates-preserved-in_default c =
    skip-unable (turn (goal.at.candidates-preserved-in_default c).After-candidate_at-c) (sym c.in_default.ensures.able)

pub slice_bounds-row-end : goal.slice_bounds-row-end
slice_bounds-row-end c = room c.args.region.now c.candidate_at-c.result (able _ _ (sym c.in-Some.ensures.able))

pub candidates-preserved-then-is_outside : goal.candidates-preserved-then-is_outside
candidates-preserved-then-is_outside c =
    let t = turn (goal.at.candidates-preserved-then-is_outside c).After-candidate_at-c in
    let bad = bad-row c.values.invariant c.values-test.true c.is_outside.result c.is_outside.ensures (search rules) in
    skip t _ t.kept.same (bad _ _ (sym c.in-Some.ensures.able) c.if-is_outside.true)

pub values-preserved : goal.values-preserved
values-preserved c =
    one_more c.values.invariant c.values-test.true c.is_outside.result c.is_outside.ensures (search rules) c.if-is_outside.false

pub extend-requires : goal.extend-requires
extend-requires c = row_fits c.values.invariant (able _ _ (sym c.in-Some.ensures.able))

pub attempt-requires-clause-tries : goal.attempt-requires-clause-tries
attempt-requires-clause-tries c =
    let at = goal.at.attempt-requires-clause-tries c in
    tries (turn at.After-candidate_at-c) (able _ _ (sym c.in-Some.ensures.able)) c.values.invariant c.numbers_of-numbers.ensures c.values-test.false
    (sized at.After-candidate_at-c) c.extend.new.self (ap (λ s. s.bits) c.extend.ensures.0 ∙ c.c_init.ensures) c.extend.ensures.1

pub attempt-requires-clause-lays : goal.attempt-requires-clause-lays
attempt-requires-clause-lays c =
    let k = c.code_for-made.ensures in
    let s = c.in-Some.ensures.sizes in
    let n = c.numbers_of-numbers in
    same_code c.code_for-made.result.now n.result.a n.result.e (k.0 ∙ s.0 ∙ sym (ap (λ u. u.a) n.ensures)) (k.1 ∙ s.1 ∙ sym (ap (λ u. u.e) n.ensures))

pub returns-in-Ok-clause-is : goal.returns-in-Ok-clause-is
unfolding named
returns-in-Ok-clause-is c =
    let at = (goal.at.returns-in-Ok-clause-is c).After-candidate_at-c in
    found_it (turn at) (sym c.in-Some.ensures.able) c.values.invariant.is c.numbers_of-numbers.ensures c.attempt.result c.attempt.new.out c.attempt.ensures
    c.in-Ok.noise c.in-Ok.is (sized at)

pub returns-in-Ok-clause-own : goal.returns-in-Ok-clause-own
returns-in-Ok-clause-own c =
    let at = (goal.at.returns-in-Ok-clause-own c).After-candidate_at-c in
    let f =
    found_it (turn at) (sym c.in-Some.ensures.able) c.values.invariant.is c.numbers_of-numbers.ensures c.attempt.result c.attempt.new.out c.attempt.ensures
    c.in-Ok.noise c.in-Ok.is (sized at) in
    let p = c.args.region.ref_ptr in
    ap (λ (n : ℕ). (p.0, n + p.1)) (start-at (turn at) _ _ _ _ f)

pub candidates-preserved : goal.candidates-preserved
candidates-preserved c =
    let refuses : number c.attempt.result ≢ 0 = λ e. refused ℕ _ (sym (ap number c.in_default-attempt.is) ∙ e) in
    skip-refused (turn (goal.at.candidates-preserved c).After-candidate_at-c) (sym c.in-Some.ensures.able) c.values.invariant.is c.numbers_of-numbers.ensures
    c.attempt.result c.attempt.new.out c.attempt.ensures refuses

pub returns-clause-is : goal.returns-clause-is
unfolding named number
returns-clause-is c =
    found_none c.candidates.invariant c.candidates-test.false c.requires

pub returns-clause-own_refused : goal.returns-clause-own_refused
unfolding named number
returns-clause-own_refused c =
    let a = c.args in
    no_start a.n_id a.region.now a.list.now a.out.now NoCandidate _
    (found_none c.candidates.invariant c.candidates-test.false c.requires)
