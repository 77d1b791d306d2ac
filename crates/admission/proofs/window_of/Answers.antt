-- `admission::window_of` meets its contract.
-- Assumes nothing.
use Prim.Native.Nat.{◌*◌, ◌^◌, ◌≤◌}
use native.Mathlib.Omega.{arith}
use mathlib.Core.Path.{subst}
use Rattle.nr.specs.declared.RateMatching.{RateMatching}
use Rattle.admission.specs.Window.{Applies}
use Rattle.admission.proofs.Admission.{repetition, puncturing, shortening}
use Rattle.admission.proofs.window_of.Goals as goal
use Rattle.admission.proofs.window_of.Goals.{In-Puncturing}

-- what the contract asks in the case of puncturing
punctured : (c : In-Puncturing) → (c.args.e ≤ c.args.len) × (3 * c.args.len ≤ 4 * c.args.e)
punctured c =
    let a = c.args in
    subst (λ (k : RateMatching). Applies k a.len a.e) c.in-Puncturing.is c.requires.2

pub overflow_sub-result : goal.overflow_sub-result
overflow_sub-result c = omega (arith, punctured (goal.at.overflow_sub-result c).In-Puncturing)

pub overflow_sub-result-in-Puncturing : goal.overflow_sub-result-in-Puncturing
overflow_sub-result-in-Puncturing c = omega (arith, punctured (goal.at.overflow_sub-result-in-Puncturing c).In-Puncturing)

pub returns-in-Repetition : goal.returns-in-Repetition
returns-in-Repetition c n h e p = rw (c.in-Repetition.is, e) (repetition n h c.args.e p)

pub returns-in-Puncturing : goal.returns-in-Puncturing
returns-in-Puncturing c n h e p =
    let a = c.args in
    let q : (a.e ≤ 2 ^ n) × (3 * 2 ^ n ≤ 4 * a.e) = rw e at (punctured (goal.at.returns-in-Puncturing c).In-Puncturing) in
    rw (c.in-Puncturing.is, e) (puncturing n h a.e q.0 q.1 p)

pub returns-in-Shortening : goal.returns-in-Shortening
returns-in-Shortening c n h e p =
    let a = c.args in
    let q : a.e ≤ a.len = subst (λ (k : RateMatching). Applies k a.len a.e) c.in-Shortening.is c.requires.2 in
    rw (c.in-Shortening.is, e) (shortening n h a.e (rw e at q) p)
