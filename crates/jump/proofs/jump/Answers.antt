-- `jump::jump` meets its contract. The loop's invariant: r has the parities under the masks that the iterator has left behind.
-- Assumes nothing.
use native.Mathlib.Nat.{lt_of_lt_of_le}
use lib.Pow.{pow_mono}
use Rattle.std.proofs.Common.{◌≡◌, ◌<◌, ◌≤◌, ◌^◌, length, ℕ, ◌+◌, ◌*◌, List, [], ◌∷◌, ◌++◌, arith, sym, ap, ◌∙◌, refl, append-nil, append_assoc, length-append}
use Rattle.std.proofs.lemmas.List.{nil_from_length}
use Rattle.jump.specs.Parities.{parity_under, jumped}
use Rattle.jump.proofs.Parities.{jumped-lt}
use Rattle.jump.proofs.jump.Goals as goal
use Rattle.jump.proofs.jump.Goals.{In-Some}

-- the mask of this turn stands before those left behind
split : (c : In-Some) → c.next.new.self.iter.rest.now ++ (c.in-Some.mask.now ∷ c.loop-mask.invariant.0) ≡ c.args.masks.now
split c =
    sym (append_assoc c.next.new.self.iter.rest.now (c.in-Some.mask.now ∷ []) c.loop-mask.invariant.0)
    ∙ ap (λ (r : List ℕ). r ++ c.loop-mask.invariant.0) (sym c.in-Some.ensures.steps) ∙ c.loop-mask.invariant.1

room : (c : In-Some) → c.loop-mask.r < 2 ^ 30
room c =
    let i = c.loop-mask.invariant in
    let few : length i.0 ≤ 30 = omega (arith, simp length-append at (ap length (split c)), c.told-masks) in
    rw i.2 (lt_of_lt_of_le (jumped-lt i.0 c.args.s) (pow_mono few))

pub loop-mask-init : goal.loop-mask-init
unfolding jumped
loop-mask-init c =
    ([], append-nil c.into_iter-mask-iterator.result.iter.rest.now ∙ (let e = c.iter.ensures.rest in let f = c.rev-mask-items.ensures.source in cc), refl)

pub overflow_mul-r : goal.overflow_mul-r
overflow_mul-r c = omega (arith, room c)

pub overflow_add-r : goal.overflow_add-r
overflow_add-r c = omega (arith, room (goal.at.overflow_add-r c).In-Some)

pub loop-mask-preserved : goal.loop-mask-preserved
unfolding jumped
loop-mask-preserved c =
    let i = c.loop-mask.invariant in
    (c.in-Some.mask.now ∷ i.0, split (goal.at.loop-mask-preserved c).In-Some, ap (λ (r : ℕ). r * 2 + parity_under c.in-Some.mask.now c.args.s) i.2)

pub returns : goal.returns
returns c =
    let i = c.loop-mask.invariant in
    i.2 ∙ ap (λ (masks : List ℕ). jumped masks c.args.s)
    (ap (λ (rest : List ℕ). rest ++ i.0) (sym (nil_from_length c.loop-mask.mask-iterator.iter.rest.now c.in-None.ensures.steps.0)) ∙ i.1)
