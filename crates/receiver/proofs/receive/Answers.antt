-- `receiver::receive` meets its contract.
-- Assumes nothing.
use Rattle.std.proofs.Common.{rules}
use Prim.Native.Nat.{ℕ}
use mathlib.Core.Path.{◌≡◌, sym, subst⁻¹, ap, ◌∙◌}
use lib.ListN.{length, take}
use Rattle.nr.specs.Codes.{Positions}
use Rattle.nr.proofs.Lengths.{at_most_512, length-front, length-new, front-room}
use Rattle.rows.proofs.Parts.{front-size}
use Rattle.receiver.proofs.receive.Goals as goal

pub slice_bounds-est-end : goal.slice_bounds-est-end
slice_bounds-est-end c = at_most_512 c.requires.lengths.2 c.args.code.now.length.within.1

pub slice_bounds-decide-end : goal.slice_bounds-decide-end
slice_bounds-decide-end c = sym (length-front c.requires.lengths.2 c.args.code.now.length.within.1 0)

pub decide-requires-clause-lengths : goal.decide-requires-clause-lengths
decide-requires-clause-lengths c =
    let r = c.requires.lengths in
    (r.0, length-front r.2 c.args.code.now.length.within.1 0 ∙ r.2, r.2)

-- the decided bits came back in the part of the row that was lent
pub slice_bounds-est-end-2 : goal.slice_bounds-est-end-2
slice_bounds-est-end-2 c = front-room c.requires.lengths.2 c.args.code.now.length.within.1 0 c.decide.new.est _ c.decide.auto.est

pub slice_bounds-pick-end : goal.slice_bounds-pick-end
slice_bounds-pick-end c = sym (length-new c.requires.lengths.2 c.args.code.now.length.within.1 0 c.decide.new.est _ c.decide.auto.est)

pub pick-requires : goal.pick-requires
pick-requires c =
    let code = c.args.code.now in
    let few : length (take code.k code.positions) ≡ code.k = search rules in
    let size = length-new c.requires.lengths.2 code.length.within.1 0 c.decide.new.est _ c.decide.auto.est ∙ c.requires.lengths.2 in (
      subst⁻¹ (λ (m : ℕ). Positions m c.information.result.now) size (rw c.information.ensures code.placed),
      front-size code.k 164 0 code.few ∙ sym (ap length c.information.ensures ∙ few),
    )
