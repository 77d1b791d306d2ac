-- `rate_matching::gather` meets its contract.
-- Assumes nothing.
use Prim.Native.Nat.{ℕ, ◌^◌, ◌≤◌, ◌<◌}
use native.Mathlib.Omega.{arith}
use mathlib.Core.Path.{refl, sym, subst⁻¹, ◌∙◌}
use lib.ListN.{length}
use lib.Pow.{pow_pos}
use Rattle.nr.specs.Construction.{P}
use Rattle.nr.specs.Rows.{Within}
use Rattle.nr.specs.RateMatching.{Fits}
use Rattle.rate_matching.proofs.Moving.{code-le, named_places, by-position}
use Rattle.rate_matching.proofs.Undoing.{lent_length, lent-zeros, undone}
use Rattle.rate_matching.proofs.gather.Goals as goal
use Rattle.rate_matching.proofs.gather.Goals.{After-bits}

room : (c : After-bits) → c.bits.result ≤ 512
room c = omega (arith, c.bits.ensures, code-le c.args.code.n c.args.code.within.1)

pub returns : goal.returns
unfolding P
returns c =
    let size = lent_length _ _ (room (goal.at.returns c).After-bits) ∙ c.bits.ensures in
    by-position c.args.code.n c.args.code.within.0 _ _ (c.copy_blocks.auto.to ∙ c.requires.1) c.copy_blocks.ensures
    ∙ undone (2 ^ c.args.code.n) c.args.soft.now c.args.kind size c.undo_bit_selection.ensures

pub slice_bounds-room-end : goal.slice_bounds-room-end
slice_bounds-room-end c = room (goal.at.slice_bounds-room-end c).After-bits

pub slice_bounds-y-end : goal.slice_bounds-y-end
slice_bounds-y-end c = sym (lent_length _ _ (room (goal.at.slice_bounds-y-end c).After-bits))

pub undo_bit_selection-requires-clause-y_nonzero : goal.undo_bit_selection-requires-clause-y_nonzero
undo_bit_selection-requires-clause-y_nonzero c =
    let size = lent_length _ _ (room (goal.at.undo_bit_selection-requires-clause-y_nonzero c).After-bits) ∙ c.bits.ensures in
    subst⁻¹ (λ (m : ℕ). (0 < m) × Fits c.args.kind m (length c.args.soft.now) × (length c.args.soft.now ≤ 1728) × Within 127 c.args.soft.now) size
    (pow_pos c.args.code.n, c.requires.0, c.requires.2, c.requires.3)

pub undo_bit_selection-requires-clause-y_value : goal.undo_bit_selection-requires-clause-y_value
undo_bit_selection-requires-clause-y_value c = lent-zeros _ _ (room (goal.at.undo_bit_selection-requires-clause-y_value c).After-bits) refl

pub copy_blocks-requires-clause-sizes : goal.copy_blocks-requires-clause-sizes
copy_blocks-requires-clause-sizes c = (
  c.undo_bit_selection.auto.y ∙ lent_length _ _ (room (goal.at.copy_blocks-requires-clause-sizes c).After-bits) ∙ c.bits.ensures,
  c.requires.1,
)

pub copy_blocks-requires-clause-named : goal.copy_blocks-requires-clause-named
unfolding P
copy_blocks-requires-clause-named c = named_places
