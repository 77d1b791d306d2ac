-- `rate_matching::select` meets its contract.
-- Assumes nothing.
use Prim.Native.Nat.{ℕ, ◌^◌, ◌≤◌, ◌<◌}
use native.Mathlib.Omega.{arith}
use mathlib.Core.Path.{sym, subst⁻¹, ◌∙◌}
use lib.ListN.{length}
use lib.Pow.{pow_pos}
use lib.Seq.{length-take-le}
use Rattle.nr.specs.RateMatching.{Fits}
use Rattle.rate_matching.proofs.Moving.{code-le}
use Rattle.rate_matching.proofs.Sending.{ordered-length, selects}
use Rattle.rate_matching.proofs.select.Goals as goal
use Rattle.rate_matching.proofs.select.Goals.{After-bits}

room : (c : After-bits) → c.bits.result ≤ 512
room c = omega (arith, c.bits.ensures, code-le c.args.code.n c.args.code.within.1)

pub slice_bounds-room-end : goal.slice_bounds-room-end
slice_bounds-room-end c = room (goal.at.slice_bounds-room-end c).After-bits

pub slice_bounds-y-end : goal.slice_bounds-y-end
slice_bounds-y-end c = sym (length-take-le c.bits.result _ (room (goal.at.slice_bounds-y-end c).After-bits))

pub sub_blocks-requires : goal.sub_blocks-requires
sub_blocks-requires c = (
  c.requires.0,
  length-take-le c.bits.result _ (room (goal.at.sub_blocks-requires c).After-bits) ∙ c.bits.ensures,
)

pub bit_selection-requires : goal.bit_selection-requires
bit_selection-requires c =
    subst⁻¹ (λ (m : ℕ). (0 < m) × Fits c.args.kind m (length c.args.out.now)) (ordered-length (2 ^ c.args.code.n) c.args.d.now c.sub_blocks.ensures)
    (pow_pos c.args.code.n, c.requires.1)

pub returns : goal.returns
returns c = c.bit_selection.ensures ∙ selects (2 ^ c.args.code.n) c.args.d.now c.sub_blocks.ensures c.args.kind (length c.args.out.now)
