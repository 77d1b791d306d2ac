-- `noise::count` meets its contract.
-- Assumes nothing.
use Prim.Native.Nat.{ℕ, ◌^◌, ◌≤◌, ◌<◌}
use native.Mathlib.Omega.{arith}
use mathlib.Core.Path.{◌≡◌, sym, subst⁻¹, ap, ◌∙◌}
use mathlib.Core.List.{List}
use lib.ListN.{length}
use lib.Pow.{pow_pos}
use lib.Seq.{length-take-le}
use Rattle.std.proofs.Common.{subst₂}
use Rattle.nr.specs.declared.RateMatching.{RateMatching}
use Rattle.nr.specs.Rows.{xors, Bits}
use Rattle.nr.specs.RateMatching.{select, Fits}
use Rattle.nr.specs.Noise.{noise_count}
use Rattle.nr.proofs.Matching.{bits-select}
use Rattle.rate_matching.proofs.Moving.{code-le}
use Rattle.rate_matching.proofs.Sending.{ordered-length, selects}
use Rattle.noise.proofs.count.Goals as goal
use Rattle.noise.proofs.count.Goals.{After-bits, After-bit_selection}

room : (c : After-bits) → c.bits.result ≤ 512
room c = omega (arith, c.bits.ensures, code-le c.args.code.n c.args.code.within.1)

-- the sent bits
sent-is : (c : After-bit_selection) → let a = c.args in c.bit_selection.new.out ≡ select a.kind (2 ^ a.code.n) (length a.soft.now) a.word.now
sent-is c =
    let a = c.args in
    c.bit_selection.ensures ∙ selects (2 ^ a.code.n) a.word.now c.interleave.ensures a.kind _
    ∙ ap (λ (e : ℕ). select a.kind (2 ^ a.code.n) e a.word.now) (length-take-le (length a.soft.now) _ c.requires.le_n.1)

-- y's length and the part's, as numbers
asks : (kind : RateMatching) {N E n e : ℕ} → n ≡ N → e ≡ E → 0 < N → Fits kind N E → (0 < n) × Fits kind n e
asks kind size part h fits = (omega arith, subst₂ (Fits kind) (sym size) (sym part) fits)

-- ---- the answers

pub returns : goal.returns
returns c =
    let a = c.args in
    c.count_wrong.ensures
    ∙ ap (λ (r : List ℕ). noise_count a.soft.now (xors r a.sequence.now)) (sent-is (goal.at.returns c).After-bit_selection)

pub bit_selection-requires : goal.bit_selection-requires
bit_selection-requires c =
    let a = c.args in
    asks a.kind (ordered-length (2 ^ a.code.n) a.word.now c.interleave.ensures) (length-take-le (length a.soft.now) _ c.requires.le_n.1)
    (pow_pos a.code.n) c.requires.le_n.0

pub slice_bounds-room-end : goal.slice_bounds-room-end
slice_bounds-room-end c = room (goal.at.slice_bounds-room-end c).After-bits

pub slice_bounds-y-end : goal.slice_bounds-y-end
slice_bounds-y-end c = sym (length-take-le c.bits.result _ (room (goal.at.slice_bounds-y-end c).After-bits))

pub interleave-requires : goal.interleave-requires
interleave-requires c = (
  c.requires.word_len.0,
  length-take-le c.bits.result _ (room (goal.at.interleave-requires c).After-bits) ∙ c.bits.ensures,
)

pub count_wrong-requires-clause-bits : goal.count_wrong-requires-clause-bits
count_wrong-requires-clause-bits c =
    let a = c.args in (
      subst⁻¹ Bits (sent-is (goal.at.count_wrong-requires-clause-bits c).After-bit_selection)
          (bits-select a.kind (2 ^ a.code.n) (length a.soft.now) a.word.now c.requires.word_len.2),
      c.requires.word_len.3,
    )
