-- The row of payload and parity that was received, judged by its parity.
-- Assumes nothing.
use Prim.Native.Nat.{ℕ, ◌+◌, ◌-◌, ◌≤◌, ◌^◌}
use native.Mathlib.Omega.{arith}
use mathlib.Core.Path.{◌≡◌, refl, sym, subst, ap, ap₂, ◌∙◌}
use mathlib.Core.Bool.{Bool, true, false, cond}
use mathlib.Core.List.{List, ◌++◌}
use lib.IntN.{ℤ}
use lib.ListN.{length, take}
use lib.Seq.{length-take-le, take-take}
use Rattle.std.specs.Prelude.{Ok, Err}
use Rattle.nr.specs.declared.Numbers.{Numbers}
use Rattle.nr.specs.declared.code.Code.{Code}
use Rattle.nr.specs.declared.Refusal.TheVariants.{ParityMismatch}
use Rattle.nr.specs.Rows.{entries, Bits}
use Rattle.nr.specs.Numbers.{K}
use Rattle.nr.specs.Answer.{number, place_of, refusal, outcome, given, reading, on_done}
use Rattle.nr.specs.Parity.{mask_rnti, parity_matches}
use Rattle.nr.specs.Construction.{Layout, layout}
use Rattle.nr.specs.RateMatching.{Fits}
use Rattle.nr.specs.Scrambling.{gold, c_init}
use Rattle.nr.specs.Decoding.{decided, masked_row, received, or_parity, noise_of}
use Rattle.nr.specs.Layouts.{layout_of}
use Rattle.nr.proofs.Rows.{length-entries}
use Rattle.nr.proofs.Zip.{bits-entries}
use Rattle.nr.proofs.Parity.{mask_rnti-front}
use Rattle.nr.proofs.Scrambling.{length-gold}
use Rattle.nr.proofs.Interleaver.{length-deinterleave, bits-deinterleave}
use Rattle.nr.proofs.SuccessiveDecoder.{bits-successive}
use Rattle.nr.proofs.Construction.{accepted, positions}
use Rattle.nr.proofs.Refusals.{longest}
use Rattle.rows.proofs.Parts.{front-back, front-room}
use Rattle.construction.specs.Shapes.{Lays}
use Rattle.dci.specs.Judged.{counted, told, judged}
use Rattle.dci.proofs.Made.{code_is, row_is, fits}

-- what `accept` is handed
pub record Handed (s : Numbers) (made : Code) (sequence : List ℕ) (soft : List ℤ) (out : List ℕ) : Type 0 where
  pub ok : refusal s.a s.e ≡ 0
  pub received : length soft ≡ s.e
  pub room : length out ≡ s.a
  pub lays : Lays (layout (K s.a) s.e) made
  pub terms : sequence ≡ gold (c_init s) s.e

module _ {s : Numbers} {made : Code} {sequence : List ℕ} {soft : List ℤ} {out : List ℕ} (h : Handed s made sequence soft out) where
  abbrev l : Layout
  l = layout (K s.a) s.e

  -- what is made of the code, the length and the sequence that were handed in is made of those for the numbers
  pub as_asked : {X : Type 0} (f : Layout → ℕ → List ℕ → X) → f (layout_of made) (length soft) sequence ≡ f l s.e (gold (c_init s) s.e)
  as_asked f = ap₂ (λ (l : Layout) (e : ℕ). f l e sequence) (code_is s h.ok made h.lays) h.received ∙ ap (f l s.e) h.terms

  k-size : made.k ≡ length out + 24
  k-size = omega (arith, row_is s h.ok made h.lays, h.room)

  pub soft-fits : Fits made.kind (2 ^ made.length.n) (length soft)
  soft-fits = subst (λ (e : ℕ). Fits made.kind (2 ^ made.length.n) e) (sym h.received) (fits s h.ok made h.lays)

  pub soft-few : length soft ≤ 1728
  soft-few = omega (arith, h.received, longest s.e (accepted s.a s.e h.ok).length)

  pub terms-size : length sequence ≡ length soft
  terms-size = ap length h.terms ∙ length-gold (c_init s) s.e ∙ sym h.received

  -- the decided bits, the row that they give and that without its RNTI
  abbrev u : List ℕ
  u = decided l s.e (gold (c_init s) s.e) soft

  abbrev c : List ℕ
  c = masked_row l s.e (gold (c_init s) s.e) soft

  abbrev b : List ℕ
  b = received l s.e s.rnti (c_init s) soft

  b-is : b ≡ mask_rnti s.rnti c
  unfolding received
  b-is = refl

  length-c : length c ≡ K s.a
  length-c =
      length-deinterleave (entries l.positions u) ∙ length-entries l.positions u
      ∙ (positions (K s.a) s.e (accepted s.a s.e h.ok)).size

  bits-c : Bits c
  unfolding decided
  bits-c = bits-deinterleave (entries l.positions u) (bits-entries l.positions u (bits-successive _ _ _))

  -- ---- by the parity, 7 and the old buffer, or the payload and the noise count

  judged-by : (t : Bool) → parity_matches s.a b ≡ t
      → judged s soft out ≡ reading (outcome (cond t 0 7) 0 (take s.a b) out) (on_done (cond t 0 7) (noise_of l s soft (take s.a b)))
  unfolding or_parity
  judged-by t e =
      ap (λ (t : Bool). reading (outcome (cond t 0 7) 0 (take s.a b) out) (on_done (cond t 0 7) (noise_of l s soft (take s.a b)))) e

  mismatched : parity_matches s.a b ≡ false → told (Err ParityMismatch) out ≡ judged s soft out
  unfolding given number place_of outcome counted on_done
  mismatched e = sym (judged-by false e)

  matched : parity_matches s.a b ≡ true → (new : List ℕ) (noise : ℕ) → new ≡ take s.a b → noise ≡ noise_of l s soft (take s.a b)
      → told (Ok noise) new ≡ judged s soft out
  unfolding given number place_of outcome counted on_done
  matched e new noise q z = ap₂ (λ (x : List ℕ) (n : ℕ). told (Ok n) x) q z ∙ sym (judged-by true e)

  -- ---- the row came back in the part of an array that was lent

  module _ (row rest : List ℕ) (is : row ≡ masked_row (layout_of made) (length soft) sequence soft) where
    abbrev whole : List ℕ
    whole = row ++ rest

    abbrev part : List ℕ
    part = take made.k whole

    row-is : row ≡ c
    row-is = is ∙ as_asked (λ l e q. masked_row l e q soft)

    row-size : length row ≡ made.k
    row-size = omega (arith, ap length row-is, length-c, row_is s h.ok made h.lays)

    row-room : made.k ≤ length whole
    row-room = front-room row rest made.k row-size

    part-is : part ≡ c
    part-is = front-back row rest made.k row-size ∙ row-is

    part-size : length part ≡ made.k
    part-size = length-take-le made.k whole row-room

    -- what the parity check asks
    pub matches-asks : (24 ≤ length part) × Bits part
    matches-asks = (omega (arith, part-size, k-size), subst Bits (sym part-is) bits-c)

    -- the payload's part
    pub payload-room : length out ≤ length whole
    payload-room = omega (arith, row-room, k-size)

    pub payload-size : length (take (length out) whole) ≡ length out
    payload-size = length-take-le (length out) whole payload-room

    payload-is : take (length out) whole ≡ take s.a b
    payload-is =
        sym (take-take (length out) made.k whole (omega (arith, k-size))) ∙ ap (take (length out)) part-is
        ∙ ap (λ (m : ℕ). take m c) h.room
        ∙ sym (ap (take s.a) b-is ∙ mask_rnti-front s.rnti s.a c (omega (arith, length-c)) bits-c)

    module _ (t : Bool) (m : t ≡ parity_matches (length part - 24) (mask_rnti s.rnti part)) where
      verdict : parity_matches s.a b ≡ t
      verdict =
          let e : length part - 24 ≡ s.a = omega (arith, part-size, k-size, h.room) in
          sym (m ∙ ap₂ (λ (A : ℕ) (x : List ℕ). parity_matches A (mask_rnti s.rnti x)) e part-is ∙ ap (parity_matches s.a) (sym b-is))

      pub refused : t ≡ false → told (Err ParityMismatch) out ≡ judged s soft out
      refused e = mismatched (verdict ∙ e)

      pub decoded : t ≡ true → (new : List ℕ) (noise : ℕ) → new ≡ take (length out) whole
          → (parity_matches s.a b ≡ true → noise ≡ noise_of l s soft (take s.a b)) → told (Ok noise) new ≡ judged s soft out
      decoded e new noise q z = matched (verdict ∙ e) new noise (q ∙ payload-is) (z (verdict ∙ e))
