-- The noise count of an accepted row, from the code word that was decided.
-- Assumes nothing.
use Prim.Native.Nat.{ℕ, ◌^◌, ◌≤◌}
use native.Mathlib.Omega.{arith}
use mathlib.Core.Path.{◌≡◌, refl, sym, ap, ap₂, ◌∙◌}
use mathlib.Core.Bool.{Bool, true, false, cond}
use mathlib.Core.List.{List}
use lib.IntN.{ℤ}
use lib.ListN.{length, take}
use Rattle.nr.specs.declared.Numbers.{Numbers}
use Rattle.nr.specs.declared.RateMatching.{RateMatching}
use Rattle.nr.specs.declared.code.Code.{Code}
use Rattle.nr.specs.Rows.{xors, Bits}
use Rattle.nr.specs.Numbers.{K}
use Rattle.nr.specs.Parity.{parity_matches}
use Rattle.nr.specs.Construction.{Layout, layout}
use Rattle.nr.specs.RateMatching.{select}
use Rattle.nr.specs.Scrambling.{gold, c_init}
use Rattle.nr.specs.Noise.{noise_count}
use Rattle.nr.specs.Answer.{refusal, on_done}
use Rattle.nr.specs.Decoding.{decided, received, or_parity, noise_of}
use Rattle.nr.specs.Layouts.{layout_of}
use Rattle.nr.proofs.Tests.{holds}
use Rattle.nr.proofs.Transform.{bits-transform}
use Rattle.nr.proofs.SuccessiveDecoder.{bits-successive}
use Rattle.nr.proofs.Construction.{accepted, positions}
use Rattle.nr.proofs.Recoding.{coded-again}
use Rattle.construction.specs.Shapes.{Lays}
use Rattle.dci.specs.Judged.{decided_word}
use Rattle.dci.proofs.Judging.{Handed, as_asked}

-- the code word of any row
pub bits-word : (l : Layout) (e : ℕ) (q : List ℕ) (soft : List ℤ) → Bits (decided_word l e q soft)
unfolding decided
bits-word l e q soft = bits-transform l.n (decided l e q soft) (bits-successive _ _ _)

module _ (s : Numbers) (soft : List ℤ) (ok : refusal s.a s.e ≡ 0) where
  abbrev l : Layout
  l = layout (K s.a) s.e

  abbrev b : List ℕ
  b = received l s.e s.rnti (c_init s) soft

  few : length l.positions ≤ 164
  few = let z = accepted s.a s.e ok in omega (arith, (positions (K s.a) s.e z).size, z.high)

  -- what the decided word sends, against the soft values
  abbrev tally : Layout → ℕ → List ℕ → ℕ
  tally l e q = noise_count soft (xors (select l.kind (2 ^ l.n) e (decided_word l e q soft)) q)

  -- where the parity matches, the decided word is that of the payload coded again
  again : parity_matches s.a b ≡ true → tally l s.e (gold (c_init s) s.e) ≡ noise_of l s soft (take s.a b)
  unfolding noise_of
  again m = ap (noise_count soft) (sym (coded-again l s.e s.rnti (c_init s) soft few s.a (holds m)))

  -- so a count that is made where it matches, and else is 0, is that of decoding
  module _ (size : length soft ≡ s.e) (made : Code) (lays : Lays l made) where
    abbrev sent : RateMatching → ℕ → ℕ → List ℕ
    sent kind n E = xors (select kind (2 ^ n) E (decided_word l s.e (gold (c_init s) s.e) soft)) (gold (c_init s) s.e)

    sent_is : sent made.kind made.length.n (length soft) ≡ sent l.kind l.n s.e
    sent_is =
        ap₂ (λ (kind : RateMatching) (n : ℕ). sent kind n (length soft)) lays.kind lays.n
        ∙ ap (sent l.kind l.n) size

    pub tallied : (t : Bool) → parity_matches s.a b ≡ t → (noise : ℕ)
        → noise ≡ on_done (cond t 0 7) (noise_count soft (sent made.kind made.length.n (length soft)))
        → noise ≡ on_done (or_parity 0 s.a b) (noise_of l s soft (take s.a b))
    unfolding or_parity on_done
    tallied true m noise e =
        e ∙ ap (noise_count soft) sent_is ∙ again m
        ∙ sym (ap (λ (t : Bool). on_done (cond t 0 7) (noise_of l s soft (take s.a b))) m)
    tallied false m noise e = e ∙ sym (ap (λ (t : Bool). on_done (cond t 0 7) (noise_of l s soft (take s.a b))) m)

-- the same of the code and the sequence that are handed in
pub counted-again : {s : Numbers} {made : Code} {sequence : List ℕ} {soft : List ℤ} {out : List ℕ} (h : Handed s made sequence soft out)
    → let l : Layout = layout (K s.a) s.e in
    let b : List ℕ = received l s.e s.rnti (c_init s) soft in
    parity_matches s.a b ≡ true
    → noise_count soft (xors (select made.kind (2 ^ made.length.n) (length soft) (decided_word (layout_of made) (length soft) sequence soft)) sequence)
    ≡ noise_of l s soft (take s.a b)
unfolding or_parity on_done
counted-again {s = s} {made = made} {soft = soft} h m =
    let l : Layout = layout (K s.a) s.e in
    let payload : List ℕ = take s.a (received l s.e s.rnti (c_init s) soft) in
    ap₂ (λ (w q : List ℕ). noise_count soft (xors (select made.kind (2 ^ made.length.n) (length soft) w) q))
    (as_asked h (λ (l : Layout) (e : ℕ) (q : List ℕ). decided_word l e q soft)) h.terms
    ∙ tallied s soft h.ok h.received made h.lays true m _ refl
    ∙ ap (λ (t : Bool). on_done (cond t 0 7) (noise_of l s soft payload)) m
