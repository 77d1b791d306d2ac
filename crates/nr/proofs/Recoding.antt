-- The accepted payload coded again: its code word is the transform of the decided row, so that the decoder's own code bits serve.
-- And the noise count of decoding: against what is coded, 0 with every number but 0, and never above E.
-- Assumes nothing.
use Prim.Native.Nat.{ℕ, zero, suc, ◌-◌, ◌^◌, ◌≤◌}
use native.Mathlib.Nat.{suc-ne-zero}
use native.Mathlib.Omega.{arith}
use mathlib.Core.Path.{◌≡◌, refl, sym, ap, ◌∙◌}
use mathlib.Core.Logic.{◌≢◌}
use mathlib.Core.Bool.{Bool, true, false, cond}
use mathlib.Core.List.{List, ◌++◌}
use lib.Dec.{T, eqb}
use lib.IntN.{ℤ, pos}
use lib.ListN.{length, get_or, take, replicate}
use borrow.Author.Tests.{eqb-true, eqb-false}
use Rattle.nr.specs.declared.Numbers.{Numbers}
use Rattle.nr.specs.Rows.{count, keep, has, entries, msb_first, xor, xors, Bits}
use Rattle.nr.specs.Numbers.{K}
use Rattle.nr.specs.Answer.{refusal_of, Outcome, on_done}
use Rattle.nr.specs.Parity.{mask_rnti, parity_matches}
use Rattle.nr.specs.Interleaver.{interleave}
use Rattle.nr.specs.Construction.{Layout, layout}
use Rattle.nr.specs.Transform.{transform}
use Rattle.nr.specs.RateMatching.{select}
use Rattle.nr.specs.Scrambling.{gold, c_init}
use Rattle.nr.specs.Noise.{noise_count}
use Rattle.nr.specs.Coding.{placed, code_word, coded, coding}
use Rattle.nr.specs.Decoding.{decided, masked_row, received, or_parity, bad_soft, noise_of, decoding_for, decoding}
use Rattle.nr.specs.Promise3.{Payload}
use Rattle.nr.proofs.Tests.{isn't}
use Rattle.nr.proofs.Rows.{length-entries}
use Rattle.nr.proofs.Zip.{length-zip_with-le, bits-entries}
use Rattle.nr.proofs.SuccessiveDecoder.{length-successive, bits-successive, frozen-successive}
use Rattle.nr.proofs.Construction.{accepted}
use Rattle.nr.proofs.Interleaver.{bits-deinterleave, interleave-deinterleave}
use Rattle.nr.proofs.Parity.{length-attach, accepts-only, mask_rnti-twice}
use Rattle.nr.proofs.RoundTrip.{marks-at, placed-again}
use Rattle.nr.proofs.Refusals.{longest}
use Rattle.nr.proofs.Noise.{differs, noise-le, noise-hard}
use Rattle.nr.proofs.Promise1.{outcome-number, outcome-buffer, DecodingRuns, decoding-done, coding-whole, decoding-whole}
use Rattle.nr.proofs.Promise3.{coding-is}

-- ---- for every layout with at most 164 information positions

module _ (l : Layout) (E rnti start : ℕ) (soft : List ℤ) (few : length l.positions ≤ 164) where
  -- the decided bits, the row of payload and parity that they give, and that without the RNTI
  abbrev u : List ℕ
  u = decided l E (gold start E) soft

  abbrev c : List ℕ
  c = masked_row l E (gold start E) soft

  abbrev b : List ℕ
  b = received l E rnti start soft

  length-picked : length (entries l.positions u) ≤ 164
  length-picked = omega (arith, length-entries l.positions u)

  bits-c : Bits c
  unfolding decided
  bits-c = bits-deinterleave (entries l.positions u) (bits-entries l.positions u (bits-successive _ _ _))

  -- the decided row is what its information positions carry, placed again
  placed-decided : placed (2 ^ l.n) l.positions (entries l.positions u) ≡ u
  unfolding decided
  placed-decided =
      placed-again (2 ^ l.n) l.positions u (length-successive _ _ _)
      (λ p h t.
      frozen-successive _ _ _ p h
      (marks-at (2 ^ l.n) l.positions p h ∙ ap (λ (m : Bool). cond m 1 0) (isn't (has p l.positions) t)))

  module _ (A : ℕ) (t : T (parity_matches A b)) where
    -- what has a parity has 24 bits at least
    long : 16 ≤ length c
    unfolding received mask_rnti xors
    long = omega (arith, ap length (accepts-only A b t) ∙ length-attach (take A b), length-zip_with-le xor c (replicate (length c - 16) 0 ++ msb_first 16 rnti))

    pub code_word-again : code_word l rnti (take A b) ≡ transform l.n u
    unfolding received code_word
    code_word-again =
        let word : List ℕ → List ℕ = λ r. transform l.n (placed (2 ^ l.n) l.positions r) in
        ap (λ (r : List ℕ). word (interleave (mask_rnti rnti r))) (sym (accepts-only A b t))
        ∙ ap (λ (r : List ℕ). word (interleave r)) (mask_rnti-twice rnti c long bits-c)
        ∙ ap word (interleave-deinterleave (entries l.positions u) length-picked)
        ∙ ap (transform l.n) placed-decided

    -- so the bits that are sent for it are those of the decoder's code bits
    pub coded-again : coded l E rnti start (take A b) ≡ xors (select l.kind (2 ^ l.n) E (transform l.n u)) (gold start E)
    unfolding coded
    coded-again = ap (λ (d : List ℕ). xors (select l.kind (2 ^ l.n) E d) (gold start E)) code_word-again

-- ---- the noise count of decoding

pub on-done : (i count : ℕ) → i ≡ 0 → on_done i count ≡ count
unfolding on_done
on-done zero count e = refl
on-done (suc i) count e = absurd (suc-ne-zero i e)

pub on-other : (i count : ℕ) → i ≢ 0 → on_done i count ≡ 0
unfolding on_done
on-other zero count n = absurd (n refl)
on-other (suc i) count n = refl

module _ (s : Numbers) (soft : List ℤ) (out : List ℕ) where
  abbrev i : ℕ
  i =
      or_parity (refusal_of s.a s.e bad_soft soft s.e out s.a) s.a
      (received (layout (K s.a) s.e) s.e s.rnti (c_init s) soft)

  -- with every number but 0
  pub decoding-quiet : (decoding s soft out).number ≢ 0 → (decoding s soft out).noise ≡ 0
  unfolding decoding decoding_for
  decoding-quiet n = on-other i _ (λ z. n (outcome-number i _ _ out ∙ z))

  module _ (e : (decoding s soft out).number ≡ 0) where
    -- with 0: against the payload that is then in the buffer
    pub decoding-noise : (decoding s soft out).noise ≡ noise_of (layout (K s.a) s.e) s soft (decoding s soft out).buffer
    unfolding decoding decoding_for
    decoding-noise =
        let z : i ≡ 0 = sym (outcome-number i _ _ out) ∙ e in
        on-done i _ z ∙ ap (noise_of (layout (K s.a) s.e) s soft) (sym (outcome-buffer i _ _ out z))

    runs : DecodingRuns s soft out
    runs = ((decoding-done s soft out).0 e).0

    payload : Payload s (decoding s soft out).buffer
    payload =
        let w = decoding-whole s soft out in
        record { size = w.length-is e; bits = λ k h. w.bits e k }

    -- which is what coding makes of it under the same numbers
    pub decoding-noise-coding : (again : List ℕ) → length again ≡ s.e
        → (decoding s soft out).noise ≡ noise_count soft (coding s (decoding s soft out).buffer again).buffer
    unfolding noise_of
    decoding-noise-coding again h =
        decoding-noise
        ∙ ap (λ (o : Outcome). noise_count soft o.buffer) (sym (coding-is s (decoding s soft out).buffer runs.numbers payload again h))

    -- so it is the count of those of the E hard decisions that differ from the coded message, values of 0 left out
    pub decoding-noise-hard : (again : List ℕ) → length again ≡ s.e
        → (decoding s soft out).noise
        ≡ length (keep (λ k. differs (get_or (coding s (decoding s soft out).buffer again).buffer k 0) (get_or soft k (pos 0))) (count 0 s.e))
    decoding-noise-hard again h =
        let sent : List ℕ = (coding s (decoding s soft out).buffer again).buffer in
        let zero : (coding s (decoding s soft out).buffer again).number ≡ 0 =
        ap (λ (o : Outcome). o.number) (coding-is s (decoding s soft out).buffer runs.numbers payload again h) in
        decoding-noise-coding again h ∙ noise-hard soft sent ((coding-whole s (decoding s soft out).buffer again).bits zero)
        ∙ ap (λ (E : ℕ). length (keep (λ k. differs (get_or sent k 0) (get_or soft k (pos 0))) (count 0 E))) runs.size

    noise-long : (decoding s soft out).noise ≤ s.e
    unfolding noise_of
    noise-long = omega (arith, decoding-noise, noise-le soft (coded (layout (K s.a) s.e) s.e s.rnti (c_init s) (decoding s soft out).buffer), runs.size)

  -- never above E, whatever was handed in
  pub decoding-noise-le : (decoding s soft out).noise ≤ s.e
  decoding-noise-le = go (eqb (decoding s soft out).number 0) refl
    where
      go : (t : Bool) → eqb (decoding s soft out).number 0 ≡ t → (decoding s soft out).noise ≤ s.e
      go true q = noise-long (eqb-true (decoding s soft out).number 0 q)
      go false q = omega (arith, decoding-quiet (eqb-false (decoding s soft out).number 0 q))

  pub decoding-noise-small : (decoding s soft out).noise ≤ 1728
  decoding-noise-small = go (eqb (decoding s soft out).number 0) refl
    where
      go : (t : Bool) → eqb (decoding s soft out).number 0 ≡ t → (decoding s soft out).noise ≤ 1728
      go true q =
          let e : (decoding s soft out).number ≡ 0 = eqb-true (decoding s soft out).number 0 q in
          omega (arith, noise-long e, longest s.e (accepted s.a s.e (runs e).numbers).length)
      go false q = omega (arith, decoding-quiet (eqb-false (decoding s soft out).number 0 q))
