-- Promise 3, whole, over `coding` and `decoding`; and that its hypotheses can be met.
-- Assumes nothing.
use Prim.Native.Nat.{ℕ, zero, suc, ◌+◌, ◌≤◌, ◌<◌}
use native.Mathlib.Nat.{suc-ne-zero, not-suc-le-zero, le_of_suc-le-suc, lt_of_not-le}
use native.Mathlib.Decide.{dec_le}
use native.Mathlib.Omega.{arith}
use mathlib.Core.Path.{◌≡◌, refl, sym, subst, ap, ap₂, ◌∙◌}
use mathlib.Core.Logic.{◌≢◌}
use mathlib.Core.Bool.{Bool, true, false, cond}
use mathlib.Core.List.{List, map}
use lib.Dec.{leb, ltb→lt}
use lib.IntN.{ℤ, pos, negsuc, nat_abs}
use lib.Signed.{◌<ℤ◌, lt_z_yes, <ℤ_irrefl}
use lib.ListN.{length, get_or, take, length-map, replicate, length-replicate, get_or-eq_default}
use borrow.Author.Tests.{le-ltb, leb-true, leb-false}
use Rattle.nr.specs.declared.Numbers.{Numbers}
use Rattle.nr.specs.declared.RateMatching.TheVariants.{Repetition, Puncturing, Shortening}
use Rattle.nr.specs.Rows.{count, first, Bits}
use Rattle.nr.specs.Numbers.{K}
use Rattle.nr.specs.Answer.{refusal_of, Outcome, outcome, Reading, reading, on_done}
use Rattle.nr.specs.Parity.{attach, parity_matches}
use Rattle.nr.specs.Construction.{n, N, low_rate, rate_matching, front, unsent, barred, Layout, layout}
use Rattle.nr.specs.Scrambling.{c_init}
use Rattle.nr.specs.Coding.{coded, bad_byte, coding_for, coding}
use Rattle.nr.specs.Decoding.{received, or_parity, bad_soft, noise_of, decoding_for, decoding}
use Rattle.nr.specs.Promise3.{Accepted, Payload, Noiseless, Promise3, HypothesesMet}
use Rattle.nr.specs.RateMatching.{Fits}
use Rattle.nr.proofs.Tests.{is}
use Rattle.nr.proofs.Rows.{get_d_map, not-has-left}
use Rattle.nr.proofs.Zip.{bits-replicate}
use Rattle.nr.proofs.Parity.{accepts, attach-front}
use Rattle.nr.proofs.SuccessiveDecoder.{Sign}
use Rattle.nr.proofs.Construction.{Sized, accepted, positions}
use Rattle.nr.proofs.Refusals.{first-none, passes-exactly}
use Rattle.nr.proofs.RoundTrip.{length-coded, bits-coded, Sound, round_trip}
use Rattle.nr.proofs.Noise.{sign-right, noise-none}

-- ---- document 01's layout is sound

fits : (K E : ℕ) → Fits (rate_matching K E) (N K E) E
unfolding rate_matching
fits K E = go (leb (N K E) E) refl (low_rate K E)
  where
    go : (a : Bool) → leb (N K E) E ≡ a → (b : Bool) → Fits (cond a Repetition (cond b Puncturing Shortening)) (N K E) E
    go true e b = leb-true (N K E) E e
    go false e true = leb-false (N K E) E e
    go false e false = leb-false (N K E) E e

large : (K E : ℕ) → 5 ≤ n K E
unfolding n
large K E = omega arith

pub sound : (K E : ℕ) → Sized K E → Sound (layout K E) E
unfolding layout barred
sound K E c =
    let p = positions K E c in
    record {
      large = large K E;
      fits = fits K E;
      few = omega (arith, p.size, c.high);
      rising = p.rising;
      below = p.below;
      sent = λ q h. not-has-left q (unsent (rate_matching K E) (N K E) E) (count 0 (front (rate_matching K E) (N K E) E)) (p.unbarred q h);
    }

-- ---- coding

module _ (s : Numbers) (payload : List ℕ) (a : Accepted s) (p : Payload s payload) where
  abbrev l : Layout
  l = layout (K s.a) s.e

  abbrev sent : List ℕ
  sent = coded l s.e s.rnti (c_init s) payload

  bits : Bits payload
  bits k = elim (dec_le s.a k) [
    | yes h ↦ rw (get_or-eq_default payload 0 {n = k} (omega (arith, p.size))) (omega arith)
    | no h ↦ p.bits k (lt_of_not-le h)
  ]

  pub coding-is : (out : List ℕ) → length out ≡ s.e → coding s payload out ≡ record { number = 0; place = 0; buffer = sent }
  unfolding coding coding_for outcome bad_byte
  coding-is out e =
      ap (λ (i : ℕ). outcome i (first bad_byte payload) sent out)
      ((passes-exactly s.a s.e bad_byte payload s.a out s.e).1 (record {
        pair = a;
        input-length = p.size;
        output-length = e;
        entries = first-none bad_byte payload 0 (λ k h. le-ltb 1 (get_or payload k 0) (bits k));
      }))

  -- ---- decoding

  module _ (soft : List ℤ) (out' : List ℕ) (clean : Noiseless s sent soft) (e : length out' ≡ s.a) where
    signs : (j : ℕ) → j < s.e → Sign (get_or soft j (pos 0)) (get_or sent j 0)
    signs j h = sign (get_or soft j (pos 0)) (get_or sent j 0) (bits-coded l s.e s.rnti (c_init s) payload j) (clean.positive j h) (clean.negative j h)
      where
        sign : (x : ℤ) (d : ℕ) → d ≤ 1 → (d ≡ 0 → pos 0 <ℤ x) → (d ≡ 1 → x <ℤ pos 0) → Sign x d
        sign (pos zero) zero h p m = absurd (<ℤ_irrefl (p refl))
        sign (pos (suc x)) zero h p m = Sign.plus
        sign (negsuc x) zero h p m = absurd (p refl).lt
        sign (pos x) (suc zero) h p m = absurd (not-suc-le-zero (ltb→lt x 0 (m refl).lt))
        sign (negsuc x) (suc zero) h p m = Sign.minus
        sign x (suc (suc d)) h p m = absurd (not-suc-le-zero (le_of_suc-le-suc h))

    received_is : received l s.e s.rnti (c_init s) soft ≡ attach payload
    unfolding layout
    received_is =
        round_trip l s.e s.rnti (c_init s) (sound (K s.a) s.e c) payload bits
        (ap (λ (k : ℕ). k + 24) p.size ∙ sym (positions (K s.a) s.e c).size) soft clean.size signs
      where
        c : Sized (K s.a) s.e
        c = accepted s.a s.e a

    none-wrong : noise_of l s soft payload ≡ 0
    unfolding noise_of
    none-wrong = (noise-none soft sent).1 (λ k h. sign-right (signs k (subst (λ (m : ℕ). k < m) clean.size h)))

    decoding-is : decoding s soft out' ≡ record { number = 0; place = 0; buffer = payload; noise = 0 }
    unfolding decoding decoding_for outcome on_done or_parity bad_soft
    decoding-is =
        let A : ℕ = s.a in
        let at : ℕ → List ℕ → Reading = λ i r. reading (outcome i (first bad_soft soft) r out') (on_done i (noise_of l s soft r)) in
        ap₂ (λ (i : ℕ) (b : List ℕ). at (or_parity i A b) (take A b)) unbad received_is
        ∙ ap (λ (t : Bool). at (cond t 0 7) (take A (attach payload))) (is (parity_matches A (attach payload)) (accepts A payload p.size))
        ∙ ap (at 0) (attach-front A payload p.size)
        ∙ ap (λ (c : ℕ). record { number = 0; place = 0; buffer = payload; noise = c }) none-wrong
      where
        unbad : refusal_of s.a s.e bad_soft soft s.e out' s.a ≡ 0
        unbad =
            (passes-exactly s.a s.e bad_soft soft s.e out' s.a).1 (record {
              pair = a;
              input-length = clean.size;
              output-length = e;
              entries = first-none bad_soft soft (pos 0) (λ k h. le-ltb 127 (nat_abs (get_or soft k (pos 0))) (clean.range k (subst (λ (m : ℕ). k < m) clean.size h)));
            })

pub promise3 : Promise3
promise3 = record {
  codes = λ s payload out a p e. ap (λ (o : Outcome). o.number) (coding-is s payload a p out e);
  decodes = λ s payload out a p e soft out' clean e'.
      decoding-is s payload a p soft out'
      (subst (λ (o : Outcome). Noiseless s o.buffer soft) (coding-is s payload a p out e) clean) e';
}

-- ---- the hypotheses can be met

-- the strongest noiseless value of a sent bit
strongest : ℕ → ℤ
strongest zero = pos 127
strongest (suc b) = negsuc 126

strongest-row : (s : Numbers) (sent : List ℕ) → length sent ≡ s.e → Noiseless s sent (map strongest sent)
unfolding strongest
strongest-row s sent e = record {
  size = length-map sent strongest ∙ e;
  range = λ k h. rw (value k h) (range (get_or sent k 0));
  nonzero = λ k h. rw (value k h) (nonzero (get_or sent k 0));
  positive = λ k h z. rw (value k h, z) (lt_z_yes tt);
  negative = λ k h z. rw (value k h, z) (lt_z_yes tt);
}
  where
    value : (k : ℕ) → k < s.e → get_or (map strongest sent) k (pos 0) ≡ strongest (get_or sent k 0)
    value k h = get_d_map strongest sent k 0 (pos 0) (omega arith)

    nonzero : (b : ℕ) → strongest b ≢ pos 0
    nonzero zero e = let z : ◌≡◌ {A = ℕ} 127 0 = ap nat_abs e in suc-ne-zero 126 z
    nonzero (suc b) e = let z : ◌≡◌ {A = ℕ} 127 0 = ap nat_abs e in suc-ne-zero 126 z

    range : (b : ℕ) → nat_abs (strongest b) ≤ 127
    range zero = omega arith
    range (suc b) = omega arith

pub hypotheses-met : HypothesesMet
hypotheses-met = record {
  payload = λ s a. (
    replicate s.a 0,
    record {
      size = length-replicate s.a 0;
      bits = λ k h. bits-replicate s.a 0 (omega arith) k;
    },
  );
  row = λ s payload out a p e.
      let sent : List ℕ = (coding s payload out).buffer in
      (map strongest sent, strongest-row s sent (ap (λ (o : Outcome). length o.buffer) (coding-is s payload a p out e) ∙ length-coded (layout (K s.a) s.e) s.e s.rnti (c_init s) payload));
}
