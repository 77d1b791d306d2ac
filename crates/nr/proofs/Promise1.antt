-- Promise 1 over the definitions. On every number but 0 the output buffer holds what it held, and only 6 carries a place, that of
-- the first bad entry; on 0 the buffer holds the whole result: E bits of coding, A bits of decoding. And when 0 and 7 are given.
-- What is said of an outcome is said of a reading without its noise count; the count has its own laws in Noise and Recoding.
-- Assumes nothing.
use Prim.Native.Nat.{ℕ, zero, suc, ◌≤◌, ◌<◌}
use native.Mathlib.Nat.{suc-ne-zero}
use native.Mathlib.Omega.{arith}
use mathlib.Core.Path.{◌≡◌, refl, sym, subst, ap, ◌∙◌}
use mathlib.Core.Logic.{◌≢◌, ◌↔◌}
use mathlib.Core.Bool.{Bool, true, false, cond, not}
use mathlib.Core.List.{List}
use lib.Dec.{T, eqb}
use lib.IntN.{ℤ, pos, nat_abs}
use lib.ListN.{length, get_or, take}
use lib.Seq.{length-take-le}
use borrow.Author.Tests.{le-ltb, ltb-false, eq-eqb, ne_eqb, eqb-true, eqb-false}
use Rattle.nr.specs.Rows.{first, Bits}
use Rattle.nr.specs.declared.Numbers.{Numbers}
use Rattle.nr.specs.Numbers.{K}
use Rattle.nr.specs.Answer.{refusal, refusal_of, Outcome, outcome, Reading}
use Rattle.nr.specs.Construction.{Layout, layout}
use Rattle.nr.specs.Scrambling.{c_init}
use Rattle.nr.specs.Parity.{parity_matches}
use Rattle.nr.specs.Coding.{bad_byte, coding_for, coding}
use Rattle.nr.specs.Promise3.{Accepted, Payload}
use Rattle.nr.specs.Decoding.{received, or_parity, bad_soft, decoding_for, decoding}
use Rattle.nr.proofs.Zip.{bits-take}
use Rattle.nr.proofs.Construction.{Sized, accepted, positions}
use Rattle.nr.proofs.Refusals.{longest, InTurn, carried, refused-in-turn, Passes, passes-exactly, at-most-six, first-none, before-first, FirstBad, six-first, six-sizes}
use Rattle.nr.proofs.Tests.{is, isn't}
use Rattle.nr.proofs.RoundTrip.{length-coded, bits-coded, length-received, bits-received}

-- ---- on every number but 0

pub record Untouched (old : List ℕ) (o : Outcome) : Type 0 where
  pub buffer : o.number ≢ 0 → o.buffer ≡ old
  pub place : o.number ≢ 6 → o.place ≡ 0

-- a reading without its noise count
abbrev pub plain : Reading → Outcome
plain r = record { number = r.number; place = r.place; buffer = r.buffer }

pub untouched : (i at : ℕ) (new old : List ℕ) → Untouched old (outcome i at new old)
unfolding outcome
untouched zero at new old = record { buffer = λ h. absurd (h refl); place = λ h. refl }
untouched (suc i) at new old = record { buffer = λ h. refl; place = λ h. rw (ne_eqb (suc i) 6 h) }

pub coding-untouched : (s : Numbers) (payload out : List ℕ) → Untouched out (coding s payload out)
unfolding coding coding_for
coding-untouched s payload out = untouched _ _ _ out

pub decoding-untouched : (s : Numbers) (soft : List ℤ) (out : List ℕ) → Untouched out (plain (decoding s soft out))
unfolding decoding decoding_for
decoding-untouched s soft out = untouched _ _ _ out

-- ---- the number

pub outcome-buffer : (i at : ℕ) (new old : List ℕ) → i ≡ 0 → (outcome i at new old).buffer ≡ new
unfolding outcome
outcome-buffer zero at new old e = refl
outcome-buffer (suc i) at new old e = absurd (suc-ne-zero i e)

pub outcome-number : (i at : ℕ) (new old : List ℕ) → (outcome i at new old).number ≡ i
unfolding outcome
outcome-number zero at new old = refl
outcome-number (suc i) at new old = refl

pub outcome-place : (i at : ℕ) (new old : List ℕ) → i ≡ 6 → (outcome i at new old).place ≡ at
unfolding outcome
outcome-place zero at new old e = let z : ⊥ = omega arith in absurd z
outcome-place (suc i) at new old e = rw (eq-eqb (suc i) 6 e)

-- where none of 1 to 6 applies, the parity decides between 0 and 7
matches : (A : ℕ) (b : List ℕ) → T (parity_matches A b) → or_parity 0 A b ≡ 0
unfolding or_parity
matches A b t = ap (λ (m : Bool). cond m 0 7) (is (parity_matches A b) t)

differs : (A : ℕ) (b : List ℕ) → T (not (parity_matches A b)) → or_parity 0 A b ≡ 7
unfolding or_parity
differs A b t = ap (λ (m : Bool). cond m 0 7) (isn't (parity_matches A b) t)

-- and 0 and 7 are given only then
matched : (i A : ℕ) (b : List ℕ) → or_parity i A b ≡ 0 → (i ≡ 0) × T (parity_matches A b)
unfolding or_parity
matched zero A b e = (refl, go (parity_matches A b) e)
  where
    go : (t : Bool) → ◌≡◌ {A = ℕ} (cond t 0 7) 0 → T t
    go true e = tt
    go false e = let z : ⊥ = omega arith in absurd z
matched (suc i) A b e = absurd (suc-ne-zero i e)

unmatched : (i A : ℕ) (b : List ℕ) → i ≤ 6 → or_parity i A b ≡ 7 → (i ≡ 0) × T (not (parity_matches A b))
unfolding or_parity
unmatched zero A b l e = (refl, go (parity_matches A b) e)
  where
    go : (t : Bool) → ◌≡◌ {A = ℕ} (cond t 0 7) 7 → T (not t)
    go true e = let z : ⊥ = omega arith in absurd z
    go false e = tt
unmatched (suc i) A b l e = let z : ⊥ = omega arith in absurd z

-- it leaves 1 to 6 as they are
parity-later : (i A : ℕ) (b : List ℕ) (k : ℕ) → k < 6 → (or_parity i A b ≡ suc k) ↔ (i ≡ suc k)
unfolding or_parity
parity-later zero A b k l = (λ e. go (parity_matches A b) e, λ e. absurd (suc-ne-zero k (sym e)))
  where
    go : (t : Bool) → ◌≡◌ {A = ℕ} (cond t 0 7) (suc k) → ◌≡◌ {A = ℕ} 0 (suc k)
    go true e = e
    go false e = let z : ⊥ = omega arith in absurd z
parity-later (suc i) A b k l = (λ e. e, λ e. e)

-- each of 1 to 6 is given exactly where its test applies and none before it
pub coding-in-turn : (s : Numbers) (payload out : List ℕ)
    → InTurn s.a s.e (length payload ≡ s.a) (length out ≡ s.e) (first bad_byte payload ≡ length payload) (coding s payload out).number
unfolding coding coding_for
coding-in-turn s payload out =
    carried (λ k l. (λ e. sym (outcome-number _ _ _ out) ∙ e, λ e. outcome-number _ _ _ out ∙ e)) (refused-in-turn s.a s.e bad_byte payload s.a out s.e)

-- coding gives 0 exactly if the numbers are accepted, the payload is one, and the output has E bytes
pub record CodingDone (s : Numbers) (payload out : List ℕ) : Type 0 where
  pub numbers : Accepted s
  pub input : Payload s payload
  pub output : length out ≡ s.e

pub coding-done : (s : Numbers) (payload out : List ℕ) → ((coding s payload out).number ≡ 0) ↔ CodingDone s payload out
unfolding coding coding_for bad_byte
coding-done s payload out = (
  λ e.
      let p : Passes s.a s.e bad_byte payload s.a out s.e = exactly.0 (sym (outcome-number _ _ _ out) ∙ e) in
      record {
        numbers = p.pair;
        input = record {
          size = p.input-length;
          bits = λ k h. ltb-false 1 (get_or payload k 0) (before-first bad_byte payload 0 k (omega (arith, p.entries, p.input-length)));
        };
        output = p.output-length;
      },
  λ c.
      outcome-number _ _ _ out
      ∙ exactly.1 (record {
        pair = c.numbers;
        input-length = c.input.size;
        output-length = c.output;
        entries = first-none bad_byte payload 0 (λ k h. le-ltb 1 (get_or payload k 0) (c.input.bits k (omega (arith, c.input.size))));
      }),
)
  where
    exactly : (refusal_of s.a s.e bad_byte payload s.a out s.e ≡ 0) ↔ Passes s.a s.e bad_byte payload s.a out s.e
    exactly = passes-exactly s.a s.e bad_byte payload s.a out s.e

-- decoding runs exactly if the numbers are accepted, the input is E values in -127..127, and the output has A bytes
pub record DecodingRuns (s : Numbers) (soft : List ℤ) (out : List ℕ) : Type 0 where
  pub numbers : Accepted s
  pub size : length soft ≡ s.e
  pub range : (k : ℕ) → k < s.e → nat_abs (get_or soft k (pos 0)) ≤ 127
  pub output : length out ≡ s.a

module _ (s : Numbers) (soft : List ℤ) (out : List ℕ) where
  abbrev b : List ℕ
  b = received (layout (K s.a) s.e) s.e s.rnti (c_init s) soft

  abbrev i : ℕ
  i = refusal_of s.a s.e bad_soft soft s.e out s.a

  runs : i ≡ 0 → DecodingRuns s soft out
  unfolding bad_soft
  runs e =
      let p : Passes s.a s.e bad_soft soft s.e out s.a = (passes-exactly s.a s.e bad_soft soft s.e out s.a).0 e in
      record {
        numbers = p.pair;
        size = p.input-length;
        range = λ k h. ltb-false 127 (nat_abs (get_or soft k (pos 0))) (before-first bad_soft soft (pos 0) k (omega (arith, p.entries, p.input-length)));
        output = p.output-length;
      }

  ran : DecodingRuns s soft out → i ≡ 0
  unfolding bad_soft
  ran r =
      (passes-exactly s.a s.e bad_soft soft s.e out s.a).1 (record {
        pair = r.numbers;
        input-length = r.size;
        output-length = r.output;
        entries = first-none bad_soft soft (pos 0) (λ k h. le-ltb 127 (nat_abs (get_or soft k (pos 0))) (r.range k (omega (arith, r.size))));
      })

  pub decoding-in-turn : InTurn s.a s.e (length soft ≡ s.e) (length out ≡ s.a) (first bad_soft soft ≡ length soft) (decoding s soft out).number
  unfolding decoding decoding_for
  decoding-in-turn =
      carried
      (λ k l. let p = parity-later i s.a b k l in (λ e. p.0 (sym (outcome-number _ _ _ out) ∙ e), λ e. outcome-number _ _ _ out ∙ p.1 e))
      (refused-in-turn s.a s.e bad_soft soft s.e out s.a)

  -- it then gives 0 exactly if the parity matches, and 7 exactly if it does not
  pub decoding-done : ((decoding s soft out).number ≡ 0) ↔ (DecodingRuns s soft out × T (parity_matches s.a b))
  unfolding decoding decoding_for
  decoding-done = (
    λ e. let m = matched i s.a b (sym (outcome-number _ _ _ out) ∙ e) in (runs m.0, m.1),
    λ r. outcome-number _ _ _ out ∙ ap (λ (j : ℕ). or_parity j s.a b) (ran r.0) ∙ matches s.a b r.1,
  )

  pub decoding-mismatch : ((decoding s soft out).number ≡ 7) ↔ (DecodingRuns s soft out × T (not (parity_matches s.a b)))
  unfolding decoding decoding_for
  decoding-mismatch = (
    λ e. let m = unmatched i s.a b (at-most-six s.a s.e bad_soft soft s.e out s.a) (sym (outcome-number _ _ _ out) ∙ e) in (runs m.0, m.1),
    λ r. outcome-number _ _ _ out ∙ ap (λ (j : ℕ). or_parity j s.a b) (ran r.0) ∙ differs s.a b r.1,
  )

  -- and no number is above 7
  pub decoding-seven : (decoding s soft out).number ≤ 7
  unfolding decoding decoding_for or_parity
  decoding-seven = rw (outcome-number (or_parity i s.a b) (first bad_soft soft) (take s.a b) out) (go i (at-most-six s.a s.e bad_soft soft s.e out s.a))
    where
      go : (i : ℕ) → i ≤ 6 → or_parity i s.a b ≤ 7
      go zero l = parity (parity_matches s.a b)
        where
          parity : (t : Bool) → cond t 0 7 ≤ 7
          parity true = omega arith
          parity false = omega arith
      go (suc i) l = omega arith

-- where 6 is given, A and E are accepted and the payload is A long
coding-sizes : (s : Numbers) (payload out : List ℕ) → (coding s payload out).number ≡ 6 → (refusal s.a s.e ≡ 0) × (length payload ≡ s.a)
unfolding coding coding_for
coding-sizes s payload out e = six-sizes s.a s.e bad_byte payload s.a out s.e (sym (outcome-number _ _ _ out) ∙ e)

-- 6 carries the place of the first bad entry
pub coding-bad : (s : Numbers) (payload out : List ℕ) → (coding s payload out).number ≡ 6 → FirstBad bad_byte payload 0 (coding s payload out).place
unfolding coding coding_for
coding-bad s payload out e =
    let six : refusal_of s.a s.e bad_byte payload s.a out s.e ≡ 6 = sym (outcome-number _ _ _ out) ∙ e in
    subst (FirstBad bad_byte payload 0) (sym (outcome-place _ (first bad_byte payload) _ out six)) (six-first s.a s.e bad_byte payload s.a out s.e 0 six)

-- so that a place is small, whatever was handed in
pub place-below : (o : Outcome) (old : List ℕ) (limit : ℕ) → 0 < limit → Untouched old o → (o.number ≡ 6 → o.place < limit) → o.place < limit
place-below o old limit l u six = go (eqb o.number 6) refl
  where
    go : (b : Bool) → eqb o.number 6 ≡ b → o.place < limit
    go true e = six (eqb-true o.number 6 e)
    go false e = let z : o.place ≡ 0 = u.place (eqb-false o.number 6 e) in omega arith

pub coding-place : (s : Numbers) (payload out : List ℕ) → (coding s payload out).place < 140
coding-place s payload out =
    place-below (coding s payload out) out 140 (omega arith) (coding-untouched s payload out)
    (λ six. let sizes = coding-sizes s payload out six in omega (arith, (coding-bad s payload out six).inside, sizes.1, (accepted s.a s.e sizes.0).high))

pub decoding-bad : (s : Numbers) (soft : List ℤ) (out : List ℕ) → (decoding s soft out).number ≡ 6 → FirstBad bad_soft soft (pos 0) (decoding s soft out).place
unfolding decoding decoding_for
decoding-bad s soft out e =
    let six : or_parity (i s soft out) s.a (b s soft out) ≡ 6 = sym (outcome-number _ _ _ out) ∙ e in
    subst (FirstBad bad_soft soft (pos 0)) (sym (outcome-place _ (first bad_soft soft) _ out six))
    (six-first s.a s.e bad_soft soft s.e out s.a (pos 0) ((parity-later (i s soft out) s.a (b s soft out) 5 (omega arith)).0 six))

decoding-sizes : (s : Numbers) (soft : List ℤ) (out : List ℕ) → (decoding s soft out).number ≡ 6 → (refusal s.a s.e ≡ 0) × (length soft ≡ s.e)
unfolding decoding decoding_for
decoding-sizes s soft out e =
    six-sizes s.a s.e bad_soft soft s.e out s.a ((parity-later (i s soft out) s.a (b s soft out) 5 (omega arith)).0 (sym (outcome-number _ _ _ out) ∙ e))

pub decoding-place : (s : Numbers) (soft : List ℤ) (out : List ℕ) → (decoding s soft out).place < 1728
decoding-place s soft out =
    place-below (plain (decoding s soft out)) out 1728 (omega arith) (decoding-untouched s soft out)
    (λ six. let sizes = decoding-sizes s soft out six in omega (arith, (decoding-bad s soft out six).inside, sizes.1, longest s.e (accepted s.a s.e sizes.0).length))

-- ---- on 0

-- the buffer holds `size` bits
pub record Whole (size : ℕ) (o : Outcome) : Type 0 where
  pub length-is : o.number ≡ 0 → length o.buffer ≡ size
  pub bits : o.number ≡ 0 → Bits o.buffer

whole : (size i at : ℕ) (new old : List ℕ) → (i ≡ 0 → length new ≡ size) → Bits new → Whole size (outcome i at new old)
unfolding outcome
whole size zero at new old l b = record { length-is = λ e. l refl; bits = λ e. b }
whole size (suc i) at new old l b = record { length-is = λ e. absurd (suc-ne-zero i e); bits = λ e. absurd (suc-ne-zero i e) }

pub coding-whole : (s : Numbers) (payload out : List ℕ) → Whole s.e (coding s payload out)
unfolding coding coding_for
coding-whole s payload out =
    whole s.e _ _ _ out (λ e. length-coded (layout (K s.a) s.e) s.e s.rnti (c_init s) payload)
    (bits-coded (layout (K s.a) s.e) s.e s.rnti (c_init s) payload)

pub decoding-whole : (s : Numbers) (soft : List ℤ) (out : List ℕ) → Whole s.a (plain (decoding s soft out))
unfolding decoding decoding_for
decoding-whole s soft out = whole s.a _ _ _ out size (bits-take s.a b (bits-received l s.e s.rnti (c_init s) soft))
  where
    l : Layout
    l = layout (K s.a) s.e

    b : List ℕ
    b = received l s.e s.rnti (c_init s) soft

    size : or_parity (refusal_of s.a s.e bad_soft soft s.e out s.a) s.a b ≡ 0 → length (take s.a b) ≡ s.a
    size e =
        let c : Sized (K s.a) s.e = accepted s.a s.e ((passes-exactly s.a s.e bad_soft soft s.e out s.a).0 (matched _ s.a b e).0).pair in
        let p : length l.positions ≡ K s.a = (positions (K s.a) s.e c).size in
        length-take-le s.a b (omega (arith, length-received l s.e s.rnti (c_init s) soft (omega arith)))
