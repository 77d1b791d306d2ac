-- What C passes, and an answer of a call and the buffer that it leaves, as the C calls return them.
-- Assumes nothing.
use Prim.Native.Nat.{ℕ, ◌+◌, ◌*◌, ◌/◌, ◌%◌, ◌^◌, ◌≤◌, ◌<◌}
use native.Mathlib.Omega.{arith}
use mathlib.Core.Path.{◌≡◌, refl, sym, ap, ◌∙◌}
use mathlib.Core.Logic.{◌≢◌, ◌⊎◌, inl, inr}
use mathlib.Core.List.{List}
use lib.IntN.{ℤ}
use Rattle.std.specs.Prelude.{Result, Ok, Err}
use Rattle.nr.specs.declared.Numbers.{Numbers}
use Rattle.nr.specs.declared.Refusal.{Refusal}
use Rattle.nr.specs.declared.Refusal.TheVariants.{PayloadSize, CodedLength, TooManyBits, InputLength, OutputLength, BadEntry, ParityMismatch, NoCandidate}
use Rattle.nr.specs.Answer.{number, place_of, Outcome, given, Reading, reading}
use Rattle.nr.specs.Decoding.{decoding}
use Rattle.nr.specs.Loopback.{looped}
use Rattle.nr.specs.Searching.{Found, found, unfound, searching}
use Rattle.nr.proofs.Promise1.{decoding-seven, decoding-place}
use Rattle.nr.proofs.Recoding.{decoding-noise-small}
use Rattle.nr.proofs.Loopback.{looped-six, looped-place, looped-quiet}
use Rattle.nr.proofs.Searching.{Small, searching-small, searching-numbered}
use Rattle.dci.specs.Judged.{counted, told}
use Rattle.speltfeather.specs.Packed.{numbers, Returns, named}

-- the number of a refusal in bits 0 to 7, its place from bit 8 on
abbrev pub packed : Refusal → ℕ
packed r = number {X = ℕ} (Err r) + 2 ^ 8 * place_of {X = ℕ} (Err r)

-- a refusal says the same, whatever the call gives when it is done
alike : (X : Type 0) (r : Refusal) (buffer : List ℕ) → given {X = X} (Err r) buffer ≡ given {X = ℕ} (Err r) buffer
unfolding given number place_of
alike X PayloadSize buffer = refl
alike X CodedLength buffer = refl
alike X TooManyBits buffer = refl
alike X InputLength buffer = refl
alike X OutputLength buffer = refl
alike X (BadEntry k) buffer = refl
alike X ParityMismatch buffer = refl
alike X NoCandidate buffer = refl

-- only 6 has a place
placeless : (r : Refusal) → number {X = ℕ} (Err r) ≢ 6 → place_of {X = ℕ} (Err r) ≡ 0
unfolding number place_of
placeless PayloadSize n = refl
placeless CodedLength n = refl
placeless TooManyBits n = refl
placeless InputLength n = refl
placeless OutputLength n = refl
placeless (BadEntry k) n = absurd (n refl)
placeless ParityMismatch n = refl
placeless NoCandidate n = refl

-- ---- a call that counts nothing

pub done-returned : {X : Type 0} (x : X) {o : Outcome} {buffer : List ℕ} → given (Ok x) buffer ≡ o → Returns (reading o 0) 0 buffer
unfolding given number place_of
done-returned x e = record {
  answer = omega (arith, ap (λ (o : Outcome). o.number) e, ap (λ (o : Outcome). o.place) e);
  output = ap (λ (o : Outcome). o.buffer) e;
}

module _ (X : Type 0) (r : Refusal) (buffer : List ℕ) {o : Outcome} (e : given {X = X} (Err r) buffer ≡ o) where
  refused-is : given {X = ℕ} (Err r) buffer ≡ o
  refused-is = sym (alike X r buffer) ∙ e

  pub refused-returned : (x : ℕ) → x ≡ packed r → Returns (reading o 0) x buffer
  unfolding given
  refused-returned x p = record {
    answer = omega (arith, p ∙ ap (λ (o : Outcome). o.number + 2 ^ 8 * o.place) refused-is);
    output = ap (λ (o : Outcome). o.buffer) refused-is;
  }

  -- the place that a call answers with is small
  pub refused-small : o.place < 4096 → place_of {X = ℕ} (Err r) < 2 ^ 16
  unfolding given
  refused-small l = omega (arith, ap (λ (o : Outcome). o.place) refused-is)

-- ---- one that decodes

module _ (r : Result ℕ Refusal) (buffer : List ℕ) {o : Reading} (e : told r buffer ≡ o) where
  pub counted-returned : (x : ℕ) → x ≡ number r + 2 ^ 8 * place_of r + 2 ^ 24 * counted r → Returns o x buffer
  unfolding given
  counted-returned x p = record {
    answer = p ∙ ap (λ (o : Reading). o.number + 2 ^ 8 * o.place + 2 ^ 24 * o.noise) e;
    output = ap (λ (o : Reading). o.buffer) e;
  }

  -- the place is small
  pub counted-small : o.place < 4096 → place_of r < 2 ^ 16
  unfolding given
  counted-small l = omega (arith, ap (λ (o : Reading). o.place) e)

-- ---- a search

module _ {number candidate noise : ℕ} {part : List ℤ} {buffer : List ℕ} {f : Found} (e : found number candidate part buffer noise ≡ f) where
  pub found-returned : (x : ℕ) → x ≡ number + 2 ^ 8 * candidate + 2 ^ 24 * noise → Returns (named f) x buffer
  found-returned x p = record {
    answer = p ∙ ap (λ (f : Found). f.number + 2 ^ 8 * f.candidate + 2 ^ 24 * f.noise) e;
    output = ap (λ (f : Found). f.buffer) e;
  }

  pub found-small : {n : ℕ} {region : List ℤ} {list out : List ℕ} → Small n region list out f → (number ≤ 8) × ((candidate < 44) × (noise ≤ 1728))
  found-small s = (
    omega (arith, s.number, ap (λ (f : Found). f.number) e),
    (omega (arith, s.candidate, ap (λ (f : Found). f.candidate) e), omega (arith, s.noise, ap (λ (f : Found). f.noise) e)),
  )

-- one that is refused gives 4, 5 or 8, so that no place stands where the candidate does
pub found-placeless : (n : ℕ) (region : List ℤ) (list out : List ℕ) (r : Refusal) {buffer : List ℕ}
    → unfound (number {X = ℕ} (Err r)) buffer ≡ searching n region list out → place_of {X = ℕ} (Err r) ≡ 0
found-placeless n region list out r e =
    let w = (searching-numbered n region list out).no_other in
    placeless r (λ (six : number {X = ℕ} (Err r) ≡ 6). six-never (sym (ap (λ (f : Found). f.number) e) ∙ six) w)
  where
    six-never : {i : ℕ} → i ≡ 6 → (i ≡ 0) ⊎ ((i ≡ 4) ⊎ ((i ≡ 5) ⊎ (i ≡ 8))) → ⊥
    six-never six (inl z) = omega arith
    six-never six (inr (inl z)) = omega arith
    six-never six (inr (inr (inl z))) = omega arith
    six-never six (inr (inr (inr z))) = omega arith

-- ---- which number of a call is which, in the order in which C passes them

pub passed-in-order : numbers 1 2 3 4 5 ≡ record { a = 1; e = 2; rnti = 3; n_id = 4; n_rnti = 5 }
passed-in-order = refl

-- ---- how a caller takes an answer apart: by its bits

pub record Unpacked (o : Reading) (r : ℕ) : Type 0 where
  pub number : r % 2 ^ 8 ≡ o.number
  pub place : r / 2 ^ 8 % 2 ^ 16 ≡ o.place
  pub noise : r / 2 ^ 24 % 2 ^ 16 ≡ o.noise
  pub rest : r / 2 ^ 40 ≡ 0

apart : (n p c r : ℕ) → n < 2 ^ 8 → p < 2 ^ 16 → c < 2 ^ 16 → r ≡ n + 2 ^ 8 * p + 2 ^ 24 * c
    → ((r % 2 ^ 8 ≡ n) × (r / 2 ^ 8 % 2 ^ 16 ≡ p)) × ((r / 2 ^ 24 % 2 ^ 16 ≡ c) × (r / 2 ^ 40 ≡ 0))
apart n p c r hn hp hc e = ((omega arith, omega arith), (omega arith, omega arith))

pub unpacked : (o : Reading) (r : ℕ) (buffer : List ℕ) → Returns o r buffer → o.number < 2 ^ 8 → o.place < 2 ^ 16 → o.noise < 2 ^ 16 → Unpacked o r
unpacked o r buffer h n p c =
    let z = apart o.number o.place o.noise r n p c h.answer in
    record { number = z.0.0; place = z.0.1; noise = z.1.0; rest = z.1.1 }

-- of a call that counts nothing
pub plain-unpacked : (o : Outcome) (r : ℕ) (buffer : List ℕ) → Returns (reading o 0) r buffer → o.number < 2 ^ 8 → (r % 2 ^ 8 ≡ o.number) × (r / 2 ^ 8 ≡ o.place)
plain-unpacked o r buffer h l = (omega (arith, h.answer), omega (arith, h.answer))

-- of every call of decoding, of the self-test and of the search
pub decoded-unpacked : (s : Numbers) (soft : List ℤ) (out : List ℕ) (r : ℕ) (buffer : List ℕ) → Returns (decoding s soft out) r buffer → Unpacked (decoding s soft out) r
decoded-unpacked s soft out r buffer h =
    unpacked (decoding s soft out) r buffer h (omega (arith, decoding-seven s soft out)) (omega (arith, decoding-place s soft out)) (omega (arith, decoding-noise-small s soft out))

pub looped-unpacked : (s : Numbers) (payload : List ℕ) (strengths : List ℤ) (out : List ℕ) (r : ℕ) (buffer : List ℕ)
    → Returns (looped s payload strengths out) r buffer → Unpacked (looped s payload strengths out) r
looped-unpacked s payload strengths out r buffer h =
    unpacked (looped s payload strengths out) r buffer h (omega (arith, looped-six s payload strengths out)) (omega (arith, looped-place s payload strengths out))
    (omega (arith, looped-quiet s payload strengths out))

pub record FoundUnpacked (f : Found) (r : ℕ) : Type 0 where
  pub number : r % 2 ^ 8 ≡ f.number
  pub candidate : r / 2 ^ 8 % 2 ^ 16 ≡ f.candidate
  pub noise : r / 2 ^ 24 % 2 ^ 16 ≡ f.noise
  pub rest : r / 2 ^ 40 ≡ 0

pub found-unpacked : (n : ℕ) (region : List ℤ) (list out : List ℕ) (r : ℕ) (buffer : List ℕ) → Returns (named (searching n region list out)) r buffer
    → FoundUnpacked (searching n region list out) r
found-unpacked n region list out r buffer h =
    let s = searching-small n region list out in
    let u = unpacked (named (searching n region list out)) r buffer h (omega (arith, s.number)) (omega (arith, s.candidate)) (omega (arith, s.noise)) in
    record { number = u.number; candidate = u.place; noise = u.noise; rest = u.rest }
