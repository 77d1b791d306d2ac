-- Promise 3 over the calls: what `encode` and `decode` promise, put one after the other; and the self-test's own outcome.
-- Assumes nothing.
use Prim.Native.Nat.{ℕ, suc, ◌+◌, ◌≤◌, ◌<◌}
use native.Mathlib.Nat.{suc-ne-zero, lt_of_not-le}
use native.Mathlib.Decide.{dec_le}
use native.Mathlib.Omega.{arith}
use mathlib.Core.Path.{◌≡◌, refl, sym, subst, ap, ap₂, ◌∙◌}
use mathlib.Core.Bool.{Bool, true, false, not, cond, ◌||◌}
use mathlib.Core.List.{List, [], ◌∷◌, ◌++◌}
use lib.Dec.{T, eqb, ltb}
use lib.IntN.{ℤ, pos, nat_abs}
use lib.Signed.{lt_z_yes}
use lib.ListN.{length, get_or, replicate, length-replicate, get_or-eq_default}
use borrow.Author.Tests.{lt-ltb, le-ltb}
use Rattle.std.specs.Prelude.{Result, Ok, Err, Some, None}
use Rattle.nr.specs.declared.Numbers.{Numbers}
use Rattle.nr.specs.declared.Refusal.{Refusal}
use Rattle.nr.specs.declared.Refusal.TheVariants.{BadEntry}
use Rattle.nr.specs.Rows.{first, Bits, Within}
use Rattle.nr.specs.Answer.{first_number, tests, number, Outcome, outcome, given, Reading, reading}
use Rattle.nr.specs.SuccessiveDecoder.{negate_if, descramble}
use Rattle.nr.specs.Coding.{bad_byte, coding}
use Rattle.nr.specs.Decoding.{decoding}
use Rattle.nr.specs.Promise3.{Accepted, Payload, Noiseless}
use Rattle.nr.specs.Loopback.{bad_strength, looped, Loops}
use Rattle.nr.proofs.Chains.{none, ahead}
use Rattle.nr.proofs.Refusals.{Passes, before-first}
use Rattle.nr.proofs.Promise1.{coding-whole}
use Rattle.nr.proofs.SoftRows.{nat_abs-negate_if, length-descramble, get_or-descramble}
use Rattle.nr.proofs.Promise3.{promise3}
use Rattle.nr.proofs.Loopback.{strength-range, whole, looped_is, looped-found}
use Rattle.checks.specs.Checks.{size_refusal, Says, first_at}
use Rattle.checks.proofs.Places.{first_at-some, first_at-none}
use Rattle.checks.proofs.Refusing.{refused, done, passed_on}
use Rattle.dci.specs.Judged.{counted, told}
use Rattle.self_test.specs.Loops.{signed, found}
use Rattle.dci.proofs.Outcomes.{five-refused, last-refused, last-decides, passes, payload-bits}

-- ---- promise 3, for whatever meets the contracts of the two calls

pub calls : {X : Type 0} (s : Numbers) (payload sent₀ sent : List ℕ) (r₁ : Result X Refusal) → Accepted s → Payload s payload → length sent₀ ≡ s.e
    → given r₁ sent ≡ coding s payload sent₀
    → (soft : List ℤ) → Noiseless s sent soft
    → (out new : List ℕ) (r₂ : Result ℕ Refusal) → length out ≡ s.a
    → told r₂ new ≡ decoding s soft out
    → (number r₁ ≡ 0) × (told r₂ new ≡ found payload)
unfolding given
calls s payload sent₀ sent r₁ a p l q soft n out new r₂ l' q' = (
  ap (λ (o : Outcome). o.number) q ∙ promise3.codes s payload sent₀ a p l,
  q' ∙ promise3.decodes s payload sent₀ a p l soft out (subst (λ (x : List ℕ). Noiseless s x soft) (ap (λ (o : Outcome). o.buffer) q) n) l',
)

-- ---- strengths signed by bits are a noiseless row

module _ (s : Numbers) (sent : List ℕ) (bits : Bits sent) (strengths : List ℤ) (ls : length sent ≡ s.e) (lt : length strengths ≡ s.e)
    (strong : (k : ℕ) → k < s.e → bad_strength (get_or strengths k (pos 0)) ≡ false) where
  value : (k : ℕ) → k < s.e → get_or (descramble sent strengths) k (pos 0) ≡ negate_if (get_or sent k 0) (get_or strengths k (pos 0))
  value k h = get_or-descramble sent strengths (ls ∙ sym lt) k (omega arith)

  strength-at : (k : ℕ) → k < s.e → (m : ℕ) × ((get_or strengths k (pos 0) ≡ pos (suc m)) × (suc m ≤ 127))
  strength-at k h = (strength-range (get_or strengths k (pos 0))).0 (strong k h)

  magnitude : (k : ℕ) → k < s.e → (m : ℕ) × ((nat_abs (get_or (descramble sent strengths) k (pos 0)) ≡ suc m) × (suc m ≤ 127))
  magnitude k h =
      let q = strength-at k h in
      (q.0, (ap nat_abs (value k h) ∙ nat_abs-negate_if (get_or sent k 0) (get_or strengths k (pos 0)) ∙ ap nat_abs q.1.0, q.1.1))

  pub signed-noiseless : Noiseless s sent (descramble sent strengths)
  signed-noiseless = record {
    size = length-descramble sent strengths (ls ∙ sym lt) ∙ lt;
    range = λ k h. let q = magnitude k h in omega (arith, q.1.0, q.1.1);
    nonzero = λ k h e. let q = magnitude k h in suc-ne-zero q.0 (sym q.1.0 ∙ ap nat_abs e);
    positive = λ k h z. let q = strength-at k h in rw (value k h, z, q.1.0) (lt_z_yes (subst T (sym (lt-ltb 0 (suc q.0) (omega arith))) tt));
    negative = λ k h z. let q = strength-at k h in rw (value k h, z, q.1.0) (lt_z_yes tt);
  }

-- strengths are small
pub strengths-within : (s : Numbers) (payload : List ℕ) (strengths : List ℤ) (out : List ℕ) → Loops s payload strengths out → Within 127 strengths
strengths-within s payload strengths out l k = elim (dec_le (length strengths) k) [
  | yes m ↦ omega (arith, ap nat_abs (get_or-eq_default strengths (pos 0) {n = k} m))
  | no m ↦
      let q = (strength-range (get_or strengths k (pos 0))).0 (l.strong k (let h = lt_of_not-le m in omega (arith, l.size))) in
      omega (arith, ap nat_abs q.1.0, q.1.1)
]

-- from a row that was coded and signed, decoding finds the payload
pub loop-found : (s : Numbers) (payload : List ℕ) (strengths : List ℤ) (out : List ℕ) → Loops s payload strengths out
    → (soft : List ℤ) → soft ≡ signed s payload strengths → {got : Reading} → got ≡ decoding s soft out → got ≡ found payload
loop-found s payload strengths out l soft e q =
    let sent₀ : List ℕ = replicate s.e 0 in
    let sent : List ℕ = (coding s payload sent₀).buffer in
    let ls : length sent₀ ≡ s.e = length-replicate s.e 0 in
    let zero : (coding s payload sent₀).number ≡ 0 = promise3.codes s payload sent₀ l.numbers l.input ls in
    let w = coding-whole s payload sent₀ in
    q ∙ promise3.decodes s payload sent₀ l.numbers l.input ls soft out
    (subst (Noiseless s sent) (sym e) (signed-noiseless s sent (w.bits zero) strengths (w.length-is zero) l.size l.strong)) l.output

-- ---- from the answers of its two checks of sizes to the outcome

-- a refused call counts nothing
abbrev quiet : Outcome → Reading
quiet o = reading o 0

quietly : (r : Refusal) (buffer : List ℕ) → told (Err r) buffer ≡ quiet (given {X = ℕ} (Err r) buffer)
unfolding counted
quietly r buffer = refl

module _ (s : Numbers) (payload : List ℕ) (strengths : List ℤ) (out : List ℕ) where
  abbrev byte : ℕ
  byte = first bad_byte payload

  abbrev strength : ℕ
  strength = first bad_strength strengths

  -- the tests of the two lengths, of the output and of the entries
  abbrev p : Bool
  p = not (eqb (length payload) s.a)

  abbrev q : Bool
  q = not (eqb (length strengths) s.e)

  abbrev o : Bool
  o = not (eqb (length out) s.a)

  abbrev bad : Bool
  bad = ltb byte (length payload) || ltb strength (length strengths)

  abbrev place : ℕ
  place = cond (ltb byte (length payload)) byte (s.a + strength)

  abbrev pair-tests : List Bool → List Bool
  pair-tests = tests s.a s.e

  -- the first check refuses: what it did not look at plays no part
  first-applies : (p : Bool) → (first_number 1 (pair-tests (p ∷ false ∷ [])) ≡ 0 → ⊥)
      → first_number 1 (pair-tests ((p || q) ∷ o ∷ bad ∷ [])) ≡ first_number 1 (pair-tests (p ∷ false ∷ []) ++ (false ∷ []))
  first-applies true n = refl
  first-applies false n = ahead 0 (pair-tests []) (q ∷ o ∷ bad ∷ []) n

  pub first-refused : {Y : Type 0} (r : Refusal) → Says {X = Y} (size_refusal s.a s.e (length payload) s.a 0 0) (Err r) → told (Err r) out ≡ looped s payload strengths out
  first-refused r y =
      let z : Says {X = ℕ} (first_number 1 (pair-tests (p ∷ false ∷ []))) (Err r) = passed_on y in
      quietly r out
      ∙ ap quiet (five-refused (pair-tests (p ∷ false ∷ [])) false place payload out refl (λ i. i) (λ i. refl) (Err r) z (refused ℕ r))
      ∙ sym (looped_is s payload strengths out ∙ ap (λ (i : ℕ). quiet (outcome i place payload out)) (first-applies p (λ e. refused ℕ r (z.number ∙ e))))

  module _ {Y : Type 0} (v₁ : Y) (y₁ : Says (size_refusal s.a s.e (length payload) s.a 0 0) (Ok v₁)) where
    -- the payload's length is right: the second check's five tests and that of the entries are left
    abbrev sizes : List Bool
    sizes = pair-tests (q ∷ o ∷ [])

    rest : whole s payload strengths out ≡ first_number 1 (sizes ++ (bad ∷ []))
    rest =
        let n = none 0 (pair-tests (p ∷ false ∷ [])) (sym y₁.number ∙ done v₁) in
        ap (λ (t : Bool). first_number 1 (pair-tests ((t || q) ∷ o ∷ bad ∷ []))) n.1.1.1.0

    looped-rest : quiet (outcome (first_number 1 (sizes ++ (bad ∷ []))) place payload out) ≡ looped s payload strengths out
    looped-rest = sym (looped_is s payload strengths out ∙ ap (λ (i : ℕ). quiet (outcome i place payload out)) rest)

    pub second-refused : {Z : Type 0} (r : Refusal) → Says {X = Z} (size_refusal s.a s.e (length strengths) s.e (length out) s.a) (Err r)
        → told (Err r) out ≡ looped s payload strengths out
    second-refused r y =
        quietly r out
        ∙ ap quiet (five-refused sizes bad place payload out refl (λ i. i) (λ i. refl) (Err r) (passed_on y) (refused ℕ r))
        ∙ looped-rest

    module _ {Z : Type 0} (v₂ : Z) (y₂ : Says (size_refusal s.a s.e (length strengths) s.e (length out) s.a) (Ok v₂)) where
      none₂ : first_number 1 sizes ≡ 0
      none₂ = sym y₂.number ∙ done v₂

      -- 6, at a place
      six : (x y : Bool) → ltb byte (length payload) ≡ x → ltb strength (length strengths) ≡ y → x || y ≡ true → (k : ℕ) → k ≡ cond x byte (s.a + strength)
          → told (Err (BadEntry k)) out ≡ looped s payload strengths out
      six x y p q t k m =
          quietly (BadEntry k) out
          ∙ ap quiet (last-refused sizes bad place payload out refl (λ i. i) (λ i. refl) ℕ
          (last-decides sizes bad place payload out refl none₂ ∙ ap (λ (u : Bool). cond u 6 0) (ap₂ ◌||◌ p q ∙ t)) k
          (m ∙ ap (λ (u : Bool). cond u byte (s.a + strength)) (sym p)))
          ∙ looped-rest

      pub byte-refused : (k : ℕ) → first_at bad_byte payload ≡ Some k → told (Err (BadEntry k)) out ≡ looped s payload strengths out
      byte-refused k e =
          let p : (k ≡ byte) × (k < length payload) = first_at-some bad_byte payload k e in
          let h : byte < length payload = omega (arith, p.0, p.1) in
          six true (ltb strength (length strengths)) (lt-ltb byte (length payload) h) refl refl k p.0

      module _ (l₁ : first_at bad_byte payload ≡ None) where
        abbrev clean : length payload ≤ byte
        clean = first_at-none bad_byte payload l₁

        abbrev p₁ : Passes s.a s.e bad_byte payload s.a [] 0
        p₁ = passes bad_byte s.a s.e payload s.a [] 0 v₁ y₁ l₁

        pub strength-refused : (k : ℕ) → first_at bad_strength strengths ≡ Some k → told (Err (BadEntry (length payload + k))) out ≡ looped s payload strengths out
        strength-refused k e =
            let p : (k ≡ strength) × (k < length strengths) = first_at-some bad_strength strengths k e in
            let h : strength < length strengths = omega (arith, p.0, p.1) in
            six false true (le-ltb byte (length payload) clean) (lt-ltb strength (length strengths) h) refl (length payload + k) (ap₂ ◌+◌ p₁.input-length p.0)

        module _ (l₂ : first_at bad_strength strengths ≡ None) where
          pub loops : Loops s payload strengths out
          loops =
              let p₂ = passes bad_strength s.a s.e strengths s.e out s.a v₂ y₂ l₂ in
              record {
                numbers = p₁.pair;
                input = record { size = p₁.input-length; bits = λ k h. payload-bits payload clean k };
                size = p₂.input-length;
                strong = λ k h. before-first bad_strength strengths (pos 0) k (omega (arith, p₂.input-length, first_at-none bad_strength strengths l₂));
                output = p₂.output-length;
              }

          pub loop-done : {got : Reading} → got ≡ found payload → got ≡ looped s payload strengths out
          loop-done q = q ∙ sym (looped-found s payload strengths out loops)
