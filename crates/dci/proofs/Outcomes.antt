-- From the answers of the checks to the outcome of a call.
-- Assumes nothing.
use Prim.Native.Nat.{ℕ, zero, suc, ◌≤◌, ◌<◌}
use native.Mathlib.Decide.{dec_le}
use native.Mathlib.Nat.{lt_of_not-le}
use native.Mathlib.Omega.{arith}
use mathlib.Core.Path.{◌≡◌, refl, sym, ap, ap₂, ◌∙◌}
use mathlib.Core.Bool.{Bool, true, false, not, cond}
use mathlib.Core.List.{List, [], ◌∷◌, ◌++◌}
use lib.Dec.{eqb, ltb}
use lib.IntN.{ℤ, pos, nat_abs}
use lib.ListN.{length, get_or, take, get_or-eq_default}
use borrow.Author.Tests.{lt-ltb, le-ltb, ltb-false, ne_eqb}
use Rattle.std.specs.Prelude.{Result, Ok, Err, Some, None}
use Rattle.nr.specs.declared.Numbers.{Numbers}
use Rattle.nr.specs.declared.Refusal.{Refusal}
use Rattle.nr.specs.declared.Refusal.TheVariants.{BadEntry}
use Rattle.nr.specs.Rows.{first, Bits, Within}
use Rattle.nr.specs.Numbers.{K}
use Rattle.nr.specs.Answer.{first_number, tests, number, place_of, refusal_of, Outcome, outcome, given, Reading, reading, on_done}
use Rattle.nr.specs.Construction.{Layout, layout}
use Rattle.nr.specs.Parity.{parity_matches}
use Rattle.nr.specs.Scrambling.{c_init}
use Rattle.nr.specs.Coding.{coded, bad_byte, coding_for, coding}
use Rattle.nr.specs.Decoding.{received, or_parity, bad_soft, noise_of, decoding_for, decoding}
use Rattle.nr.proofs.Chains.{ahead, behind, at_most}
use Rattle.nr.proofs.Refusals.{Passes, passes-exactly, before-first}
use Rattle.nr.proofs.Promise1.{outcome-number}
use Rattle.nr.proofs.Recoding.{on-other}
use Rattle.checks.specs.Checks.{size_refusal, Says, first_at}
use Rattle.checks.proofs.Places.{first_at-some, first_at-none}
use Rattle.checks.proofs.Refusing.{refused, done, passed_on}
use Rattle.dci.specs.Judged.{counted, told, judged}

-- ---- a row of five tests, and a last one behind them

module _ (ts : List Bool) (t : Bool) (at : ℕ) (new old : List ℕ) (five : length ts ≡ 5) where
  abbrev all-six : ℕ
  all-six = first_number 1 (ts ++ (t ∷ []))

  -- f is what becomes of the number behind them, and keeps 1 to 6
  module _ (f : ℕ → ℕ) (keeps : (i : ℕ) → f (suc i) ≡ suc i) where
    place-0 : (i : ℕ) → (i ≡ 0 → ⊥) → i ≤ 5 → outcome (f i) at new old ≡ record { number = i; place = 0; buffer = old }
    unfolding outcome
    place-0 zero n l = absurd (n refl)
    place-0 (suc i) n l =
        ap (λ (j : ℕ). outcome j at new old) (keeps i)
        ∙ ap (λ (b : Bool). record { number = suc i; place = cond b at 0; buffer = old }) (ne_eqb (suc i) 6 (λ e. omega arith))

    -- one of the five applies
    pub five-refused : {X : Type 0} (r : Result X Refusal) → Says (first_number 1 ts) r → (number r ≡ 0 → ⊥) → given r old ≡ outcome (f all-six) at new old
    unfolding given
    five-refused r y n =
        let m : first_number 1 ts ≡ 0 → ⊥ = λ e. n (y.number ∙ e) in
        cc (y.number, y.place, ahead 0 ts (t ∷ []) m, place-0 (first_number 1 ts) m (omega (arith, at_most 0 ts, five)))

    -- the last one does
    pub last-refused : (X : Type 0) → all-six ≡ 6 → (k : ℕ) → k ≡ at → given {X = X} (Err (BadEntry k)) old ≡ outcome (f all-six) at new old
    unfolding given number place_of outcome
    last-refused X e k q =
        ap (λ (at : ℕ). record { number = 6; place = at; buffer = old }) q
        ∙ sym (ap (λ (i : ℕ). outcome (f i) at new old) e ∙ ap (λ (j : ℕ). outcome j at new old) (keeps 5))

  -- none of the five does: the last one decides
  pub last-decides : first_number 1 ts ≡ 0 → all-six ≡ cond t 6 0
  last-decides e = behind 0 ts (t ∷ []) e ∙ ap (λ (i : ℕ). cond t i 0) (omega arith)

-- ---- a call with one input

module _ {X : Type 0} (bad : X → Bool) (A E : ℕ) (input : List X) (asked : ℕ) (out : List ℕ) (wanted : ℕ) where
  abbrev sizes : List Bool
  sizes = tests A E (not (eqb (length input) asked) ∷ not (eqb (length out) wanted) ∷ [])

  abbrev entry : Bool
  entry = ltb (first bad input) (length input)

  abbrev whole : ℕ
  whole = refusal_of A E bad input asked out wanted

  -- the sizes are refused
  module _ (f : ℕ → ℕ) (keeps : (i : ℕ) → f (suc i) ≡ suc i) (at : ℕ) (new : List ℕ) where
    pub size-refused : (Z : Type 0) {Y : Type 0} (r : Refusal) → Says {X = Y} (first_number 1 sizes) (Err r) → given {X = Z} (Err r) out ≡ outcome (f whole) at new out
    unfolding refusal_of
    size-refused Z r y = five-refused sizes entry at new out refl f keeps (Err r) (passed_on y) (refused Z r)

  module _ {Y : Type 0} (y : Y) (says : Says (first_number 1 sizes) (Ok y)) where
    left : whole ≡ cond entry 6 0
    unfolding refusal_of
    left = last-decides sizes entry 0 [] out refl (sym says.number ∙ done y)

    -- an entry is refused
    pub entry-refused : (Z : Type 0) (f : ℕ → ℕ) (keeps : (i : ℕ) → f (suc i) ≡ suc i) (new : List ℕ) (k : ℕ) → first_at bad input ≡ Some k
        → given {X = Z} (Err (BadEntry k)) out ≡ outcome (f whole) (first bad input) new out
    unfolding refusal_of
    entry-refused Z f keeps new k e =
        let p : (k ≡ first bad input) × (k < length input) = first_at-some bad input k e in
        let m : first bad input < length input = omega (arith, p.0, p.1) in
        last-refused sizes entry (first bad input) new out refl f keeps Z
        (left ∙ ap (λ (b : Bool). cond b 6 0) (lt-ltb (first bad input) (length input) m)) k p.0

    -- none is
    module _ (l : first_at bad input ≡ None) where
      pub none : whole ≡ 0
      none = left ∙ ap (λ (b : Bool). cond b 6 0) (le-ltb (first bad input) (length input) (first_at-none bad input l))

      pub passes : Passes A E bad input asked out wanted
      passes = (passes-exactly A E bad input asked out wanted).0 none

-- ---- no entry is bad

clean : {X : Type 0} (bad : X → Bool) (xs : List X) (d : X) → bad d ≡ false → length xs ≤ first bad xs → (k : ℕ) → bad (get_or xs k d) ≡ false
clean bad xs d e l k = elim (dec_le (length xs) k) [
  | yes m ↦ ap bad (get_or-eq_default xs d {n = k} m) ∙ e
  | no m ↦ before-first bad xs d k (let h = lt_of_not-le m in omega arith)
]

-- ---- coding

pub payload-bits : (payload : List ℕ) → length payload ≤ first bad_byte payload → Bits payload
unfolding bad_byte
payload-bits payload l k = ltb-false 1 (get_or payload k 0) (clean bad_byte payload 0 refl l k)

module _ (s : Numbers) (payload out : List ℕ) where
  abbrev row : List ℕ
  row = coded (layout (K s.a) s.e) s.e s.rnti (c_init s) payload

  -- coding, by its number
  coding-is : coding s payload out ≡ outcome (refusal_of s.a s.e bad_byte payload s.a out s.e) (first bad_byte payload) row out
  unfolding coding coding_for
  coding-is = refl

  pub coding-sizes : (Z : Type 0) {Y : Type 0} (r : Refusal) → Says {X = Y} (size_refusal s.a s.e (length payload) s.a (length out) s.e) (Err r)
      → given {X = Z} (Err r) out ≡ coding s payload out
  coding-sizes Z r y = size-refused bad_byte s.a s.e payload s.a out s.e (λ i. i) (λ i. refl) (first bad_byte payload) row Z r y ∙ sym coding-is

  module _ {Y : Type 0} (y : Y) (says : Says (size_refusal s.a s.e (length payload) s.a (length out) s.e) (Ok y)) where
    pub coding-entry : (Z : Type 0) (k : ℕ) → first_at bad_byte payload ≡ Some k → given {X = Z} (Err (BadEntry k)) out ≡ coding s payload out
    coding-entry Z k e = entry-refused bad_byte s.a s.e payload s.a out s.e y says Z (λ i. i) (λ i. refl) row k e ∙ sym coding-is

    module _ (l : first_at bad_byte payload ≡ None) where
      pub coding-passes : Passes s.a s.e bad_byte payload s.a out s.e
      coding-passes = passes bad_byte s.a s.e payload s.a out s.e y says l

      pub coding-done : {Z : Type 0} (z : Z) (new : List ℕ) → new ≡ row → given (Ok z) new ≡ coding s payload out
      unfolding given number place_of outcome
      coding-done z new q =
          ap (λ (buffer : List ℕ). outcome 0 (first bad_byte payload) buffer out) q
          ∙ ap (λ (i : ℕ). outcome i (first bad_byte payload) row out) (sym (none bad_byte s.a s.e payload s.a out s.e y says l)) ∙ sym coding-is

-- ---- decoding

pub soft-within : (soft : List ℤ) → length soft ≤ first bad_soft soft → Within 127 soft
unfolding bad_soft
soft-within soft l k = ltb-false 127 (nat_abs (get_or soft k (pos 0))) (clean bad_soft soft (pos 0) refl l k)

pub parity-keeps : (A : ℕ) (b : List ℕ) (i : ℕ) → or_parity (suc i) A b ≡ suc i
unfolding or_parity
parity-keeps A b i = refl

-- neither 0 nor 7 carries a place
placeless : (A : ℕ) (b new old : List ℕ) (at at' : ℕ) → outcome (or_parity 0 A b) at new old ≡ outcome (or_parity 0 A b) at' new old
unfolding or_parity outcome
placeless A b new old at at' = go (parity_matches A b)
  where
    go : (t : Bool) → outcome (cond t 0 7) at new old ≡ outcome (cond t 0 7) at' new old
    go true = refl
    go false = refl

-- a refused call counts nothing
quiet : (r : Refusal) (j at count : ℕ) (new old : List ℕ) → given {X = ℕ} (Err r) old ≡ outcome j at new old
    → reading (given {X = ℕ} (Err r) old) 0 ≡ reading (outcome j at new old) (on_done j count)
unfolding given
quiet r j at count new old e =
    ap₂ reading e (sym (on-other j count (λ z. refused ℕ r (ap (λ (o : Outcome). o.number) e ∙ outcome-number j at new old ∙ z))))

module _ (s : Numbers) (soft : List ℤ) (out : List ℕ) where
  abbrev l : Layout
  l = layout (K s.a) s.e

  abbrev b : List ℕ
  b = received l s.e s.rnti (c_init s) soft

  abbrev payload : List ℕ
  payload = take s.a b

  abbrev at : ℕ
  at = first bad_soft soft

  -- decoding, by its number
  abbrev by : ℕ → Reading
  by i = reading (outcome i at payload out) (on_done i (noise_of l s soft payload))

  decoding-is : decoding s soft out ≡ by (or_parity (refusal_of s.a s.e bad_soft soft s.e out s.a) s.a b)
  unfolding decoding decoding_for
  decoding-is = refl

  -- where all has been checked the parity decides
  pub judged-decoding : Passes s.a s.e bad_soft soft s.e out s.a → judged s soft out ≡ decoding s soft out
  judged-decoding p =
      ap (λ (o : Outcome). reading o (on_done (or_parity 0 s.a b) (noise_of l s soft payload))) (placeless s.a b payload out 0 at)
      ∙ ap (λ (i : ℕ). by (or_parity i s.a b)) (sym ((passes-exactly s.a s.e bad_soft soft s.e out s.a).1 p))
      ∙ sym decoding-is

  module _ {Y : Type 0} (y : Y) (says : Says (size_refusal s.a s.e (length soft) s.e (length out) s.a) (Ok y)) where
    pub decoding-entry : (k : ℕ) → first_at bad_soft soft ≡ Some k → told (Err (BadEntry k)) out ≡ decoding s soft out
    unfolding counted number
    decoding-entry k e =
        quiet (BadEntry k) _ at (noise_of l s soft payload) payload out
        (entry-refused bad_soft s.a s.e soft s.e out s.a y says ℕ (λ i. or_parity i s.a b) (parity-keeps s.a b) payload k e)
        ∙ sym decoding-is

    pub decoding-passes : first_at bad_soft soft ≡ None → Passes s.a s.e bad_soft soft s.e out s.a
    decoding-passes = passes bad_soft s.a s.e soft s.e out s.a y says

  pub decoding-sizes : {Y : Type 0} (r : Refusal) → Says {X = Y} (size_refusal s.a s.e (length soft) s.e (length out) s.a) (Err r) → told (Err r) out ≡ decoding s soft out
  unfolding counted
  decoding-sizes r y =
      quiet r _ at (noise_of l s soft payload) payload out
      (size-refused bad_soft s.a s.e soft s.e out s.a (λ i. or_parity i s.a b) (parity-keeps s.a b) at payload ℕ r y)
      ∙ sym decoding-is
