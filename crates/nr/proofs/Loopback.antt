-- The self-test: it gives 0 with the payload exactly where promise 3 speaks, with strengths in 1..127, and 7 never.
-- Assumes nothing.
use Prim.Native.Nat.{ℕ, zero, suc, ◌+◌, ◌≤◌, ◌<◌}
use native.Mathlib.Omega.{arith}
use mathlib.Core.Path.{◌≡◌, refl, sym, subst, ap, ap₂, ◌∙◌}
use mathlib.Core.Logic.{◌⊎◌, inl, inr, ◌↔◌}
use mathlib.Core.Bool.{Bool, true, false, cond, not, ◌||◌}
use mathlib.Core.List.{List, [], ◌∷◌}
use lib.Dec.{T, eqb, ltb}
use lib.IntN.{ℤ, pos, negsuc}
use lib.ListN.{length, get_or}
use borrow.Author.Tests.{le-ltb, ltb-true, ltb-false}
use Rattle.nr.specs.declared.Numbers.{Numbers}
use Rattle.nr.specs.Rows.{first}
use Rattle.nr.specs.Answer.{first_number, tests, outcome, Reading, reading}
use Rattle.nr.specs.Coding.{bad_byte}
use Rattle.nr.specs.Loopback.{bad_strength, looped, Loops}
use Rattle.nr.proofs.Tests.{both-fail}
use Rattle.nr.proofs.Chains.{at_most}
use Rattle.nr.proofs.Construction.{accepted}
use Rattle.nr.proofs.Refusals.{longest, first-le, first-none, before-first, FirstBad, first-bad, InTurn, in-turn, in-turn-none, carried, length-is, no-entry}
use Rattle.nr.proofs.Promise1.{Untouched, plain, untouched, outcome-number, outcome-place, place-below}

-- a strength is not bad exactly if it is one of 1..127
pub strength-range : (x : ℤ) → (bad_strength x ≡ false) ↔ ((m : ℕ) × ((x ≡ pos (suc m)) × (suc m ≤ 127)))
unfolding bad_strength
strength-range x = (one x, λ r. ap bad_strength r.1.0 ∙ ap₂ ◌||◌ (le-ltb (suc r.0) 1 (omega arith)) (le-ltb 127 (suc r.0) r.1.1))
  where
    one : (x : ℤ) → bad_strength x ≡ false → (m : ℕ) × ((x ≡ pos (suc m)) × (suc m ≤ 127))
    one (pos zero) e = absurd (subst T e tt)
    one (pos (suc m)) e = (m, (refl, ltb-false 127 (suc m) (sym (ap (λ (b : Bool). b || ltb 127 (suc m)) (le-ltb (suc m) 1 (omega arith))) ∙ e)))
    one (negsuc m) e = absurd (subst T e tt)

module _ (s : Numbers) (payload : List ℕ) (strengths : List ℤ) (out : List ℕ) where
  pub looped-untouched : Untouched out (plain (looped s payload strengths out))
  unfolding looped
  looped-untouched = untouched _ _ payload out

  abbrev byte : ℕ
  byte = first bad_byte payload

  abbrev strength : ℕ
  strength = first bad_strength strengths

  -- the tests of 4, 5 and 6
  abbrev inputs : Bool
  inputs = not (eqb (length payload) s.a) || not (eqb (length strengths) s.e)

  abbrev output : Bool
  output = not (eqb (length out) s.a)

  abbrev bad : Bool
  bad = ltb byte (length payload) || ltb strength (length strengths)

  abbrev pub whole : ℕ
  whole = first_number 1 (tests s.a s.e (inputs ∷ output ∷ bad ∷ []))

  pub looped_is : looped s payload strengths out ≡ reading (outcome whole (cond (ltb byte (length payload)) byte (s.a + strength)) payload out) 0
  unfolding looped
  looped_is = refl

  looped-number : (looped s payload strengths out).number ≡ whole
  looped-number = ap (λ (o : Reading). o.number) looped_is ∙ outcome-number whole _ payload out

  abbrev Inputs : Type 0
  Inputs = (length payload ≡ s.a) × (length strengths ≡ s.e)

  abbrev Entries : Type 0
  Entries = (byte ≡ length payload) × (strength ≡ length strengths)

  inputs_are : (inputs ≡ false) ↔ Inputs
  inputs_are = both-fail (length-is (length payload) s.a) (length-is (length strengths) s.e)

  none-bad : (bad ≡ false) ↔ Entries
  none-bad = both-fail (no-entry bad_byte payload) (no-entry bad_strength strengths)

  -- each of 1 to 6 is given exactly where its test applies and none before it
  pub looped-in-turn : InTurn s.a s.e Inputs (length out ≡ s.a) Entries (looped s payload strengths out).number
  looped-in-turn =
      carried (λ k l. (λ e. sym looped-number ∙ e, λ e. looped-number ∙ e))
      (in-turn s.a s.e inputs output bad inputs_are (length-is (length out) s.a) none-bad)

  -- a place is small, whatever was handed in
  pub looped-place : (looped s payload strengths out).place < 4096
  looped-place =
      place-below (plain (looped s payload strengths out)) out 4096 (omega arith) looped-untouched
      (λ e.
      let z = looped-in-turn.six.0 e in
      let c = accepted s.a s.e z.0 in
      omega (
        arith,
        ap (λ (o : Reading). o.place) looped_is ∙ outcome-place whole _ payload out (sym looped-number ∙ e),
        bounded (ltb byte (length payload)),
        z.1.0.0,
        z.1.0.1,
        c.high,
        longest s.e c.length,
      ))
    where
      bounded : (b : Bool) → cond b byte (s.a + strength) ≤ length payload + (s.a + length strengths)
      bounded true = omega (arith, first-le bad_byte payload)
      bounded false = omega (arith, first-le bad_strength strengths)

  -- the place of the payload's first bad byte; if it has none, A more than that of the first bad strength
  abbrev pub BadAt : ℕ → Type 0
  BadAt at =
      FirstBad bad_byte payload 0 at
      ⊎ ((byte ≡ length payload) × ((at ≡ s.a + strength) × FirstBad bad_strength strengths (pos 0) strength))

  -- 6 carries it
  pub looped-bad : (looped s payload strengths out).number ≡ 6 → BadAt (looped s payload strengths out).place
  looped-bad e =
      subst BadAt (sym (ap (λ (o : Reading). o.place) looped_is ∙ outcome-place whole _ payload out (sym looped-number ∙ e)))
      (go (ltb byte (length payload)) refl)
    where
      go : (b : Bool) → ltb byte (length payload) ≡ b → BadAt (cond b byte (s.a + strength))
      go true l = let h = ltb-true byte (length payload) l in inl (first-bad bad_byte payload 0 (λ z. omega arith))
      go false l =
          let none = (no-entry bad_byte payload).0 l in
          inr (none, (refl, first-bad bad_strength strengths (pos 0) (λ z. (looped-in-turn.six.0 e).1.1.1 (none, z))))

  -- 0 exactly there
  pub looped-done : ((looped s payload strengths out).number ≡ 0) ↔ Loops s payload strengths out
  unfolding bad_byte
  looped-done =
      let n = in-turn-none s.a s.e inputs output bad inputs_are (length-is (length out) s.a) none-bad in (
        λ e.
            let z = n.0 (sym looped-number ∙ e) in
            record {
              numbers = z.0;
              input = record { size = z.1.0.0; bits = λ k h. ltb-false 1 (get_or payload k 0) (before-first bad_byte payload 0 k (omega (arith, z.1.0.0, z.1.1.1.0))) };
              size = z.1.0.1;
              strong = λ k h. before-first bad_strength strengths (pos 0) k (omega (arith, z.1.0.1, z.1.1.1.1));
              output = z.1.1.0;
            },
        λ l.
            let p = first-none bad_byte payload 0 (λ k h. le-ltb 1 (get_or payload k 0) (l.input.bits k (omega (arith, l.input.size)))) in
            let q = first-none bad_strength strengths (pos 0) (λ k h. l.strong k (omega (arith, l.size))) in
            looped-number ∙ n.1 (l.numbers, ((l.input.size, l.size), (l.output, (p, q)))),
      )

  -- and then the output holds the payload; the noise count is 0 with every number
  pub looped-found : Loops s payload strengths out → looped s payload strengths out ≡ record { number = 0; place = 0; buffer = payload; noise = 0 }
  unfolding outcome
  looped-found l = looped_is ∙ ap (λ (i : ℕ). reading (outcome i (cond (ltb byte (length payload)) byte (s.a + strength)) payload out) 0) (sym looped-number ∙ looped-done.1 l)

  pub looped-quiet : (looped s payload strengths out).noise ≡ 0
  looped-quiet = ap (λ (o : Reading). o.noise) looped_is

  -- no number is above 6
  pub looped-six : (looped s payload strengths out).number ≤ 6
  looped-six = rw looped-number (at_most 0 (tests s.a s.e (inputs ∷ output ∷ bad ∷ [])))
