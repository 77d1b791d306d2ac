-- When a call is refused: the pairs that 1 to 3 let pass, the inputs that 4 to 6 do, and the place that 6 carries, exactly.
-- With the first entry of a row, and the first of the numbers below n, that passes a test.
-- Assumes nothing.
use Prim.Native.Nat.{ℕ, zero, suc, ◌+◌, ◌≤◌, ◌<◌}
use native.Mathlib.Nat.{not-suc-le-zero, le_of_suc-le-suc, lt_of_not-le}
use native.Mathlib.Decide.{dec_le}
use native.Mathlib.Omega.{arith}
use native.Mathlib.Numerals.{add-one}
use mathlib.Core.Path.{◌≡◌, refl, sym, ap, ◌∙◌}
use mathlib.Core.Logic.{◌⊎◌, inl, inr, ◌↔◌}
use mathlib.Core.Bool.{Bool, true, false, cond, not}
use mathlib.Core.List.{List, [], ◌∷◌}
use lib.Dec.{T, eqb, ltb}
use lib.ListN.{length, get_or, drop}
use lib.Seq.{drop-cons}
use borrow.Author.Tests.{lt-ltb, le-ltb, ltb-true, ltb-false, eq-eqb, eqb-true, not-false}
use Rattle.nr.specs.Rows.{count, has, first}
use Rattle.nr.specs.Numbers.{K}
use Rattle.nr.specs.Answer.{lengths, first_number, outside, tests, refusal, refusal_of}
use Rattle.nr.proofs.Tests.{is, holds, clash, or_right, either, neither, one_of, has_one}
use Rattle.nr.proofs.Rows.{length-count, get_or-count}
use Rattle.nr.proofs.Chains.{at_most, applies, given_by, later-none, later}
use Rattle.nr.proofs.Construction.{Sized, accepted}

-- ---- 1 to 3

-- document 01's lengths, written out
abbrev pub Listed : ℕ → Type 0
Listed E = (E ≡ 108) ⊎ ((E ≡ 216) ⊎ ((E ≡ 432) ⊎ ((E ≡ 864) ⊎ (E ≡ 1728))))

-- document 01's accepted pairs, written out
pub record Pair (A E : ℕ) : Type 0 where
  pub low : 12 ≤ A
  pub high : A ≤ 140
  pub length : Listed E
  pub room : A + 24 ≤ E

pub listed : (E : ℕ) → Listed E → has E lengths ≡ true
listed E l = is (has E lengths) (has_one E lengths l)

pub which : (E : ℕ) → T (has E lengths) → Listed E
which E t = one_of E lengths t

pub longest : (E : ℕ) → T (has E lengths) → E ≤ 1728
longest E t = elim (which E t) [
  | inl e ↦ omega arith
  | inr (inl e) ↦ omega arith
  | inr (inr (inl e)) ↦ omega arith
  | inr (inr (inr (inl e))) ↦ omega arith
  | inr (inr (inr (inr e))) ↦ omega arith
]

-- none of 1 to 3 applies to these and to no others
pub accepted-exactly : (A E : ℕ) → (refusal A E ≡ 0) ↔ Pair A E
unfolding refusal
accepted-exactly A E = (
  λ e. let c : Sized (K A) E = accepted A E e in
      record { low = omega (arith, c.low); high = omega (arith, c.high); length = which E c.length; room = c.fits },
  λ p. rw (le-ltb A 12 p.low, le-ltb 140 A p.high, listed E p.length, le-ltb E (K A) p.room),
)

-- ---- the first bad entry

module _ {X : Type 0} (bad : X → Bool) where
  -- the place is the input's length exactly if no entry is bad
  pub first-none : (xs : List X) (d : X) → ((k : ℕ) → k < length xs → bad (get_or xs k d) ≡ false) → first bad xs ≡ length xs
  first-none [] d h = refl
  first-none (x ∷ xs) d h = rw (h 0 (omega arith)) (ap suc (first-none xs d (λ k l. h (suc k) (omega arith))))

  -- looked for from place i on
  pub first-hit : (xs : List X) (d : X) (i : ℕ) → i < length xs → bad (get_or xs i d) ≡ true → first bad (drop i xs) ≡ 0
  first-hit xs d i l e = ap (first bad) (drop-cons xs i d l) ∙ ap (λ (b : Bool). cond b 0 (suc (first bad (drop (suc i) xs)))) e

  pub first-miss : (xs : List X) (d : X) (i : ℕ) → i < length xs → bad (get_or xs i d) ≡ false → first bad (drop i xs) ≡ suc (first bad (drop (i + 1) xs))
  first-miss xs d i l e =
      ap (first bad) (drop-cons xs i d l) ∙ ap (λ (b : Bool). cond b 0 (suc (first bad (drop (suc i) xs)))) e
      ∙ ap (λ (j : ℕ). suc (first bad (drop j xs))) (sym (add-one i))

  -- before it no entry is bad
  pub before-first : (xs : List X) (d : X) (k : ℕ) → k < first bad xs → bad (get_or xs k d) ≡ false
  before-first [] d k h = absurd (not-suc-le-zero h)
  before-first (x ∷ xs) d k h = go (bad x) refl k h (before-first xs d)
    where
      go : (b : Bool) → bad x ≡ b → (k : ℕ) → k < cond b 0 (suc (first bad xs)) → ((k : ℕ) → k < first bad xs → bad (get_or xs k d) ≡ false)
          → bad (get_or (x ∷ xs) k d) ≡ false
      go true e k h r = absurd (not-suc-le-zero h)
      go false e zero h r = e
      go false e (suc k) h r = r k (le_of_suc-le-suc h)

  -- it is bad itself, if it is an entry
  pub at_first : (xs : List X) (d : X) → first bad xs < length xs → bad (get_or xs (first bad xs) d) ≡ true
  at_first [] d h = absurd (not-suc-le-zero h)
  at_first (x ∷ xs) d h = go (bad x) refl h (at_first xs d)
    where
      go : (b : Bool) → bad x ≡ b → cond b 0 (suc (first bad xs)) < suc (length xs) → (first bad xs < length xs → bad (get_or xs (first bad xs) d) ≡ true)
          → bad (get_or (x ∷ xs) (cond b 0 (suc (first bad xs))) d) ≡ true
      go true e h r = e
      go false e h r = r (le_of_suc-le-suc h)

  pub first-le : (xs : List X) → first bad xs ≤ length xs
  first-le [] = omega arith
  first-le (x ∷ xs) = go (bad x) (first-le xs)
    where
      go : (b : Bool) → first bad xs ≤ length xs → cond b 0 (suc (first bad xs)) ≤ suc (length xs)
      go true h = omega arith
      go false h = omega arith

-- of the numbers below n, i is the first that passes
pub record FirstBelow (passes : ℕ → Bool) (n i : ℕ) : Type 0 where
  pub below : i < n
  pub itself : passes i ≡ true
  pub before : (j : ℕ) → j < i → passes j ≡ false

pub first-unique : {passes : ℕ → Bool} {n i j : ℕ} → FirstBelow passes n i → FirstBelow passes n j → i ≡ j
first-unique {i = i} {j = j} f g = elim (dec_le i j) [
  | yes l ↦ elim (dec_le j i) [ yes m ↦ omega arith | no m ↦ clash f.itself (g.before i (lt_of_not-le m)) ]
  | no l ↦ clash g.itself (f.before j (lt_of_not-le l))
]

module _ (passes : ℕ → Bool) (n : ℕ) where
  abbrev place : ℕ
  place = first passes (count 0 n)

  at_place : (i : ℕ) → i < n → passes (get_or (count 0 n) i 0) ≡ passes i
  at_place i l = ap passes (get_or-count 0 n i 0 l ∙ omega arith)

  pub first_below : place < n → FirstBelow passes n place
  first_below l = record {
    below = l;
    itself = sym (at_place place l) ∙ at_first passes (count 0 n) 0 (omega (arith, length-count 0 n));
    before = λ j h. sym (at_place j (omega arith)) ∙ before-first passes (count 0 n) 0 j h;
  }

  pub none_below : n ≤ place → (i : ℕ) → i < n → passes i ≡ false
  none_below l i h = sym (at_place i h) ∙ before-first passes (count 0 n) 0 i (omega arith)

-- ---- 1 to 6, in turn

-- i is the number of the first of these that applies: A is outside 12..140; E is none of the lengths; A + 24 is more than E; not
-- Input; not Output; not Entries
pub record InTurn (A E : ℕ) (Input Output Entries : Type 0) (i : ℕ) : Type 0 where
  pub one : (i ≡ 1) ↔ ((A < 12) ⊎ (140 < A))
  pub two : (i ≡ 2) ↔ (((12 ≤ A) × (A ≤ 140)) × (Listed E → ⊥))
  pub three : (i ≡ 3) ↔ (((12 ≤ A) × (A ≤ 140)) × (Listed E × (E < A + 24)))
  pub four : (i ≡ 4) ↔ ((refusal A E ≡ 0) × (Input → ⊥))
  pub five : (i ≡ 5) ↔ ((refusal A E ≡ 0) × (Input × (Output → ⊥)))
  pub six : (i ≡ 6) ↔ ((refusal A E ≡ 0) × (Input × (Output × (Entries → ⊥))))

-- a test that fails exactly where P holds applies exactly where it does not
pub denied : (t : Bool) {P : Type 0} → ((t ≡ false) ↔ P) → (t ≡ true) ↔ (P → ⊥)
denied true d = (λ e p. clash refl (d.1 p), λ n. refl)
denied false d = (λ e. clash e refl, λ n. absurd (n (d.0 refl)))

outside-is : (A : ℕ) → (outside A ≡ true) ↔ ((A < 12) ⊎ (140 < A))
outside-is A = (
  λ e. elim (either (ltb A 12) (ltb 140 A) e) [ inl l ↦ inl (ltb-true A 12 l) | inr h ↦ inr (ltb-true 140 A h) ],
  λ h. elim h [ inl l ↦ rw (lt-ltb A 12 l) | inr h ↦ is (outside A) (or_right (ltb A 12) (ltb 140 A) (holds (lt-ltb 140 A h))) ],
)

inside_is : (A : ℕ) → (outside A ≡ false) ↔ ((12 ≤ A) × (A ≤ 140))
inside_is A = (
  λ e. let n = (neither (ltb A 12) (ltb 140 A)).0 e in (ltb-false A 12 n.0, ltb-false 140 A n.1),
  λ h. rw (le-ltb A 12 h.0, le-ltb 140 A h.1),
)

listed-is : (E : ℕ) → (not (has E lengths) ≡ false) ↔ Listed E
listed-is E = (λ e. which E (holds (not-false (has E lengths) e)), λ l. ap not (listed E l))

-- the tests of 4 to 6 fail exactly where Input, Output and Entries hold
module _ (A E : ℕ) {Input Output Entries : Type 0} (t₄ t₅ t₆ : Bool) (d₄ : (t₄ ≡ false) ↔ Input) (d₅ : (t₅ ≡ false) ↔ Output) (d₆ : (t₆ ≡ false) ↔ Entries) where
  abbrev late : List Bool
  late = t₄ ∷ t₅ ∷ t₆ ∷ []

  abbrev row : List Bool
  row = tests A E late

  pub in-turn : InTurn A E Input Output Entries (first_number 1 row)
  unfolding refusal
  in-turn = record {
    one = (λ e. (outside-is A).0 (applies 0 0 row e), λ h. given_by 0 0 row ((outside-is A).1 h));
    two = (
      λ e. let a = applies 0 1 row e in ((inside_is A).0 a.0, (denied (not (has E lengths)) (listed-is E)).0 a.1),
      λ h. given_by 0 1 row ((inside_is A).1 h.0, (denied (not (has E lengths)) (listed-is E)).1 h.1),
    );
    three = (
      λ e. let a = applies 0 2 row e in ((inside_is A).0 a.0, ((listed-is E).0 a.1.0, ltb-true E (K A) a.1.1)),
      λ h. given_by 0 2 row ((inside_is A).1 h.0, ((listed-is E).1 h.1.0, lt-ltb E (K A) h.1.1)),
    );
    four = (
      λ e. let a = (later 0 (tests A E []) late).0 e in (a.0, (denied t₄ d₄).0 a.1),
      λ h. (later 0 (tests A E []) late).1 (h.0, (denied t₄ d₄).1 h.1),
    );
    five = (
      λ e. let a = (later 1 (tests A E []) late).0 e in (a.0, (d₄.0 a.1.0, (denied t₅ d₅).0 a.1.1)),
      λ h. (later 1 (tests A E []) late).1 (h.0, (d₄.1 h.1.0, (denied t₅ d₅).1 h.1.1)),
    );
    six = (
      λ e. let a = (later 2 (tests A E []) late).0 e in (a.0, (d₄.0 a.1.0, (d₅.0 a.1.1.0, (denied t₆ d₆).0 a.1.1.1))),
      λ h. (later 2 (tests A E []) late).1 (h.0, (d₄.1 h.1.0, (d₅.1 h.1.1.0, (denied t₆ d₆).1 h.1.1.1))),
    );
  }

  -- and 0 where none does
  pub in-turn-none : (first_number 1 row ≡ 0) ↔ ((refusal A E ≡ 0) × (Input × (Output × Entries)))
  unfolding refusal
  in-turn-none = (
    λ e. let n = (later-none (tests A E []) late).0 e in (n.0, (d₄.0 n.1.0, (d₅.0 n.1.1.0, d₆.0 n.1.1.1.0))),
    λ h. (later-none (tests A E []) late).1 (h.0, (d₄.1 h.1.0, (d₅.1 h.1.1.0, (d₆.1 h.1.1.1, tt)))),
  )

-- another number that is each of 1 to 6 exactly where i is
pub carried : {A E : ℕ} {Input Output Entries : Type 0} {i j : ℕ} → ((k : ℕ) → k < 6 → (j ≡ suc k) ↔ (i ≡ suc k))
    → InTurn A E Input Output Entries i → InTurn A E Input Output Entries j
carried {A} {E} {Input} {Output} {Entries} {i} {j} same t = record {
  one = via 0 (omega arith) t.one;
  two = via 1 (omega arith) t.two;
  three = via 2 (omega arith) t.three;
  four = via 3 (omega arith) t.four;
  five = via 4 (omega arith) t.five;
  six = via 5 (omega arith) t.six;
}
  where
    via : {P : Type 0} (k : ℕ) → k < 6 → ((i ≡ suc k) ↔ P) → (j ≡ suc k) ↔ P
    via k l p = (λ e. p.0 ((same k l).0 e), λ h. (same k l).1 (p.1 h))

-- the tests of lengths and entries
pub length-is : (a b : ℕ) → (not (eqb a b) ≡ false) ↔ (a ≡ b)
length-is a b = (λ e. eqb-true a b (not-false (eqb a b) e), λ e. ap not (eq-eqb a b e))

pub no-entry : {X : Type 0} (bad : X → Bool) (input : List X) → (ltb (first bad input) (length input) ≡ false) ↔ (first bad input ≡ length input)
no-entry bad input = (
  λ e. omega (arith, first-le bad input, ltb-false (first bad input) (length input) e),
  λ e. le-ltb (first bad input) (length input) (omega arith),
)

-- ---- a call with one input

module _ {X : Type 0} (A E : ℕ) (bad : X → Bool) (input : List X) (asked : ℕ) (out : List ℕ) (wanted : ℕ) where
  pub refused-in-turn : InTurn A E (length input ≡ asked) (length out ≡ wanted) (first bad input ≡ length input) (refusal_of A E bad input asked out wanted)
  unfolding refusal_of
  refused-in-turn =
      in-turn A E (not (eqb (length input) asked)) (not (eqb (length out) wanted)) (ltb (first bad input) (length input))
      (length-is (length input) asked) (length-is (length out) wanted) (no-entry bad input)

  pub record Passes : Type 0 where
    pub pair : refusal A E ≡ 0
    pub input-length : length input ≡ asked
    pub output-length : length out ≡ wanted
    pub entries : first bad input ≡ length input

  -- none of 1 to 6 applies exactly then
  pub passes-exactly : (refusal_of A E bad input asked out wanted ≡ 0) ↔ Passes
  unfolding refusal_of
  passes-exactly =
      let n = in-turn-none A E (not (eqb (length input) asked)) (not (eqb (length out) wanted)) (ltb (first bad input) (length input))
      (length-is (length input) asked) (length-is (length out) wanted) (no-entry bad input) in (
        λ e. let h = n.0 e in record { pair = h.0; input-length = h.1.0; output-length = h.1.1.0; entries = h.1.1.1 },
        λ p. n.1 (p.pair, (p.input-length, (p.output-length, p.entries))),
      )

  pub at-most-six : refusal_of A E bad input asked out wanted ≤ 6
  unfolding refusal_of
  at-most-six = at_most 0 (tests A E (not (eqb (length input) asked) ∷ not (eqb (length out) wanted) ∷ ltb (first bad input) (length input) ∷ []))

  -- where 6 is given, A and E are accepted and the input has the length that was asked
  pub six-sizes : refusal_of A E bad input asked out wanted ≡ 6 → (refusal A E ≡ 0) × (length input ≡ asked)
  six-sizes e = let s = refused-in-turn.six.0 e in (s.0, s.1.0)

-- place is that of the first bad entry
pub record FirstBad {X : Type 0} (bad : X → Bool) (input : List X) (d : X) (place : ℕ) : Type 0 where
  pub inside : place < length input
  pub itself : bad (get_or input place d) ≡ true
  pub before : (k : ℕ) → k < place → bad (get_or input k d) ≡ false

-- there is one where the place is not the input's length
pub first-bad : {X : Type 0} (bad : X → Bool) (input : List X) (d : X) → (first bad input ≡ length input → ⊥) → FirstBad bad input d (first bad input)
first-bad bad input d n =
    let l : first bad input < length input = omega (arith, first-le bad input, n) in
    record { inside = l; itself = at_first bad input d l; before = before-first bad input d }

pub six-first : {X : Type 0} (A E : ℕ) (bad : X → Bool) (input : List X) (asked : ℕ) (out : List ℕ) (wanted : ℕ) (d : X)
    → refusal_of A E bad input asked out wanted ≡ 6 → FirstBad bad input d (first bad input)
six-first A E bad input asked out wanted d e = first-bad bad input d ((refused-in-turn A E bad input asked out wanted).six.0 e).1.1.1
