-- What is gathered for a place that was sent is the sum of the values that were sent from it, and keeps their common sign.
-- Assumes nothing.
use Prim.Native.Nat.{ℕ, zero, suc, ◌+◌, ◌-◌, ◌*◌, ◌/◌, ◌%◌, ◌≤◌, ◌<◌}
use native.Mathlib.Nat.{suc-add, suc-mul, not-suc-le-zero, mod-lt, mod-eq_of_lt, add-mod_left, div-add-mod', lt_of_not-le}
use native.Mathlib.Decide.{dec_le}
use native.Mathlib.Omega.{arith}
use mathlib.Core.Path.{◌≡◌, refl, sym, subst, ap, ap₂, ◌∙◌}
use mathlib.Core.Logic.{◌⊎◌, inl, inr}
use mathlib.Core.Bool.{Bool, true, false, cond}
use mathlib.Core.List.{List, [], ◌∷◌, ◌++◌}
use lib.Dec.{eqb}
use lib.IntN.{ℤ, pos, ◌+ℤ◌, +ℤ_idl, +ℤ_idr, +ℤ_assoc}
use lib.ListN.{length, get_or, take, drop, replicate, length-take, length-drop, length-replicate, get_or-replicate, take-append-drop, drop_of_length-le, get_or-append, get_or-eq_default}
use borrow.Author.Tests.{eq-eqb, ne_eqb, eqb-true}
use Rattle.nr.specs.declared.RateMatching.{RateMatching}
use Rattle.nr.specs.declared.RateMatching.TheVariants.{Repetition, Puncturing, Shortening}
use Rattle.nr.specs.RateMatching.{selected, Fits}
use Rattle.nr.specs.SuccessiveDecoder.{plus, add_up, certain, gather}
use Rattle.nr.proofs.Rows.{get_or-behind}
use Rattle.nr.proofs.SuccessiveDecoder.{Sign}

-- of a row whose places are k, k + 1, ..: the sum of the values with `from` of the place equal to i
unfoldable pub added : (ℕ → ℕ) → ℕ → ℕ → List ℤ → ℤ
added from i k [] = pos 0
added from i k (x ∷ row) = cond (eqb (from k) i) x (pos 0) +ℤ added from i (suc k) row

shift : (k j : ℕ) → k + suc j ≡ suc k + j
shift k j = omega arith

zero_more : (k : ℕ) → k ≡ k + 0
zero_more k = omega arith

pub zero-first : (j : ℕ) → j ≡ 0 + j
zero-first j = omega arith

module _ (from : ℕ → ℕ) (i : ℕ) where
  added_none : (k : ℕ) (row : List ℤ) → ((j : ℕ) → j < length row → from (k + j) ≡ i → ⊥) → added from i k row ≡ pos 0
  unfolding added
  added_none k [] never = refl
  added_none k (x ∷ row) never =
      rw (ne_eqb (from k) i (λ q. never 0 (omega arith) (ap from (sym (zero_more k)) ∙ q)))
      (+ℤ_idl (added from i (suc k) row) ∙ added_none (suc k) row (λ j h q. never (suc j) (omega arith) (ap from (shift k j) ∙ q)))

  added-one : (k : ℕ) (row : List ℤ) (j : ℕ) → j < length row → from (k + j) ≡ i
      → ((j' : ℕ) → j' < length row → from (k + j') ≡ i → j' ≡ j) → added from i k row ≡ get_or row j (pos 0)
  unfolding added
  added-one k [] j h e only = absurd (not-suc-le-zero h)
  added-one k (x ∷ row) zero h e only =
      rw (eq-eqb (from k) i (ap from (zero_more k) ∙ e))
      (ap (λ (y : ℤ). x +ℤ y) (added_none (suc k) row (λ j l w. let z = only (suc j) (omega arith) (ap from (shift k j) ∙ w) in let b : ⊥ = omega arith in b)) ∙ +ℤ_idr x)
  added-one k (x ∷ row) (suc j) h e only =
      rw (ne_eqb (from k) i (λ w. let z = only 0 (omega arith) (ap from (sym (zero_more k)) ∙ w) in let b : ⊥ = omega arith in b))
      (+ℤ_idl (added from i (suc k) row)
      ∙ added-one (suc k) row j (omega arith) (ap from (sym (shift k j)) ∙ e)
      (λ j' l w. let z = only (suc j') (omega arith) (ap from (shift k j') ∙ w) in omega arith))

  added-append : (k : ℕ) (a b : List ℤ) → added from i k (a ++ b) ≡ added from i k a +ℤ added from i (k + length a) b
  unfolding added
  added-append k [] b = ap (λ (m : ℕ). added from i m b) (zero_more k) ∙ sym (+ℤ_idl (added from i (k + 0) b))
  added-append k (x ∷ a) b =
      let e : suc k + length a ≡ k + suc (length a) = omega arith in
      ap (λ (y : ℤ). cond (eqb (from k) i) x (pos 0) +ℤ y) (added-append (suc k) a b ∙ ap (λ (m : ℕ). added from i (suc k) a +ℤ added from i m b) e)
      ∙ sym (+ℤ_assoc (cond (eqb (from k) i) x (pos 0)) (added from i (suc k) a) (added from i (k + suc (length a)) b))

  added-shift : (k k' : ℕ) (row : List ℤ) → ((j : ℕ) → from (k + j) ≡ from (k' + j)) → added from i k row ≡ added from i k' row
  unfolding added
  added-shift k k' [] e = refl
  added-shift k k' (x ∷ row) e =
      ap₂ (λ (m : ℕ) (y : ℤ). cond (eqb m i) x (pos 0) +ℤ y) (ap from (zero_more k) ∙ e 0 ∙ ap from (sym (zero_more k')))
      (added-shift (suc k) (suc k') row (λ j. ap from (sym (shift k j)) ∙ e (suc j) ∙ ap from (shift k' j)))

pub plus-at : (a b : List ℤ) (i : ℕ) → get_or (plus a b) i (pos 0) ≡ get_or a i (pos 0) +ℤ get_or b i (pos 0)
plus-at [] b i = sym (+ℤ_idl (get_or b i (pos 0)))
plus-at (x ∷ a) [] i = sym (+ℤ_idr (get_or (x ∷ a) i (pos 0)))
plus-at (x ∷ a) (y ∷ b) zero = refl
plus-at (x ∷ a) (y ∷ b) (suc i) = plus-at a b i

module _ (N : ℕ) (i : ℕ) (h : i < N) where
  abbrev from : ℕ → ℕ
  from k = k % N

  -- within one piece the place is its own remainder
  piece : (row : List ℤ) → length row ≤ N → added from i 0 row ≡ get_or row i (pos 0)
  piece row l = elim (dec_le (length row) i) [
    | yes m ↦ added_none from i 0 row (λ j b e. let q : j ≡ i = sym (mod-eq_of_lt (omega arith)) ∙ ap from (zero-first j) ∙ e in let w : ⊥ = omega arith in w)
        ∙ sym (get_or-eq_default row (pos 0) m)
    | no m ↦ added-one from i 0 row i (lt_of_not-le m) (ap from (sym (zero-first i)) ∙ mod-eq_of_lt h)
        (λ j b e. sym (mod-eq_of_lt (omega arith)) ∙ ap from (zero-first j) ∙ e)
  ]

  add_up-adds : (pieces : ℕ) (row : List ℤ) → length row ≤ pieces * N → get_or (add_up N pieces row) i (pos 0) ≡ added from i 0 row
  unfolding add_up added
  add_up-adds zero [] l = refl
  add_up-adds zero (x ∷ row) l = let w : ⊥ = omega arith in absurd w
  add_up-adds (suc pieces) row l =
      plus-at (take N row) (add_up N pieces (drop N row)) i
      ∙ ap₂ ◌+ℤ◌ (sym (piece (take N row) (omega (arith, length-take N row)))) (add_up-adds pieces (drop N row) (omega (arith, length-drop N row, suc-mul pieces N)) ∙ sym later)
      ∙ sym (added-append from i 0 (take N row) (drop N row))
      ∙ ap (added from i 0) (take-append-drop N row)
    where
      -- the places of the next pieces have the remainders of those from 0 on
      later : added from i (0 + length (take N row)) (drop N row) ≡ added from i 0 (drop N row)
      later = elim (dec_le N (length row)) [
        | yes m ↦ added-shift from i (0 + length (take N row)) 0 (drop N row) (λ j.
            let e : 0 + length (take N row) + j ≡ N + j = omega (arith, length-take N row) in
            ap from e ∙ add-mod_left N j ∙ ap from (zero-first j))
        | no m ↦
            let e : drop N row ≡ [] = drop_of_length-le row {i = N} (omega (arith, lt_of_not-le m)) in
            rw e
      ]

-- a place that a value was sent from has the sum of all values that were
pub gather-adds : (kind : RateMatching) (N E : ℕ) (row : List ℤ) → length row ≡ E → Fits kind N E
    → (i k : ℕ) → i < N → k < E → selected kind N E k ≡ i
    → get_or (gather kind N E row) i (pos 0) ≡ added (selected kind N E) i 0 row
unfolding gather selected
gather-adds Repetition N E row l fits i k h hk e = add_up-adds N i h (suc (E / N)) row enough
  where
    enough : length row ≤ suc (E / N) * N
    enough = omega (arith, suc-mul (E / N) N, div-add-mod' E N, mod-lt E {m = N} (omega arith))
gather-adds Puncturing N E row l fits i k h hk e =
    get_or-behind (replicate (N - E) (pos 0)) row (N - E) i (pos 0) (length-replicate (N - E) (pos 0)) (omega arith)
    ∙ ap (λ (j : ℕ). get_or row j (pos 0)) (back i k e)
    ∙ sym (added-one (λ k. k + (N - E)) i 0 row k (omega arith) (ap (λ (j : ℕ). j + (N - E)) (sym (zero-first k)) ∙ e) (λ j b w. omega arith))
  where
    back : (i k : ℕ) → k + (N - E) ≡ i → i - (N - E) ≡ k
    back i k e = omega arith
gather-adds Shortening N E row l fits i k h hk e =
    get_or-append row (replicate (N - E) certain) (pos 0) i (omega arith)
    ∙ sym (added-one (λ k. k) i 0 row i (omega arith) (sym (zero-first i)) (λ j b w. omega arith))

-- ---- a place that is never sent

pub gather-punctured : (N E : ℕ) (row : List ℤ) (i : ℕ) → i < N - E → get_or (gather Puncturing N E row) i (pos 0) ≡ pos 0
unfolding gather
gather-punctured N E row i h =
    get_or-append (replicate (N - E) (pos 0)) row (pos 0) i (subst (λ (m : ℕ). i < m) (sym (length-replicate (N - E) (pos 0))) h)
    ∙ get_or-replicate (N - E) i (pos 0) (pos 0) h

pub gather-shortened : (N E : ℕ) (row : List ℤ) (i : ℕ) → length row ≡ E → E ≤ i → i < N → get_or (gather Shortening N E row) i (pos 0) ≡ certain
unfolding gather
gather-shortened N E row i e l h =
    get_or-behind row (replicate (N - E) certain) E i (pos 0) e l ∙ get_or-replicate (N - E) (i - E) certain (pos 0) (omega arith)

-- ---- signs

sign-sum : {x y : ℤ} {d : ℕ} → Sign x d → Sign y d → Sign (x +ℤ y) d
sign-sum (Sign.plus) (Sign.plus) = rw suc-add Sign.plus
sign-sum (Sign.minus) (Sign.minus) = Sign.minus

-- a sum of values with one sign is 0 or has it
abbrev Agrees : ℤ → ℕ → Type 0
Agrees x d = (x ≡ pos 0) ⊎ Sign x d

sign-more : (x y : ℤ) (d : ℕ) → Sign x d → Agrees y d → Sign (x +ℤ y) d
sign-more x y d s (inl e) = subst (λ (z : ℤ). Sign z d) (sym (ap (λ (z : ℤ). x +ℤ z) e ∙ +ℤ_idr x)) s
sign-more x y d s (inr t) = sign-sum s t

module _ (from : ℕ → ℕ) (i d : ℕ) where
  -- each value from i has the sign of d
  abbrev Signed : ℕ → List ℤ → Type 0
  Signed k row = (j : ℕ) → j < length row → from (k + j) ≡ i → Sign (get_or row j (pos 0)) d

  signed_rest : (k : ℕ) (x : ℤ) (row : List ℤ) → Signed k (x ∷ row) → Signed (suc k) row
  signed_rest k x row s j h e = s (suc j) (omega arith) (ap from (shift k j) ∙ e)

  added-agrees : (k : ℕ) (row : List ℤ) → Signed k row → Agrees (added from i k row) d
  unfolding added
  added-agrees k [] s = inl refl
  added-agrees k (x ∷ row) s = go (eqb (from k) i) refl (added-agrees (suc k) row (signed_rest k x row s))
    where
      go : (b : Bool) → eqb (from k) i ≡ b → Agrees (added from i (suc k) row) d → Agrees (cond b x (pos 0) +ℤ added from i (suc k) row) d
      go true e r = inr (sign-more x (added from i (suc k) row) d (s 0 (omega arith) (ap from (sym (zero_more k)) ∙ eqb-true (from k) i e)) r)
      go false e r = subst (λ (z : ℤ). Agrees z d) (sym (+ℤ_idl (added from i (suc k) row))) r

  -- and has it if there is such a value
  pub added-sign : (k : ℕ) (row : List ℤ) → Signed k row → (j : ℕ) → j < length row → from (k + j) ≡ i → Sign (added from i k row) d
  unfolding added
  added-sign k [] s j h e = absurd (not-suc-le-zero h)
  added-sign k (x ∷ row) s zero h e =
      let q : from k ≡ i = ap from (zero_more k) ∙ e in
      rw (eq-eqb (from k) i q) (sign-more x (added from i (suc k) row) d (s 0 h e) (added-agrees (suc k) row (signed_rest k x row s)))
  added-sign k (x ∷ row) s (suc j) h e = go (eqb (from k) i) refl (added-sign (suc k) row (signed_rest k x row s) j (omega arith) (ap from (sym (shift k j)) ∙ e))
    where
      go : (b : Bool) → eqb (from k) i ≡ b → Sign (added from i (suc k) row) d → Sign (cond b x (pos 0) +ℤ added from i (suc k) row) d
      go true w r = sign-sum (s 0 (omega arith) (ap from (sym (zero_more k)) ∙ eqb-true (from k) i w)) r
      go false w r = subst (λ (z : ℤ). Sign z d) (sym (+ℤ_idl (added from i (suc k) row))) r
