-- Values leave room to double at each halving, so that no sum on the way down leaves its 32 bits.
-- Assumes nothing.
use Prim.Native.Nat.{ℕ, zero, suc, min, ◌+◌, ◌*◌, ◌≤◌, ◌<◌, ◌^◌}
use native.Mathlib.Nat.{mul_comm, mul_assoc, add-mul, mul-le-mul_left, mul-le-mul_right, le_trans}
use native.Mathlib.Decide.{dec_le}
use native.Mathlib.Omega.{arith}
use mathlib.Core.Path.{◌≡◌, sym, ap, ◌∙◌}
use mathlib.Core.List.{List}
use lib.IntN.{ℤ, pos, negsuc, neg_ℤ, nat_abs}
use lib.ListN.{length, get_or, take, drop, length-drop, get_or-eq_default}
use lib.Seq.{get_or-take, get_or-drop, length-take-le}
use Rattle.nr.specs.SuccessiveDecoder.{f, g, fs, gs}
use Rattle.nr.specs.Rows.{Within}
use Rattle.nr.proofs.Ints.{nat_abs-neg, nat_abs-add}
use Rattle.nr.proofs.SuccessiveDecoder.{get_or-fs, get_or-gs}
use Rattle.successive_decoder.specs.Levels.{Bound}

f-abs : (a b : ℤ) → nat_abs (f a b) ≤ nat_abs a
unfolding f
f-abs (pos a) (pos b) = omega arith
f-abs (pos a) (negsuc b) = omega (arith, nat_abs-neg (pos (min a (suc b))))
f-abs (negsuc a) (pos b) = omega (arith, nat_abs-neg (pos (min (suc a) b)))
f-abs (negsuc a) (negsuc b) = omega arith

g-abs : (v : ℕ) (a b : ℤ) → nat_abs (g v a b) ≤ nat_abs b + nat_abs a
unfolding g
g-abs zero a b = nat_abs-add b a
g-abs (suc v) a b = omega (arith, nat_abs-add b (neg_ℤ a), nat_abs-neg a)

twice : (x h : ℕ) → x * (2 * h) ≡ 2 * (x * h)
twice x h = sym (mul_assoc x 2 h) ∙ ap (λ (y : ℕ). y * h) (mul_comm x 2) ∙ mul_assoc 2 x h

-- a row of 2h values, and the rows of h values that f and g make of its halves
module _ (row : List ℤ) (h : ℕ) (size : length row ≡ 2 * h) (bound : Bound (2 * h) row) where
  pub bound-within : 1 ≤ h → Within (2 ^ 28) row
  bound-within p k = elim (dec_le (2 * h) k) [
    | yes m ↦
        let l : length row ≤ k = omega (arith, m) in
        omega (arith, ap nat_abs (get_or-eq_default row (pos 0) l))
    | no m ↦
        let x : ℕ = nat_abs (get_or row k (pos 0)) in
        let z : x * 2 ≤ x * (2 * h) = mul-le-mul_left x (omega arith) in
        omega (arith, bound k (omega (arith, m)))
  ]

  half-bound : (k : ℕ) → k < 2 * h → nat_abs (get_or row k (pos 0)) * h ≤ 2 ^ 28
  half-bound k l = omega (arith, bound k l, twice (nat_abs (get_or row k (pos 0))) h)

  abbrev a : List ℤ
  a = take h row

  abbrev b : List ℤ
  b = drop h row

  length-a : length a ≡ h
  length-a = length-take-le h row (omega arith)

  length-b : length b ≡ h
  length-b = length-drop h row ∙ omega arith

  a-bound : (k : ℕ) → k < h → nat_abs (get_or a k (pos 0)) * h ≤ 2 ^ 28
  a-bound k l = rw (get_or-take h row k (pos 0) l) (half-bound k (omega arith))

  b-bound : (k : ℕ) → k < h → nat_abs (get_or b k (pos 0)) * h ≤ 2 ^ 28
  b-bound k l = rw (get_or-drop h row k (pos 0)) (half-bound (h + k) (omega arith))

  pub bound-f : Bound h (fs a b)
  bound-f k l =
      rw (get_or-fs a b k (omega (arith, length-a)) (omega (arith, length-b)))
      (omega (arith, mul-le-mul_right h (f-abs (get_or a k (pos 0)) (get_or b k (pos 0))), a-bound k l))

  pub bound-g : (v : List ℕ) → length v ≡ h → Bound h (gs v a b)
  bound-g v e k l =
      rw (get_or-gs v a b k (omega arith) (omega (arith, length-a)) (omega (arith, length-b)))
      (omega (
        arith,
        mul-le-mul_right h (g-abs (get_or v k 0) (get_or a k (pos 0)) (get_or b k (pos 0))),
        add-mul (nat_abs (get_or b k (pos 0))) (nat_abs (get_or a k (pos 0))) h,
        a-bound k l,
        b-bound k l,
      ))

-- at the top
pub bound-top : (row : List ℤ) (M : ℕ) → M ≤ 2 ^ 9 → Within (2 ^ 20) row → Bound M row
bound-top row M l w k h = le_trans (mul-le-mul_right M (w k)) (mul-le-mul_left (2 ^ 20) l)
