-- Signed numbers and rows of them: magnitudes, and what a signed word of 32 bits holds.
-- Assumes nothing.
use Prim.Native.Nat.{ℕ, zero, suc, ◌+◌, ◌-◌, ◌≤◌, ◌^◌}
use native.Mathlib.Omega.{arith}
use mathlib.Core.Path.{◌≡◌, refl}
use mathlib.Core.Bool.{Bool, true, false, cond}
use mathlib.Core.List.{List, [], ◌∷◌, ◌++◌, map}
use lib.Dec.{ltb}
use lib.IntN.{ℤ, pos, negsuc, neg_ℤ, nat_abs, ◌+ℤ◌, ◌-ℤ◌, sub_ℕ, +ℤ_idl}
use lib.ListN.{take, drop, replicate}
use lib.Seq.{get_or-drop}
use mir.Syntax.{w32}
use mir.Val.{SFits, to_z, of_z}
use mir.ValLaws.{to_z-of_z}
use Rattle.nr.specs.Rows.{Within}

pub nat_abs-neg : (z : ℤ) → nat_abs (neg_ℤ z) ≡ nat_abs z
nat_abs-neg (pos zero) = refl
nat_abs-neg (pos (suc n)) = refl
nat_abs-neg (negsuc n) = refl

nat_abs-cond : (t : Bool) (x y : ℤ) {k : ℕ} → nat_abs x ≤ k → nat_abs y ≤ k → nat_abs (cond t x y) ≤ k
nat_abs-cond true x y h l = h
nat_abs-cond false x y h l = l

nat_abs-sub : (a b : ℕ) → nat_abs (sub_ℕ a (suc b)) ≤ a + suc b
nat_abs-sub a b = nat_abs-cond (ltb a (suc b)) (negsuc (suc b - suc a)) (pos (a - suc b)) (omega arith) (omega arith)

pub nat_abs-add : (a b : ℤ) → nat_abs (a +ℤ b) ≤ nat_abs a + nat_abs b
nat_abs-add (pos a) (pos b) = omega arith
nat_abs-add (pos a) (negsuc b) = nat_abs-sub a b
nat_abs-add (negsuc a) (pos b) = let h = nat_abs-sub b a in omega arith
nat_abs-add (negsuc a) (negsuc b) = omega arith

-- ---- parts of a row whose magnitudes have a bound

module _ (b : ℕ) where
  pub within-take : (n : ℕ) (a : List ℤ) → Within b a → Within b (take n a)
  within-take zero a w k = omega arith
  within-take (suc n) [] w k = omega arith
  within-take (suc n) (x ∷ a) w zero = w 0
  within-take (suc n) (x ∷ a) w (suc k) = within-take n a (λ i. w (suc i)) k

  pub within-drop : (n : ℕ) (a : List ℤ) → Within b a → Within b (drop n a)
  within-drop n a w k = rw (get_or-drop n a k (pos 0)) (w (n + k))

  pub within-append : (a c : List ℤ) → Within b a → Within b c → Within b (a ++ c)
  within-append [] c w v k = v k
  within-append (x ∷ a) c w v zero = w 0
  within-append (x ∷ a) c w v (suc k) = within-append a c (λ i. w (suc i)) v k

  pub within-replicate : (n : ℕ) (z : ℤ) → nat_abs z ≤ b → Within b (replicate n z)
  within-replicate zero z h k = omega arith
  within-replicate (suc n) z h zero = h
  within-replicate (suc n) z h (suc k) = within-replicate n z h k

  pub within-map : (f : ℕ → ℤ) (xs : List ℕ) → ((x : ℕ) → nat_abs (f x) ≤ b) → Within b (map f xs)
  within-map f [] h k = omega arith
  within-map f (x ∷ xs) h zero = h x
  within-map f (x ∷ xs) h (suc k) = within-map f xs h k

-- ---- a signed word of 32 bits

pub fits : (z : ℤ) → nat_abs z ≤ 2 ^ 30 → SFits w32 z
fits (pos n) h = record { sfits = omega arith }
fits (negsuc n) h = record { sfits = omega arith }

-- it gives back the number that was put into it
pub back : (z : ℤ) → nat_abs z ≤ 2 ^ 30 → to_z w32 (of_z w32 z) ≡ z
back z h = to_z-of_z w32 z (fits z h)

-- -z as the code has it: 0 - z
pub neg-fits : (z : ℤ) → nat_abs z ≤ 2 ^ 30 → SFits w32 (pos 0 -ℤ to_z w32 (of_z w32 z))
neg-fits z h = rw (back z h, +ℤ_idl) (fits (neg_ℤ z) (rw nat_abs-neg h))

pub neg_is : (z : ℤ) → nat_abs z ≤ 2 ^ 30 → to_z w32 (of_z w32 (pos 0 -ℤ to_z w32 (of_z w32 z))) ≡ neg_ℤ z
neg_is z h = rw (back z h, +ℤ_idl) (back (neg_ℤ z) (rw nat_abs-neg h))

-- a sum as the code has it
module _ (a b : ℤ) (h : nat_abs a + nat_abs b ≤ 2 ^ 30) where
  sum-small : nat_abs (a +ℤ b) ≤ 2 ^ 30
  sum-small = omega (arith, nat_abs-add a b)

  pub sum_fits : SFits w32 (to_z w32 (of_z w32 a) +ℤ to_z w32 (of_z w32 b))
  sum_fits = rw (back a (omega arith), back b (omega arith)) (fits (a +ℤ b) sum-small)

  pub sum_is : to_z w32 (of_z w32 (to_z w32 (of_z w32 a) +ℤ to_z w32 (of_z w32 b))) ≡ a +ℤ b
  sum_is = rw (back a (omega arith), back b (omega arith)) (back (a +ℤ b) sum-small)

  -- and a difference
  sub_small : nat_abs (a -ℤ b) ≤ 2 ^ 30
  sub_small = omega (arith, nat_abs-add a (neg_ℤ b), nat_abs-neg b)

  pub sub-fits : SFits w32 (to_z w32 (of_z w32 a) -ℤ to_z w32 (of_z w32 b))
  sub-fits = rw (back a (omega arith), back b (omega arith)) (fits (a -ℤ b) sub_small)

  pub sub_is : to_z w32 (of_z w32 (to_z w32 (of_z w32 a) -ℤ to_z w32 (of_z w32 b))) ≡ a -ℤ b
  sub_is = rw (back a (omega arith), back b (omega arith)) (back (a -ℤ b) sub_small)
