-- f, g and the decision of one position as the code works them out, from tests of signs and sums of 32-bit words.
-- Assumes nothing.
use Prim.Native.Nat.{ℕ, zero, suc, min, ◌≤◌, ◌^◌}
use native.Mathlib.Omega.{arith}
use mathlib.Core.Path.{◌≡◌, refl, ap, ◌∙◌, subst}
use mathlib.Core.Bool.{true, false, beq, not}
use lib.Dec.{eqb, ltb}
use lib.IntN.{ℤ, pos, negsuc, neg_ℤ, nat_abs, ◌+ℤ◌, ◌-ℤ◌}
use lib.Signed.{lt_z}
use Rattle.std.specs.Int.{int_min}
use Rattle.std.proofs.lemmas.Int.{ints, clamps}
use mir.Syntax.{w32}
use mir.Val.{SFits, to_z, of_z, bool_byte}
use mir.ValLaws.{to_z-of_z}
use Rattle.nr.specs.SuccessiveDecoder.{f, g, decide}
use Rattle.nr.proofs.Ints.{fits, back}
use Rattle.nodes.specs.Small.{Small}

-- ---- what a call says of a signed argument, which it is passed by its bits

pub passed : (P : ℤ → Type 0) (z : ℤ) → SFits w32 z → P (to_z w32 (of_z w32 z)) → P z
passed P z h p = subst P (to_z-of_z w32 z h) p

pub passed₂ : (P : ℤ → ℤ → Type 0) (y z : ℤ) → SFits w32 y → SFits w32 z → P (to_z w32 (of_z w32 y)) (to_z w32 (of_z w32 z)) → P y z
passed₂ P y z hy hz p = passed (λ (x : ℤ). P x z) y hy (passed (λ (x : ℤ). P (to_z w32 (of_z w32 y)) x) z hz p)

pub small-passed : (z : ℤ) → Small z → Small (to_z w32 (of_z w32 z))
small-passed z h = rw (back z (omega arith)) h

pub small-fits : (z : ℤ) → Small z → SFits w32 z
small-fits z h = fits z (omega arith)

-- ---- f by the signs, at the smaller magnitude

-- the smaller magnitude as the library's methods give it
pub least : (a b x y s : ℤ) → Small a → Small b → x ≡ pos (nat_abs (to_z w32 (of_z w32 a))) → y ≡ pos (nat_abs (to_z w32 (of_z w32 b)))
    → s ≡ int_min (to_z w32 (of_z w32 x)) (to_z w32 (of_z w32 y)) → s ≡ pos (min (nat_abs a) (nat_abs b))
least a b x y s ha hb ex ey e =
    let p : x ≡ pos (nat_abs a) = rw (back a (omega arith)) at ex in
    let q : y ≡ pos (nat_abs b) = rw (back b (omega arith)) at ey in
    let r = rw (p, q, back (pos (nat_abs a)) (omega arith), back (pos (nat_abs b)) (omega arith)) at e in
    omega (arith, ints, clamps)

none-below : (n : ℕ) → ltb n 0 ≡ false
none-below n = grind arith

pub same-signs : (a b : ℤ) → beq (lt_z a (pos 0)) (lt_z b (pos 0)) ≡ true → pos (min (nat_abs a) (nat_abs b)) ≡ f a b
unfolding f
same-signs (pos m) (pos n) e = refl
same-signs (pos m) (negsuc n) e = let h = rw (none-below m) at e in cc
same-signs (negsuc m) (pos n) e = let h = rw (none-below n) at e in cc
same-signs (negsuc m) (negsuc n) e = refl

pub other-signs : (a b : ℤ) → beq (lt_z a (pos 0)) (lt_z b (pos 0)) ≡ false → neg_ℤ (pos (min (nat_abs a) (nat_abs b))) ≡ f a b
unfolding f
other-signs (pos m) (pos n) e = let h = rw (none-below m, none-below n) at e in cc
other-signs (pos m) (negsuc n) e = refl
other-signs (negsuc m) (pos n) e = refl
other-signs (negsuc m) (negsuc n) e = cc

pub least-small : (s a b : ℤ) → s ≡ pos (min (nat_abs a) (nat_abs b)) → Small a → nat_abs s ≤ 2 ^ 30
least-small s a b e h = omega (arith, ap nat_abs e)

-- ---- g

pub g-zero : (v : ℕ) (a b : ℤ) → v ≡ 0 → b +ℤ a ≡ g v a b
unfolding g
g-zero zero a b h = refl
g-zero (suc v) a b h = absurd (omega arith)

pub g-one : (v : ℕ) (a b : ℤ) → (v ≡ 0 → ⊥) → b -ℤ a ≡ g v a b
unfolding g
g-one zero a b h = absurd (h refl)
g-one (suc v) a b h = refl

-- ---- the decision

pub decide-frozen : (mark : ℕ) (x : ℤ) → mark ≡ 0 → bool_byte (not (eqb mark 0)) ≡ decide mark x
unfolding decide
decide-frozen zero x e = refl
decide-frozen (suc mark) x e = absurd (omega arith)

pub decide-sign : (mark : ℕ) (x : ℤ) → SFits w32 x → (mark ≡ 0 → ⊥) → bool_byte (lt_z (to_z w32 (of_z w32 x)) (pos 0)) ≡ decide mark x
unfolding decide
decide-sign mark x f ne = ap (λ (z : ℤ). bool_byte (lt_z z (pos 0))) (to_z-of_z w32 x f) ∙ go mark x ne
  where
    go : (mark : ℕ) (x : ℤ) → (mark ≡ 0 → ⊥) → bool_byte (lt_z x (pos 0)) ≡ decide mark x
    go zero x h = absurd (h refl)
    go (suc mark) (pos n) h = ap bool_byte (none-below n)
    go (suc mark) (negsuc n) h = refl
