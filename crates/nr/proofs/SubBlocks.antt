-- The sub-block interleaver at every code length 2 ^ (k + 5): J's inverse, that it rises with each bit of the position, and
-- therefore that the punctured positions are closed under clearing bits and the shortened under setting them, for every count.
-- Assumes nothing.
use Prim.Native.Nat.{ℕ, ◌+◌, ◌-◌, ◌*◌, ◌/◌, ◌%◌, ◌^◌, ◌≤◌, ◌<◌}
use native.Mathlib.Nat.{mul_comm, mul-div-mul_left, mul-div_cancel, div-add-mod', mod-lt, mod-eq-sub-div-mul, add-div_right, add-mul-div_left, add-mul-mod_self_left, mul-le-mul_right, add-le-add, le_refl, div-lt_iff_lt-mul}
use native.Mathlib.Omega.{arith}
use mathlib.Core.Path.{◌≡◌, refl, sym, subst, ap, ap₂, ◌∙◌}
use mathlib.Core.Bool.{Bool, true, false, ◌&&◌, ◌||◌}
use mathlib.Core.List.{map}
use lib.Dec.{T, eqb, leb, ltb, eqb→eq, ltb→lt, leb→le}
use lib.ListN.{get_or}
use lib.Arith.{digits_div, digits_mod, digits_lt}
use lib.Pow.{pow_pos, pow-add, shr-shr, pow_mono}
use borrow.Author.Tests.{ltb-true, ltb-false}
use Rattle.nr.specs.Rows.{count, has, place, bit, all}
use Rattle.nr.specs.Construction.{P, J, rank}
use Rattle.nr.proofs.Tests.{left, right, all-count, has-count}
use Rattle.nr.proofs.Rows.{mapped, source, ranged, place-first, length-table, get_or-table}
use Rattle.nr.proofs.Transform.{Down, Up}

-- ---- the 32 sub-blocks: P is a permutation, and a block's place rises when a bit of its number is set

forth : T (all (λ j. eqb (place (get_or P j 0) P) j && ltb (get_or P j 0) 32) (count 0 32))
unfolding P
forth = tt

back : T (all (λ b. eqb (get_or P (place b P) 0) b && ltb (place b P) 32) (count 0 32))
unfolding P
back = tt

rise : T (all (λ e. all (λ b. eqb (bit e b) 1 || leb (place b P) (place (b + 2 ^ e) P)) (count 0 32)) (count 0 5))
unfolding P
rise = tt

pub forth-at : (j : ℕ) → j < 32 → (place (get_or P j 0) P ≡ j) × (get_or P j 0 < 32)
forth-at j h =
    let t = all-count (λ j. eqb (place (get_or P j 0) P) j && ltb (get_or P j 0) 32) 0 32 forth j (omega arith) (omega arith) in
    (eqb→eq (place (get_or P j 0) P) j (left (eqb (place (get_or P j 0) P) j) _ t), ltb→lt (get_or P j 0) 32 (right (eqb (place (get_or P j 0) P) j) _ t))

pub back_at : (b : ℕ) → b < 32 → (get_or P (place b P) 0 ≡ b) × (place b P < 32)
back_at b h =
    let t = all-count (λ b. eqb (get_or P (place b P) 0) b && ltb (place b P) 32) 0 32 back b (omega arith) (omega arith) in
    (eqb→eq (get_or P (place b P) 0) b (left (eqb (get_or P (place b P) 0) b) _ t), ltb→lt (place b P) 32 (right (eqb (get_or P (place b P) 0) b) _ t))

rise-at : (e b : ℕ) → e < 5 → b < 32 → bit e b ≡ 0 → place b P ≤ place (b + 2 ^ e) P
rise-at e b he hb z =
    let t = all-count (λ b. eqb (bit e b) 1 || leb (place b P) (place (b + 2 ^ e) P)) 0 32
    (all-count (λ e. all (λ b. eqb (bit e b) 1 || leb (place b P) (place (b + 2 ^ e) P)) (count 0 32)) 0 5 rise e (omega arith) (omega arith))
    b (omega arith) (omega arith) in
    leb→le (place b P) (place (b + 2 ^ e) P) (rw z at t)

-- ---- J and its inverse

module _ (k : ℕ) where
  size : 2 ^ (k + 5) ≡ 2 ^ k * 32
  size = pow-add 2 k 5

  -- J by the sub-block and the place in it
  pub J-at : (i : ℕ) → J (2 ^ (k + 5)) i ≡ get_or P (i / 2 ^ k) 0 * 2 ^ k + i % 2 ^ k
  unfolding J
  J-at i =
      let u : 32 * i / 2 ^ (k + 5) ≡ i / 2 ^ k = ap (λ x. 32 * i / x) (size ∙ mul_comm (2 ^ k) 32) ∙ mul-div-mul_left i (2 ^ k) (omega arith) in
      let v : 2 ^ (k + 5) / 32 ≡ 2 ^ k = ap (λ x. x / 32) size ∙ mul-div_cancel (2 ^ k) (omega arith) in
      ap₂ (λ x y. get_or P x 0 * y + i % y) u v

  -- there are 32 sub-blocks
  pub inside : (i : ℕ) → i < 2 ^ (k + 5) → i / 2 ^ k < 32
  inside i h = (div-lt_iff_lt-mul (pow_pos k)).1 (subst (λ x. i < x) (size ∙ mul_comm (2 ^ k) 32) h)

  below : (b p : ℕ) → b < 32 → b * 2 ^ k + p % 2 ^ k < 2 ^ (k + 5)
  below b p h = subst (λ x. b * 2 ^ k + p % 2 ^ k < x) (mul_comm 32 (2 ^ k) ∙ sym size) (digits_lt h (mod-lt p (pow_pos k)))

  pub J-lt : (i : ℕ) → i < 2 ^ (k + 5) → J (2 ^ (k + 5)) i < 2 ^ (k + 5)
  J-lt i h = subst (λ x. x < 2 ^ (k + 5)) (sym (J-at i)) (below (get_or P (i / 2 ^ k) 0) i (forth-at (i / 2 ^ k) (inside i h)).1)

  pub rank_lt : (p : ℕ) → p < 2 ^ (k + 5) → rank k p < 2 ^ (k + 5)
  unfolding rank
  rank_lt p h = below (place (p / 2 ^ k) P) p (back_at (p / 2 ^ k) (inside p h)).1

  pub rank-J : (i : ℕ) → i < 2 ^ (k + 5) → rank k (J (2 ^ (k + 5)) i) ≡ i
  unfolding rank
  rank-J i h =
      ap (λ x. place (x / 2 ^ k) P * 2 ^ k + x % 2 ^ k) (J-at i)
      ∙ ap₂ (λ x y. place x P * 2 ^ k + y)
      (digits_div (get_or P (i / 2 ^ k) 0) (mod-lt i (pow_pos k)))
      (digits_mod (get_or P (i / 2 ^ k) 0) (mod-lt i (pow_pos k)))
      ∙ ap (λ x. x * 2 ^ k + i % 2 ^ k) (forth-at (i / 2 ^ k) (inside i h)).0
      ∙ div-add-mod' i (2 ^ k)

  pub J-rank : (p : ℕ) → p < 2 ^ (k + 5) → J (2 ^ (k + 5)) (rank k p) ≡ p
  unfolding rank
  J-rank p h =
      J-at (rank k p)
      ∙ ap₂ (λ x y. get_or P x 0 * 2 ^ k + y)
      (digits_div (place (p / 2 ^ k) P) (mod-lt p (pow_pos k)))
      (digits_mod (place (p / 2 ^ k) P) (mod-lt p (pow_pos k)))
      ∙ ap (λ x. x * 2 ^ k + p % 2 ^ k) (back_at (p / 2 ^ k) (inside p h)).0
      ∙ div-add-mod' p (2 ^ k)

  -- where p stands in J(0) .. J(N-1)
  pub place-J : (p : ℕ) → p < 2 ^ (k + 5) → place p (map (J (2 ^ (k + 5))) (count 0 (2 ^ (k + 5)))) ≡ rank k p
  place-J p h =
      let l : rank k p < 2 ^ (k + 5) = rank_lt p h in
      place-first p (map (J (2 ^ (k + 5))) (count 0 (2 ^ (k + 5)))) (rank k p)
      (subst (λ x. rank k p < x) (sym (length-table (J (2 ^ (k + 5))) 0 (2 ^ (k + 5)))) l)
      (get_or-table (J (2 ^ (k + 5))) (2 ^ (k + 5)) (rank k p) 0 l ∙ J-rank p h)
      (λ j m e.
      let q : J (2 ^ (k + 5)) j ≡ p = sym (get_or-table (J (2 ^ (k + 5))) (2 ^ (k + 5)) j 0 (omega arith)) ∙ e in
      let r : j ≡ rank k p = sym (rank-J j (omega arith)) ∙ ap (rank k) q in
      omega arith)

  -- a bit of the sub-block's number
  rank-high : (e x : ℕ) → e < 5 → bit (k + e) x ≡ 0 → x + 2 ^ (k + e) < 2 ^ (k + 5) → rank k x ≤ rank k (x + 2 ^ (k + e))
  unfolding rank
  rank-high e x he z h =
      let d : (x + 2 ^ (k + e)) / 2 ^ k ≡ x / 2 ^ k + 2 ^ e = ap (λ y. (x + y) / 2 ^ k) (pow-add 2 k e) ∙ add-mul-div_left x (2 ^ e) (pow_pos k) in
      let m : (x + 2 ^ (k + e)) % 2 ^ k ≡ x % 2 ^ k = ap (λ y. (x + y) % 2 ^ k) (pow-add 2 k e) ∙ add-mul-mod_self_left x (2 ^ k) (2 ^ e) in
      let z' : x / 2 ^ k / 2 ^ e % 2 ≡ 0 = ap (λ y. y % 2) (shr-shr x k e) ∙ z in
      rw (d, m) (add-le-add (mul-le-mul_right (2 ^ k) (rise-at e (x / 2 ^ k) he (inside x (omega arith)) z')) (le_refl (x % 2 ^ k)))

-- a bit of the place within a sub-block
rank-low : (c d x : ℕ) → bit c x ≡ 0 → rank (c + (1 + d)) x ≤ rank (c + (1 + d)) (x + 2 ^ c)
unfolding rank
rank-low c d x z =
    let up : (x + 2 ^ c) / 2 ^ c ≡ x / 2 ^ c + 1 = add-div_right x (pow_pos c) in
    let half : (x / 2 ^ c + 1) / 2 ≡ x / 2 ^ c / 2 = omega arith in
    let same : (x + 2 ^ c) / 2 ^ (c + (1 + d)) ≡ x / 2 ^ (c + (1 + d)) =
    sym (shr-shr (x + 2 ^ c) c (1 + d)) ∙ ap (λ y. y / 2 ^ (1 + d)) up ∙ sym (shr-shr (x / 2 ^ c + 1) 1 d)
    ∙ ap (λ y. y / 2 ^ d) half ∙ shr-shr (x / 2 ^ c) 1 d ∙ shr-shr x c (1 + d) in
    let e : x % 2 ^ (c + (1 + d)) ≡ x - x / 2 ^ (c + (1 + d)) * 2 ^ (c + (1 + d)) = mod-eq-sub-div-mul x (2 ^ (c + (1 + d))) in
    let e' : (x + 2 ^ c) % 2 ^ (c + (1 + d)) ≡ x + 2 ^ c - x / 2 ^ (c + (1 + d)) * 2 ^ (c + (1 + d)) =
    mod-eq-sub-div-mul (x + 2 ^ c) (2 ^ (c + (1 + d))) ∙ ap (λ y. x + 2 ^ c - y * 2 ^ (c + (1 + d))) same in
    let le : x % 2 ^ (c + (1 + d)) ≤ (x + 2 ^ c) % 2 ^ (c + (1 + d)) = omega arith in
    rw same (add-le-add (le_refl (place (x / 2 ^ (c + (1 + d))) P * 2 ^ (c + (1 + d)))) le)

-- the inverse rises with each bit of the position
pub rank-rise : (k c x : ℕ) → bit c x ≡ 0 → x + 2 ^ c < 2 ^ (k + 5) → rank k x ≤ rank k (x + 2 ^ c)
rank-rise k c x z h = go (ltb c k) refl
  where
    go : (t : Bool) → ltb c k ≡ t → rank k x ≤ rank k (x + 2 ^ c)
    go true q =
        let l : c < k = ltb-true c k q in
        let e : c + (1 + (k - (c + 1))) ≡ k = omega arith in
        subst (λ y. rank y x ≤ rank y (x + 2 ^ c)) e (rank-low c (k - (c + 1)) x z)
    go false q =
        let l : k ≤ c = ltb-false c k q in
        let e : k + (c - k) ≡ c = omega arith in
        let small : c - k < 5 = below (ltb (c - k) 5) refl in
        subst (λ y. rank k x ≤ rank k (x + 2 ^ y)) e
        (rank-high k (c - k) x small (subst (λ y. bit y x ≡ 0) (sym e) z) (subst (λ y. x + 2 ^ y < 2 ^ (k + 5)) (sym e) h))
      where
        below : (t : Bool) → ltb (c - k) 5 ≡ t → c - k < 5
        below true q' = ltb-true (c - k) 5 q'
        below false q' =
            let m : 5 ≤ c - k = ltb-false (c - k) 5 q' in
            let p : 2 ^ (k + 5) ≤ 2 ^ c = pow_mono (omega arith) in
            let w : ⊥ = omega arith in absurd w

-- ---- sets of positions

module _ (k : ℕ) where
  -- p is one of J(a) .. J(a + l - 1) exactly if its inverse is one of a .. a + l - 1
  pub found : (a l : ℕ) → a + l ≤ 2 ^ (k + 5) → (p : ℕ) → T (has p (map (J (2 ^ (k + 5))) (count a l))) → (a ≤ rank k p) × (rank k p < a + l)
  found a l h p t =
      let s = source (J (2 ^ (k + 5))) (count a l) p t in
      let r = ranged a l s.0 s.1 in
      let e : rank k p ≡ s.0 = ap (rank k) s.2 ∙ rank-J k s.0 (omega arith) in
      omega arith

  pub finds : (a l p : ℕ) → p < 2 ^ (k + 5) → a ≤ rank k p → rank k p < a + l → T (has p (map (J (2 ^ (k + 5))) (count a l)))
  finds a l p h x y =
      subst (λ z. T (has z (map (J (2 ^ (k + 5))) (count a l)))) (J-rank k p h)
      (mapped (J (2 ^ (k + 5))) (count a l) (rank k p) (has-count a l (rank k p) x y))

  pub punctured-down : (M : ℕ) → M ≤ 2 ^ (k + 5) → Down (k + 5) (λ p. has p (map (J (2 ^ (k + 5))) (count 0 M)))
  punctured-down M h j x z l t =
      let r = found 0 M (omega arith) (x + 2 ^ j) t in
      finds 0 M x (omega arith) (omega arith) (omega (arith, rank-rise k j x z l))

  pub shortened-up : (M : ℕ) → M ≤ 2 ^ (k + 5) → Up (k + 5) (λ p. has p (map (J (2 ^ (k + 5))) (count M (2 ^ (k + 5) - M))))
  shortened-up M h j x z l t =
      let r = found M (2 ^ (k + 5) - M) (omega arith) x t in
      let s = rank_lt k (x + 2 ^ j) l in
      finds M (2 ^ (k + 5) - M) (x + 2 ^ j) l (omega (arith, rank-rise k j x z l)) (omega arith)
