-- The transform, once for every n: bits to bits, linear, its own inverse, and 0 where it must stay 0.
-- Assumes nothing.
use Prim.Native.Nat.{ℕ, zero, suc, ◌+◌, ◌-◌, ◌*◌, ◌%◌, ◌^◌, ◌≤◌, ◌<◌}
use native.Mathlib.Nat.{pow-suc, lt_of_not-le, div-eq_of_lt, add-mul-div_right}
use native.Mathlib.Decide.{dec_le}
use native.Mathlib.Omega.{arith}
use mathlib.Core.Path.{◌≡◌, refl, sym, ap, ap₂, ◌∙◌, subst}
use mathlib.Core.Bool.{Bool}
use mathlib.Core.List.{List, ◌++◌}
use lib.Dec.{T}
use lib.ListN.{length, get_or, take, drop, length-append, length-drop, take-append-drop}
use lib.Seq.{length-take-le, get_or-take, get_or-drop, take_at, drop_at}
use lib.Pow.{pow_pos, pow-add, pow_mono}
use Rattle.nr.specs.Rows.{bit, xor, xors, Bits}
use Rattle.nr.specs.Transform.{transform}
use Rattle.nr.proofs.Zip.{bits-append, bits-take, bits-drop, bits-xors, length-xors, get_or-xors, xors-swap, xors-back, take-zip_with, drop-zip_with, zip_with-append}

-- P holds at each position below 2 ^ n
abbrev pub Each : ℕ → (ℕ → Type 0) → Type 0
Each n P = (k : ℕ) → k < 2 ^ n → P k

-- ---- the two halves

module _ (n : ℕ) where
  pub lt-lo : {k : ℕ} → k < 2 ^ n → k < 2 ^ suc n
  lt-lo h = omega (arith, pow-suc 2 n)

  pub lt-hi : {k : ℕ} → k < 2 ^ n → 2 ^ n + k < 2 ^ suc n
  lt-hi h = omega (arith, pow-suc 2 n)

  pub halves : (P : ℕ → Type 0) → Each n P → Each n (λ k. P (2 ^ n + k)) → Each (suc n) P
  halves P lo hi k h = elim (dec_le (2 ^ n) k) [ yes l ↦ up l | no l ↦ lo k (lt_of_not-le l) ]
    where
      up : 2 ^ n ≤ k → P k
      up l =
          let e : 2 ^ n + (k - 2 ^ n) ≡ k = omega arith in
          subst P e (hi (k - 2 ^ n) (omega (arith, pow-suc 2 n)))

module _ {A : Type 0} (n : ℕ) (l : List A) (e : length l ≡ 2 ^ suc n) where
  pub length-lo : length (take (2 ^ n) l) ≡ 2 ^ n
  length-lo = length-take-le (2 ^ n) l (omega (arith, pow-suc 2 n))

  pub length-hi : length (drop (2 ^ n) l) ≡ 2 ^ n
  length-hi = length-drop (2 ^ n) l ∙ omega (arith, pow-suc 2 n)

-- the transforms of the two halves
abbrev pub lo : ℕ → List ℕ → List ℕ
lo n u = transform n (take (2 ^ n) u)

abbrev pub hi : ℕ → List ℕ → List ℕ
hi n u = transform n (drop (2 ^ n) u)

-- ---- bits to bits

pub length-transform : (n : ℕ) (u : List ℕ) → length u ≡ 2 ^ n → length (transform n u) ≡ 2 ^ n
unfolding transform
length-transform zero u e = e
length-transform (suc n) u e =
    let l₁ : length (lo n u) ≡ 2 ^ n = length-transform n _ (length-lo n u e) in
    let l₂ : length (hi n u) ≡ 2 ^ n = length-transform n _ (length-hi n u e) in
    let l : length (xors (lo n u) (hi n u)) ≡ 2 ^ n = length-xors (2 ^ n) (lo n u) (hi n u) l₁ l₂ in
    simp (length-append, l₂, l) (omega (arith, pow-suc 2 n))

pub bits-transform : (n : ℕ) (u : List ℕ) → Bits u → Bits (transform n u)
unfolding transform
bits-transform zero u b = b
bits-transform (suc n) u b =
    let p : Bits (lo n u) = bits-transform n (take (2 ^ n) u) (bits-take (2 ^ n) u b) in
    let q : Bits (hi n u) = bits-transform n (drop (2 ^ n) u) (bits-drop (2 ^ n) u b) in
    search (bits-append, bits-xors)

module _ (n : ℕ) (u : List ℕ) (e : length u ≡ 2 ^ suc n) where
  pub len-lo : length (lo n u) ≡ 2 ^ n
  len-lo = length-transform n (take (2 ^ n) u) (length-lo n u e)

  pub len-hi : length (hi n u) ≡ 2 ^ n
  len-hi = length-transform n (drop (2 ^ n) u) (length-hi n u e)

  len-sum : length (xors (lo n u) (hi n u)) ≡ 2 ^ n
  len-sum = length-xors (2 ^ n) (lo n u) (hi n u) len-lo len-hi

  take-transform : take (2 ^ n) (transform (suc n) u) ≡ xors (lo n u) (hi n u)
  unfolding transform
  take-transform = take_at (xors (lo n u) (hi n u)) (hi n u) (2 ^ n) len-sum

  drop-transform : drop (2 ^ n) (transform (suc n) u) ≡ hi n u
  unfolding transform
  drop-transform = drop_at (xors (lo n u) (hi n u)) (hi n u) (2 ^ n) len-sum

  pub transform-lo : (k : ℕ) → k < 2 ^ n → get_or (transform (suc n) u) k 0 ≡ xor (get_or (lo n u) k 0) (get_or (hi n u) k 0)
  transform-lo k h =
      sym (get_or-take (2 ^ n) (transform (suc n) u) k 0 h) ∙ ap (λ (l : List ℕ). get_or l k 0) take-transform
      ∙ get_or-xors (lo n u) (hi n u) k (omega (arith, len-lo)) (omega (arith, len-hi))

  pub transform-hi : (k : ℕ) → get_or (transform (suc n) u) (2 ^ n + k) 0 ≡ get_or (hi n u) k 0
  transform-hi k = sym (get_or-drop (2 ^ n) (transform (suc n) u) k 0) ∙ ap (λ (l : List ℕ). get_or l k 0) drop-transform

-- ---- the transform of a sum is the sum of the transforms

pub transform-xors : (n : ℕ) (a b : List ℕ) → length a ≡ 2 ^ n → length b ≡ 2 ^ n → transform n (xors a b) ≡ xors (transform n a) (transform n b)
unfolding transform xors
transform-xors zero a b la lb = refl
transform-xors (suc n) a b la lb =
    let l₁ : lo n (xors a b) ≡ xors (lo n a) (lo n b) =
    ap (transform n) (take-zip_with xor (2 ^ n) a b) ∙ transform-xors n _ _ (length-lo n a la) (length-lo n b lb) in
    let l₂ : hi n (xors a b) ≡ xors (hi n a) (hi n b) =
    ap (transform n) (drop-zip_with xor (2 ^ n) a b) ∙ transform-xors n _ _ (length-hi n a la) (length-hi n b lb) in
    ap₂ (λ (p q : List ℕ). xors p q ++ q) l₁ l₂
    ∙ ap (λ (p : List ℕ). p ++ xors (hi n a) (hi n b)) (xors-swap (lo n a) (lo n b) (hi n a) (hi n b))
    ∙ sym (zip_with-append xor (xors (lo n a) (hi n a)) (hi n a) (xors (lo n b) (hi n b)) (hi n b) (len-sum n a la ∙ sym (len-sum n b lb)))

-- ---- it is its own inverse

pub transform-twice : (n : ℕ) (u : List ℕ) → length u ≡ 2 ^ n → Bits u → transform n (transform n u) ≡ u
unfolding transform
transform-twice zero u e b = refl
transform-twice (suc n) u e b =
    let u₁ : List ℕ = take (2 ^ n) u in
    let u₂ : List ℕ = drop (2 ^ n) u in
    let again : transform n (hi n u) ≡ u₂ = transform-twice n u₂ (length-hi n u e) (bits-drop (2 ^ n) u b) in
    ap₂ (λ (p q : List ℕ). xors (transform n p) (transform n q) ++ transform n q) (take-transform n u e) (drop-transform n u e)
    ∙ ap (λ (p : List ℕ). xors p (transform n (hi n u)) ++ transform n (hi n u)) (transform-xors n (lo n u) (hi n u) (len-lo n u e) (len-hi n u e))
    ∙ ap₂ (λ (p q : List ℕ). xors (xors p q) q ++ q) (transform-twice n u₁ (length-lo n u e) (bits-take (2 ^ n) u b)) again
    ∙ ap (λ (p : List ℕ). p ++ u₂) (xors-back u₁ u₂ (length-lo n u e ∙ sym (length-hi n u e)) (bits-take (2 ^ n) u b) (bits-drop (2 ^ n) u b))
    ∙ take-append-drop (2 ^ n) u

-- ---- sets of positions that are closed under clearing, or setting, a bit of the position

abbrev pub Down : ℕ → (ℕ → Bool) → Type 0
Down n S = (j x : ℕ) → bit j x ≡ 0 → x + 2 ^ j < 2 ^ n → T (S (x + 2 ^ j)) → T (S x)

abbrev pub Up : ℕ → (ℕ → Bool) → Type 0
Up n S = (j x : ℕ) → bit j x ≡ 0 → x + 2 ^ j < 2 ^ n → T (S x) → T (S (x + 2 ^ j))

module _ (n : ℕ) where
  -- bit n of a position of the lower half is clear
  bit-top : (k : ℕ) → k < 2 ^ n → bit n k ≡ 0
  bit-top k h = ap (λ (q : ℕ). q % 2) (div-eq_of_lt h)

  -- a lower bit is the same in both halves
  bit-hi : (j x : ℕ) → x + 2 ^ j < 2 ^ n → bit j (2 ^ n + x) ≡ bit j x
  bit-hi j x h =
      let l : j < n = elim (dec_le n j) [ no m ↦ lt_of_not-le m | yes m ↦ absurd (let p : 2 ^ n ≤ 2 ^ j = pow_mono m in let w : ⊥ = omega arith in w) ] in
      let i : ℕ = n - suc j in
      let e : suc i + j ≡ n = omega arith in
      let p : 2 ^ n ≡ 2 ^ suc i * 2 ^ j = ap (λ (y : ℕ). 2 ^ y) (sym e) ∙ pow-add 2 (suc i) j in
      let q : 2 ^ n + x ≡ x + 2 ^ suc i * 2 ^ j = omega arith in
      rw (q, add-mul-div_right x (2 ^ suc i) (pow_pos j)) (omega (arith, pow-suc 2 i))

module _ (n : ℕ) (S : ℕ → Bool) where
  pub down-lo : Down (suc n) S → Down n S
  down-lo d j x b h = d j x b (lt-lo n h)

  pub down-hi : Down (suc n) S → Down n (λ k. S (2 ^ n + k))
  down-hi d j x b h t =
      let e : 2 ^ n + (x + 2 ^ j) ≡ 2 ^ n + x + 2 ^ j = omega arith in
      d j (2 ^ n + x) (bit-hi n j x h ∙ b) (omega (arith, pow-suc 2 n)) (subst (λ (y : ℕ). T (S y)) e t)

  pub down-half : Down (suc n) S → Each n (λ k. T (S (2 ^ n + k)) → T (S k))
  down-half d k h t =
      let e : 2 ^ n + k ≡ k + 2 ^ n = omega arith in
      d n k (bit-top n k h) (omega (arith, pow-suc 2 n)) (subst (λ (y : ℕ). T (S y)) e t)

  up-lo : Up (suc n) S → Up n S
  up-lo d j x b h = d j x b (lt-lo n h)

  up-hi : Up (suc n) S → Up n (λ k. S (2 ^ n + k))
  up-hi d j x b h t =
      let e : 2 ^ n + x + 2 ^ j ≡ 2 ^ n + (x + 2 ^ j) = omega arith in
      subst (λ (y : ℕ). T (S y)) e (d j (2 ^ n + x) (bit-hi n j x h ∙ b) (omega (arith, pow-suc 2 n)) t)

  up-half : Up (suc n) S → Each n (λ k. T (S k) → T (S (2 ^ n + k)))
  up-half d k h t =
      let e : k + 2 ^ n ≡ 2 ^ n + k = omega arith in
      subst (λ (y : ℕ). T (S y)) e (d n k (bit-top n k h) (omega (arith, pow-suc 2 n)) t)

-- what is 0 on a set that is closed upward stays 0 there
pub transform-zero : (n : ℕ) (u : List ℕ) (S : ℕ → Bool) → length u ≡ 2 ^ n → Up n S
    → Each n (λ k. T (S k) → get_or u k 0 ≡ 0) → Each n (λ k. T (S k) → get_or (transform n u) k 0 ≡ 0)
unfolding transform
transform-zero zero u S e up z = z
transform-zero (suc n) u S e up z =
    let z₁ : Each n (λ k. T (S k) → get_or (lo n u) k 0 ≡ 0) =
    transform-zero n (take (2 ^ n) u) S (length-lo n u e) (up-lo n S up)
    (λ k h t. get_or-take (2 ^ n) u k 0 h ∙ z k (lt-lo n h) t) in
    let z₂ : Each n (λ k. T (S (2 ^ n + k)) → get_or (hi n u) k 0 ≡ 0) =
    transform-zero n (drop (2 ^ n) u) (λ k. S (2 ^ n + k)) (length-hi n u e) (up-hi n S up)
    (λ k h t. get_or-drop (2 ^ n) u k 0 ∙ z (2 ^ n + k) (lt-hi n h) t) in
    halves n (λ (k : ℕ). T (S k) → get_or (transform (suc n) u) k 0 ≡ 0)
    (λ k h t. transform-lo n u e k h ∙ ap₂ xor (z₁ k h t) (z₂ k h (up-half n S up k h t)))
    (λ k h t. transform-hi n u e k ∙ z₂ k h t)
