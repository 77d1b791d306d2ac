-- The successive decoder, once for every n: it finds the word of every noiseless row, with positions that were never sent;
-- and what it gives on any row.
-- Assumes nothing.
use Prim.Native.Nat.{ℕ, zero, suc, ◌+◌, ◌-◌, ◌^◌, ◌≤◌, ◌<◌}
use native.Mathlib.Nat.{pow-suc, zero-min, suc-min-suc, suc-add, suc-ne-zero, suc_inj, not-suc-le-zero, le_of_suc-le-suc}
use native.Mathlib.Omega.{arith}
use mathlib.Core.Path.{◌≡◌, refl, sym, ap, ◌∙◌, subst}
use mathlib.Core.Bool.{Bool, true, false}
use mathlib.Core.List.{List, [], ◌∷◌, ◌++◌}
use lib.Dec.{T}
use lib.IntN.{ℤ, pos, negsuc, +ℤ_idr}
use lib.ListN.{length, get_or, take, drop, length-append, take-append-drop, get_or-append}
use lib.Seq.{get_or-take, get_or-drop}
use Rattle.nr.specs.Rows.{xor, Bits}
use Rattle.nr.specs.Transform.{transform}
use Rattle.nr.specs.SuccessiveDecoder.{f, g, fs, gs, decide, successive}
use Rattle.nr.proofs.Rows.{get_or-behind}
use Rattle.nr.proofs.Zip.{length-zip_with, get_or-zip_with, bits-append, bits-take, bits-drop, bits-replicate}
use Rattle.nr.proofs.Transform.{Each, lt-lo, lt-hi, halves, length-lo, length-hi, lo, hi, len-lo, bits-transform, transform-lo, transform-hi, Down, down-lo, down-hi, down-half}

-- ---- one place

-- a soft value that is not 0 and has the sign of the bit
pub data Sign : ℤ → ℕ → Type 0 where
  plus : {x : ℕ} → Sign (pos (suc x)) 0
  minus : {x : ℕ} → Sign (negsuc x) 1

-- noiseless at one position: 0 where it was never sent, else with the bit's sign
abbrev pub Soft : Bool → ℤ → ℕ → Type 0
Soft true x d = x ≡ pos 0
Soft false x d = Sign x d

f-zero : (y : ℤ) → f (pos 0) y ≡ pos 0
unfolding f
f-zero (pos y) = rw zero-min
f-zero (negsuc y) = rw zero-min

f-sign : {x y : ℤ} {c d : ℕ} → Sign x c → Sign y d → Sign (f x y) (xor c d)
unfolding f
f-sign plus plus = rw suc-min-suc plus
f-sign plus minus = rw suc-min-suc minus
f-sign minus plus = rw suc-min-suc minus
f-sign minus minus = rw suc-min-suc plus

g-zero : (v : ℕ) (y : ℤ) → g v (pos 0) y ≡ y
unfolding g
g-zero zero y = +ℤ_idr y
g-zero (suc v) y = +ℤ_idr y

g-sign : {x y : ℤ} {c d : ℕ} → Sign x c → Sign y d → Sign (g (xor c d) x y) d
unfolding g
g-sign plus plus = rw suc-add plus
g-sign plus minus = minus
g-sign minus plus = rw suc-add plus
g-sign minus minus = minus

xor-back : (p q : ℕ) → p ≤ 1 → q ≤ 1 → xor (xor p q) q ≡ p
xor-back p q hp hq = omega arith

-- f keeps what the first half's place knows, g what the second's does: if b was never sent, neither was a
f-soft : (s₁ s₂ : Bool) (x y : ℤ) (p q : ℕ) → p ≤ 1 → q ≤ 1 → (T s₂ → T s₁) → Soft s₁ x (xor p q) → Soft s₂ y q → Soft s₁ (f x y) p
f-soft true s₂ x y p q hp hq sub sx sy = ap (λ (z : ℤ). f z y) sx ∙ f-zero y
f-soft false true x y p q hp hq sub sx sy = absurd (sub tt)
f-soft false false x y p q hp hq sub sx sy = subst (λ (b : ℕ). Sign (f x y) b) (xor-back p q hp hq) (f-sign sx sy)

g-soft : (s₁ s₂ : Bool) (x y : ℤ) (p q : ℕ) → p ≤ 1 → q ≤ 1 → (T s₂ → T s₁) → Soft s₁ x (xor p q) → Soft s₂ y q → Soft s₂ (g p x y) q
g-soft true s₂ x y p q hp hq sub sx sy = subst (λ (z : ℤ). Soft s₂ z q) (sym (ap (λ (z : ℤ). g p z y) sx ∙ g-zero p y)) sy
g-soft false true x y p q hp hq sub sx sy = absurd (sub tt)
g-soft false false x y p q hp hq sub sx sy = subst (λ (v : ℕ). Sign (g v x y) q) (xor-back p q hp hq) (g-sign sx sy)

leaf : (mark : ℕ) (s : Bool) (x : ℤ) (d : ℕ) → (mark ≡ 0 → d ≡ 0) → (T s → mark ≡ 0) → Soft s x d → decide mark x ≡ d
unfolding decide
leaf zero s x d z a w = sym (z refl)
leaf (suc m) true x d z a w = absurd (suc-ne-zero m (a tt))
leaf (suc m) false x d z a w = go w
  where
    go : {x : ℤ} {d : ℕ} → Sign x d → decide (suc m) x ≡ d
    go plus = refl
    go minus = refl

-- ---- rows

pub length-fs : (n : ℕ) (a b : List ℤ) → length a ≡ n → length b ≡ n → length (fs a b) ≡ n
unfolding fs
length-fs n a b = length-zip_with f a b n

pub get_or-fs : (a b : List ℤ) (k : ℕ) → k < length a → k < length b → get_or (fs a b) k (pos 0) ≡ f (get_or a k (pos 0)) (get_or b k (pos 0))
unfolding fs
get_or-fs a b k l l' = get_or-zip_with f a b k (pos 0) (pos 0) (pos 0) l l'

pub length-gs : (n : ℕ) (v : List ℕ) (a b : List ℤ) → length v ≡ n → length a ≡ n → length b ≡ n → length (gs v a b) ≡ n
unfolding gs
length-gs n [] a b e e' e'' = e
length-gs n (v ∷ vs) [] b e e' e'' = e'
length-gs n (v ∷ vs) (x ∷ a) [] e e' e'' = e''
length-gs zero (v ∷ vs) (x ∷ a) (y ∷ b) e e' e'' = absurd (suc-ne-zero (length a) e')
length-gs (suc n) (v ∷ vs) (x ∷ a) (y ∷ b) e e' e'' = ap suc (length-gs n vs a b (suc_inj e) (suc_inj e') (suc_inj e''))

pub get_or-gs : (v : List ℕ) (a b : List ℤ) (k : ℕ) → k < length v → k < length a → k < length b
    → get_or (gs v a b) k (pos 0) ≡ g (get_or v k 0) (get_or a k (pos 0)) (get_or b k (pos 0))
unfolding gs
get_or-gs [] a b k l l' l'' = absurd (not-suc-le-zero l)
get_or-gs (v ∷ vs) [] b k l l' l'' = absurd (not-suc-le-zero l')
get_or-gs (v ∷ vs) (x ∷ a) [] k l l' l'' = absurd (not-suc-le-zero l'')
get_or-gs (v ∷ vs) (x ∷ a) (y ∷ b) zero l l' l'' = refl
get_or-gs (v ∷ vs) (x ∷ a) (y ∷ b) (suc k) l l' l'' = get_or-gs vs a b k (le_of_suc-le-suc l) (le_of_suc-le-suc l') (le_of_suc-le-suc l'')

-- a row of 2 ^ n values is noiseless for the code word d, where S says what was never sent
abbrev pub Clean : ℕ → (ℕ → Bool) → List ℤ → List ℕ → Type 0
Clean n S row d = Each n (λ k. Soft (S k) (get_or row k (pos 0)) (get_or d k 0))

module _ (n : ℕ) (u : List ℕ) (S : ℕ → Bool) (row : List ℤ) (lu : length u ≡ 2 ^ suc n) (lr : length row ≡ 2 ^ suc n)
    (bits : Bits u) (down : Down (suc n) S) (clean : Clean (suc n) S row (transform (suc n) u)) where
  bit-lo : (k : ℕ) → get_or (lo n u) k 0 ≤ 1
  bit-lo = bits-transform n (take (2 ^ n) u) (bits-take (2 ^ n) u bits)

  bit-hi : (k : ℕ) → get_or (hi n u) k 0 ≤ 1
  bit-hi = bits-transform n (drop (2 ^ n) u) (bits-drop (2 ^ n) u bits)

  soft-lo : Each n (λ k. Soft (S k) (get_or (take (2 ^ n) row) k (pos 0)) (xor (get_or (lo n u) k 0) (get_or (hi n u) k 0)))
  soft-lo k h = rw (get_or-take, ← (transform-lo n u lu k h)) (clean k (lt-lo n h))

  soft-hi : Each n (λ k. Soft (S (2 ^ n + k)) (get_or (drop (2 ^ n) row) k (pos 0)) (get_or (hi n u) k 0))
  soft-hi k h = rw (get_or-drop, ← (transform-hi n u lu k)) (clean (2 ^ n + k) (lt-hi n h))

  clean-f : Clean n S (fs (take (2 ^ n) row) (drop (2 ^ n) row)) (lo n u)
  clean-f k h =
      rw (get_or-fs (take (2 ^ n) row) (drop (2 ^ n) row) k (omega (arith, length-lo n row lr)) (omega (arith, length-hi n row lr)))
      (f-soft (S k) (S (2 ^ n + k)) (get_or (take (2 ^ n) row) k (pos 0)) (get_or (drop (2 ^ n) row) k (pos 0)) _ _ (bit-lo k) (bit-hi k) (down-half n S down k h) (soft-lo k h) (soft-hi k h))

  clean-g : Clean n (λ k. S (2 ^ n + k)) (gs (lo n u) (take (2 ^ n) row) (drop (2 ^ n) row)) (hi n u)
  clean-g k h =
      rw (get_or-gs (lo n u) (take (2 ^ n) row) (drop (2 ^ n) row) k (omega (arith, len-lo n u lu)) (omega (arith, length-lo n row lr)) (omega (arith, length-hi n row lr)))
      (g-soft (S k) (S (2 ^ n + k)) (get_or (take (2 ^ n) row) k (pos 0)) (get_or (drop (2 ^ n) row) k (pos 0)) _ _ (bit-lo k) (bit-hi k) (down-half n S down k h) (soft-lo k h) (soft-hi k h))

-- u is 0 where it is not chosen, and no position that was never sent is chosen
abbrev pub Frozen : ℕ → List ℕ → List ℕ → Type 0
Frozen n marks u = Each n (λ k. get_or marks k 0 ≡ 0 → get_or u k 0 ≡ 0)

abbrev pub Unchosen : ℕ → List ℕ → (ℕ → Bool) → Type 0
Unchosen n marks S = Each n (λ k. T (S k) → get_or marks k 0 ≡ 0)

pub noiseless : (n : ℕ) (marks u : List ℕ) (S : ℕ → Bool) (row : List ℤ) → length u ≡ 2 ^ n → length row ≡ 2 ^ n
    → Bits u → Frozen n marks u → Unchosen n marks S → Down n S → Clean n S row (transform n u)
    → successive n marks row ≡ u
unfolding successive transform
noiseless zero marks [] S row lu lr bits frozen un down clean = absurd (suc-ne-zero 0 (sym lu))
noiseless zero marks (x ∷ []) S row lu lr bits frozen un down clean =
    ap (λ (y : ℕ). y ∷ []) (leaf _ (S 0) _ x (frozen 0 (omega arith)) (un 0 (omega arith)) (clean 0 (omega arith)))
noiseless zero marks (x ∷ y ∷ u) S row lu lr bits frozen un down clean = absurd (suc-ne-zero (length u) (suc_inj lu))
noiseless (suc n) marks u S row lu lr bits frozen un down clean =
    let a : List ℤ = take (2 ^ n) row in
    let b : List ℤ = drop (2 ^ n) row in
    let first : successive n (take (2 ^ n) marks) (fs a b) ≡ take (2 ^ n) u =
    noiseless n (take (2 ^ n) marks) (take (2 ^ n) u) S (fs a b)
    (length-lo n u lu) (length-fs (2 ^ n) a b (length-lo n row lr) (length-hi n row lr)) (bits-take (2 ^ n) u bits)
    (λ k h. simp get_or-take (frozen k (lt-lo n h))) (λ k h. simp get_or-take (un k (lt-lo n h))) (down-lo n S down)
    (clean-f n u S row lu lr bits down clean) in
    let second : successive n (drop (2 ^ n) marks) (gs (lo n u) a b) ≡ drop (2 ^ n) u =
    noiseless n (drop (2 ^ n) marks) (drop (2 ^ n) u) (λ k. S (2 ^ n + k)) (gs (lo n u) a b)
    (length-hi n u lu) (length-gs (2 ^ n) (lo n u) a b (len-lo n u lu) (length-lo n row lr) (length-hi n row lr)) (bits-drop (2 ^ n) u bits)
    (λ k h. simp get_or-drop (frozen (2 ^ n + k) (lt-hi n h))) (λ k h. simp get_or-drop (un (2 ^ n + k) (lt-hi n h))) (down-hi n S down)
    (clean-g n u S row lu lr bits down clean) in
    ap (λ (v : List ℕ). v ++ successive n (drop (2 ^ n) marks) (gs (transform n v) a b)) first
    ∙ ap (λ (v : List ℕ). take (2 ^ n) u ++ v) second ∙ take-append-drop (2 ^ n) u

-- ---- on any row: 2 ^ n bits

pub length-successive : (n : ℕ) (marks : List ℕ) (row : List ℤ) → length (successive n marks row) ≡ 2 ^ n
unfolding successive
length-successive zero marks row = refl
length-successive (suc n) marks row = simp (length-append, length-successive n) (omega (arith, pow-suc 2 n))

bit-decide : (mark : ℕ) (x : ℤ) → Bits (decide mark x ∷ [])
unfolding decide
bit-decide zero x k = bits-replicate 1 0 (omega arith) k
bit-decide (suc m) (pos x) k = bits-replicate 1 0 (omega arith) k
bit-decide (suc m) (negsuc x) k = bits-replicate 1 1 (omega arith) k

pub bits-successive : (n : ℕ) (marks : List ℕ) (row : List ℤ) → Bits (successive n marks row)
unfolding successive
bits-successive zero marks row = bit-decide (get_or marks 0 0) (get_or row 0 (pos 0))
bits-successive (suc n) marks row =
    let a : List ℤ = take (2 ^ n) row in
    let b : List ℤ = drop (2 ^ n) row in
    let u₁ : List ℕ = successive n (take (2 ^ n) marks) (fs a b) in
    let later : List ℤ = gs (transform n u₁) a b in
    bits-append u₁ (successive n (drop (2 ^ n) marks) later)
    (bits-successive n (take (2 ^ n) marks) (fs a b)) (bits-successive n (drop (2 ^ n) marks) later)

-- with 0 at every frozen position
pub frozen-successive : (n : ℕ) (marks : List ℕ) (row : List ℤ) → Frozen n marks (successive n marks row)
unfolding successive decide
frozen-successive zero marks row zero h e = ap (λ (m : ℕ). decide m (get_or row 0 (pos 0))) e
frozen-successive zero marks row (suc k) h e = absurd (not-suc-le-zero (le_of_suc-le-suc h))
frozen-successive (suc n) marks row k h e =
    let a : List ℤ = take (2 ^ n) row in
    let b : List ℤ = drop (2 ^ n) row in
    let u₁ : List ℕ = successive n (take (2 ^ n) marks) (fs a b) in
    let later : List ℤ = gs (transform n u₁) a b in
    let u₂ : List ℕ = successive n (drop (2 ^ n) marks) later in
    let l : length u₁ ≡ 2 ^ n = length-successive n (take (2 ^ n) marks) (fs a b) in
    halves n (λ k. get_or marks k 0 ≡ 0 → get_or (u₁ ++ u₂) k 0 ≡ 0)
    (λ k h e.
    get_or-append u₁ u₂ 0 k (omega arith)
    ∙ frozen-successive n (take (2 ^ n) marks) (fs a b) k h (get_or-take (2 ^ n) marks k 0 h ∙ e))
    (λ k h e.
    get_or-behind u₁ u₂ (2 ^ n) (2 ^ n + k) 0 l (omega arith) ∙ ap (λ (j : ℕ). get_or u₂ j 0) (behind (2 ^ n) k)
    ∙ frozen-successive n (drop (2 ^ n) marks) later k h (get_or-drop (2 ^ n) marks k 0 ∙ e))
    k h e
  where
    behind : (m k : ℕ) → m + k - m ≡ k
    behind m k = omega arith
