-- The transform is the product with the n-fold Kronecker power of rows (1 0), (1 1), entry by entry.
-- Assumes nothing.
use Prim.Native.Nat.{ℕ, zero, suc, ◌+◌, ◌*◌, ◌/◌, ◌%◌, ◌^◌, ◌<◌}
use native.Mathlib.Nat.{pow-suc, div-eq_of_lt, mod-eq_of_lt, not-suc-le-zero, le_of_suc-le-suc}
use native.Mathlib.Omega.{arith}
use mathlib.Core.Path.{◌≡◌, refl, sym, ap, ap₂, ◌∙◌}
use mathlib.Core.List.{List}
use lib.ListN.{length, get_or, take, drop}
use lib.Seq.{get_or-take, get_or-drop}
use lib.Pow.{high, low}
use Rattle.nr.specs.Rows.{xor, Bits}
use Rattle.nr.specs.Transform.{transform}
use Rattle.nr.proofs.Zip.{bits-take, bits-drop}
use Rattle.nr.proofs.Transform.{Each, halves, length-lo, length-hi, lo, hi, transform-lo, transform-hi}

-- the rows (1 0), (1 1)
unfoldable pub entry : ℕ → ℕ → ℕ
entry zero zero = 1
entry zero (suc j) = 0
entry (suc i) j = 1

-- the entry at row i and column j of the n-fold Kronecker power: that of the first factor at the blocks, times that of the rest within them
unfoldable pub kronecker : ℕ → ℕ → ℕ → ℕ
kronecker zero i j = 1
kronecker (suc n) i j = entry (i / 2 ^ n) (j / 2 ^ n) * kronecker n (i % 2 ^ n) (j % 2 ^ n)

-- h 0 + .. + h (k - 1)
unfoldable pub total : ℕ → (ℕ → ℕ) → ℕ
total zero h = 0
total (suc k) h = total k h + h k

total-cong : (k : ℕ) (h g : ℕ → ℕ) → ((i : ℕ) → i < k → h i ≡ g i) → total k h ≡ total k g
unfolding total
total-cong zero h g e = refl
total-cong (suc k) h g e = ap₂ ◌+◌ (total-cong k h g (λ i l. e i (omega arith))) (e k (omega arith))

total-zero : (k : ℕ) → total k (λ i. 0) ≡ 0
unfolding total
total-zero zero = refl
total-zero (suc k) = ap (λ (s : ℕ). s + 0) (total-zero k)

total-split : (a b : ℕ) (h : ℕ → ℕ) → total (a + b) h ≡ total a h + total b (λ i. h (a + i))
unfolding total
total-split a zero h = let e : a + 0 ≡ a = omega arith in ap (λ (k : ℕ). total k h) e ∙ omega arith
total-split a (suc b) h =
    let e : a + suc b ≡ suc (a + b) = omega arith in
    ap (λ (k : ℕ). total k h) e ∙ ap (λ (s : ℕ). s + h (a + b)) (total-split a b h) ∙ omega arith

module _ (n i j : ℕ) (hi : i < 2 ^ n) (hj : j < 2 ^ n) where
  one : (k : ℕ) → 2 ^ n + k ≡ 1 * 2 ^ n + k
  one k = omega arith

  in-lo : {k : ℕ} → k < 2 ^ n → (k / 2 ^ n ≡ 0) × (k % 2 ^ n ≡ k)
  in-lo h = (div-eq_of_lt h, mod-eq_of_lt h)

  in-hi : {k : ℕ} → k < 2 ^ n → ((2 ^ n + k) / 2 ^ n ≡ 1) × ((2 ^ n + k) % 2 ^ n ≡ k)
  in-hi {k} h = (ap (λ (x : ℕ). x / 2 ^ n) (one k) ∙ high 1 n h, ap (λ (x : ℕ). x % 2 ^ n) (one k) ∙ low 1 n h)

  at : (a b i' j' : ℕ) → (i' / 2 ^ n ≡ a) × (i' % 2 ^ n ≡ i) → (j' / 2 ^ n ≡ b) × (j' % 2 ^ n ≡ j) → kronecker (suc n) i' j' ≡ entry a b * kronecker n i j
  unfolding kronecker
  at a b i' j' p q = ap₂ ◌*◌ (ap₂ entry p.0 q.0) (ap₂ (kronecker n) p.1 q.1)

  lo-lo : kronecker (suc n) i j ≡ kronecker n i j
  unfolding entry
  lo-lo = at 0 0 i j (in-lo hi) (in-lo hj) ∙ omega arith

  hi-lo : kronecker (suc n) (2 ^ n + i) j ≡ kronecker n i j
  unfolding entry
  hi-lo = at 1 0 (2 ^ n + i) j (in-hi hi) (in-lo hj) ∙ omega arith

  lo-hi : kronecker (suc n) i (2 ^ n + j) ≡ 0
  unfolding entry
  lo-hi = at 0 1 i (2 ^ n + j) (in-lo hi) (in-hi hj) ∙ omega arith

  hi-hi : kronecker (suc n) (2 ^ n + i) (2 ^ n + j) ≡ kronecker n i j
  unfolding entry
  hi-hi = at 1 1 (2 ^ n + i) (2 ^ n + j) (in-hi hi) (in-hi hj) ∙ omega arith

-- the product of u and column j
abbrev pub times : ℕ → List ℕ → ℕ → ℕ
times n u j = total (2 ^ n) (λ i. get_or u i 0 * kronecker n i j)

module _ (n : ℕ) (u : List ℕ) where
  -- the sum over both halves of u, at a column j' where the power's entries are those of a smaller one, or 0
  split : (j' : ℕ) (g₁ g₂ : ℕ → ℕ) → Each n (λ i. get_or u i 0 * kronecker (suc n) i j' ≡ g₁ i)
      → Each n (λ i. get_or u (2 ^ n + i) 0 * kronecker (suc n) (2 ^ n + i) j' ≡ g₂ i)
      → times (suc n) u j' ≡ total (2 ^ n) g₁ + total (2 ^ n) g₂
  split j' g₁ g₂ p q =
      let h : ℕ → ℕ = λ i. get_or u i 0 * kronecker (suc n) i j' in
      let e : 2 ^ suc n ≡ 2 ^ n + 2 ^ n = omega (arith, pow-suc 2 n) in
      ap (λ (k : ℕ). total k h) e ∙ total-split (2 ^ n) (2 ^ n) h
      ∙ ap₂ ◌+◌ (total-cong (2 ^ n) h g₁ p) (total-cong (2 ^ n) (λ i. h (2 ^ n + i)) g₂ q)

  abbrev low_part : ℕ → ℕ → ℕ
  low_part j i = get_or (take (2 ^ n) u) i 0 * kronecker n i j

  abbrev high_part : ℕ → ℕ → ℕ
  high_part j i = get_or (drop (2 ^ n) u) i 0 * kronecker n i j

  from-high : (j j' : ℕ) → Each n (λ i. kronecker (suc n) (2 ^ n + i) j' ≡ kronecker n i j)
      → Each n (λ i. get_or u (2 ^ n + i) 0 * kronecker (suc n) (2 ^ n + i) j' ≡ high_part j i)
  from-high j j' e i h = ap₂ ◌*◌ (sym (get_or-drop (2 ^ n) u i 0)) (e i h)

  times-lo : (j : ℕ) → j < 2 ^ n → times (suc n) u j ≡ times n (take (2 ^ n) u) j + times n (drop (2 ^ n) u) j
  times-lo j h =
      split j (low_part j) (high_part j)
      (λ i l. ap₂ ◌*◌ (sym (get_or-take (2 ^ n) u i 0 l)) (lo-lo n i j l h))
      (from-high j j (λ i l. hi-lo n i j l h))

  times-hi : (j : ℕ) → j < 2 ^ n → times (suc n) u (2 ^ n + j) ≡ times n (drop (2 ^ n) u) j
  times-hi j h =
      split (2 ^ n + j) (λ i. 0) (high_part j)
      (λ i l. ap (λ (x : ℕ). get_or u i 0 * x) (lo-hi n i j l h) ∙ omega arith)
      (from-high j (2 ^ n + j) (λ i l. hi-hi n i j l h))
      ∙ ap (λ (s : ℕ). s + times n (drop (2 ^ n) u) j) (total-zero (2 ^ n)) ∙ omega arith

-- d_j is the sum of the u_i times the entries at (i, j), mod 2
pub transform-kronecker : (n : ℕ) (u : List ℕ) → length u ≡ 2 ^ n → Bits u → Each n (λ j. get_or (transform n u) j 0 ≡ times n u j % 2)
unfolding transform kronecker total
transform-kronecker zero u e b zero h = omega (arith, b 0)
transform-kronecker zero u e b (suc j) h = absurd (not-suc-le-zero (le_of_suc-le-suc h))
transform-kronecker (suc n) u e b j h =
    let first : Each n (λ j. get_or (lo n u) j 0 ≡ times n (take (2 ^ n) u) j % 2) =
    transform-kronecker n (take (2 ^ n) u) (length-lo n u e) (bits-take (2 ^ n) u b) in
    let second : Each n (λ j. get_or (hi n u) j 0 ≡ times n (drop (2 ^ n) u) j % 2) =
    transform-kronecker n (drop (2 ^ n) u) (length-hi n u e) (bits-drop (2 ^ n) u b) in
    halves n (λ (j : ℕ). get_or (transform (suc n) u) j 0 ≡ times (suc n) u j % 2)
    (λ j l.
    transform-lo n u e j l ∙ ap₂ xor (first j l) (second j l) ∙ both (times n (take (2 ^ n) u) j) (times n (drop (2 ^ n) u) j)
    ∙ ap (λ (s : ℕ). s % 2) (sym (times-lo n u j l)))
    (λ j l. transform-hi n u e j ∙ second j l ∙ ap (λ (s : ℕ). s % 2) (sym (times-hi n u j l)))
    j h
  where
    both : (a b : ℕ) → xor (a % 2) (b % 2) ≡ (a + b) % 2
    both a b = omega arith
