-- The stages of the transform, once for every n: after j of them each block of 2 ^ j entries holds its own transform.
-- Assumes nothing.
use Prim.Native.Nat.{ℕ, suc, ◌+◌, ◌-◌, ◌*◌, ◌/◌, ◌%◌, ◌^◌, ◌≤◌, ◌<◌}
use native.Mathlib.Nat.{mul-mod_left, mul-div_cancel, pow-succ'}
use native.Mathlib.Numerals.{add-one}
use native.Mathlib.Decide.{dec_le}
use native.Mathlib.Omega.{arith}
use mathlib.Core.Path.{◌≡◌, refl, sym, ap, ap₂, ◌∙◌, subst}
use mathlib.Core.List.{List, ◌++◌}
use lib.ListN.{length}
use lib.Pow.{pow_pos, pow_mono, pow-add}
use lib.Seq.{take_at, drop_at}
use Rattle.nr.specs.Rows.{xors, Bits}
use Rattle.nr.specs.Transform.{transform}
use Rattle.nr.proofs.Transform.{lo, hi, len-lo, length-transform}
use Rattle.polar.specs.Blocks.{joined, each}
use Rattle.polar.proofs.Halves.{bits-joined}
use Rattle.polar.proofs.Blocks.{each_same, each-whole, bits_each, each-pairs}

-- ---- one stage

-- the transforms of the halves, joined
joined-transform : (j : ℕ) (u : List ℕ) → length u ≡ 2 ^ suc j → joined (2 ^ j) (lo j u ++ hi j u) ≡ transform (suc j) u
unfolding transform
joined-transform j u e =
    ap₂ (λ (p q : List ℕ). xors p q ++ q) (take_at (lo j u) (hi j u) (2 ^ j) (len-lo j u e)) (drop_at (lo j u) (hi j u) (2 ^ j) (len-lo j u e))

-- one stage, from blocks of 2 ^ j entries that hold their transforms to blocks twice as long
pub next-stage : (j m : ℕ) (row : List ℕ) → length row ≡ m * (2 * 2 ^ j)
    → each (joined (2 ^ j)) (2 * 2 ^ j) m (each (transform j) (2 ^ j) (2 * m) row) ≡ each (transform (suc j)) (2 ^ suc j) m row
next-stage j m row e =
    each-pairs (2 ^ j) (transform j) (joined (2 ^ j)) (transform (suc j)) (length-transform j)
    (λ u l. joined-transform j u (l ∙ sym (pow-succ' 2 j))) m row e
    ∙ ap (λ (s : ℕ). each (transform (suc j)) s m row) (sym (pow-succ' 2 j))

-- ---- the loop over the stages

-- after j stages: blocks of 2 ^ j entries, each with its transform
pub record Staged (n : ℕ) (u : List ℕ) (j : ℕ) (x : List ℕ) : Type 0 where
  pub stages : j ≤ n
  pub size : length x ≡ 2 ^ n
  pub bits : Bits x
  pub holds : x ≡ each (transform j) (2 ^ j) (2 ^ (n - j)) u

module _ (n : ℕ) (u : List ℕ) (e : length u ≡ 2 ^ n) where
  -- there are fewer stages than a word has bits
  pub fewer : length u < 2 ^ 64 → n < 64
  fewer l = elim (dec_le 64 n) [
    | yes h ↦ let m : 2 ^ 64 ≤ 2 ^ n = pow_mono {i = 64} {j = n} h in absurd (omega arith)
    | no h ↦ omega arith
  ]

  -- before the first stage
  pub staged-none : Bits u → Staged n u 0 u
  unfolding transform
  staged-none b = record {
    stages = omega arith;
    size = e;
    bits = b;
    holds = sym (each_same (transform 0) 1 (λ v. refl) (2 ^ (n - 0)) u);
  }

  -- after the last
  pub staged-all : {j : ℕ} {x : List ℕ} → Staged n u j x → n ≤ j → x ≡ transform n u
  staged-all {j} s l =
      let p : j ≡ n = omega arith in
      let z : n - n ≡ 0 = omega arith in
      s.holds
      ∙ ap (λ (i : ℕ). each (transform i) (2 ^ i) (2 ^ (n - i)) u) p
      ∙ ap (λ (i : ℕ). each (transform n) (2 ^ n) (2 ^ i) u) z
      ∙ each-whole (transform n) (2 ^ n) u (omega arith)

  module _ {j : ℕ} {x : List ℕ} (s : Staged n u j x) (l : j < n) where
    -- the row is 2 ^ (n - (j + 1)) blocks of 2 * 2 ^ j entries
    count : length x ≡ 2 ^ (n - (j + 1)) * (2 * 2 ^ j)
    count =
        let p : n ≡ (n - (j + 1)) + suc j = omega arith in
        s.size ∙ ap (λ (i : ℕ). 2 ^ i) p ∙ pow-add 2 (n - (j + 1)) (suc j) ∙ ap (λ (w : ℕ). 2 ^ (n - (j + 1)) * w) (pow-succ' 2 j)

    module _ (half : ℕ) (w : half ≡ 2 ^ j) where
      -- what a stage asks
      pub asked : (0 < half) × ((length x % (2 * half) ≡ 0) × Bits x)
      asked = (
        omega (arith, w, pow_pos j),
        (rw w (ap (λ (i : ℕ). i % (2 * 2 ^ j)) count ∙ mul-mod_left (2 ^ (n - (j + 1))) (2 * 2 ^ j)), s.bits),
      )

      -- one stage more
      pub staged-next : (y : List ℕ) → length y ≡ length x → y ≡ each (joined half) (2 * half) (length x / (2 * half)) x → Staged n u (j + 1) y
      staged-next y ly q =
          let m : ℕ = 2 ^ (n - (j + 1)) in
          let double : 2 ^ (n - j) ≡ 2 * m =
          let p : n - j ≡ suc (n - (j + 1)) = omega arith in
          ap (λ (i : ℕ). 2 ^ i) p ∙ pow-succ' 2 (n - (j + 1)) in
          let blocks : length x / (2 * 2 ^ j) ≡ m = ap (λ (i : ℕ). i / (2 * 2 ^ j)) count ∙ mul-div_cancel m (omega (arith, pow_pos j)) in
          let long : length u ≡ m * (2 * 2 ^ j) = e ∙ sym s.size ∙ count in
          let now : x ≡ each (transform j) (2 ^ j) (2 * m) u = s.holds ∙ ap (λ (i : ℕ). each (transform j) (2 ^ j) i u) double in record {
            stages = omega arith;
            size = ly ∙ s.size;
            bits = subst Bits (sym q) (bits_each (joined half) (2 * half) (λ v b. bits-joined v half b) (length x / (2 * half)) x s.bits);
            holds =
                q
                ∙ ap (λ (h : ℕ). each (joined h) (2 * h) (length x / (2 * h)) x) w
                ∙ ap₂ (λ (i : ℕ) (v : List ℕ). each (joined (2 ^ j)) (2 * 2 ^ j) i v) blocks now
                ∙ next-stage j m u long
                ∙ ap (λ (i : ℕ). each (transform i) (2 ^ i) m u) (sym (add-one j));
          }
