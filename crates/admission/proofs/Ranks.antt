-- A position's rank by shifts.
-- Assumes nothing.
use Prim.Native.Nat.{ℕ, ◌+◌, ◌-◌, ◌*◌, ◌/◌, ◌%◌, ◌^◌, ◌≤◌, ◌<◌}
use native.Mathlib.Nat.{mul_comm, mod-eq_of_lt, div-lt_iff_lt-mul, lt_of_lt_of_le}
use native.Mathlib.Omega.{arith}
use mathlib.Core.Path.{◌≡◌, sym, subst, ap, ap₂, ◌∙◌}
use mathlib.Core.Logic.{◌↔◌}
use mathlib.Core.Bool.{true}
use lib.Dec.{ltb, ltb→lt}
use lib.ListN.{get_or}
use lib.Pow.{pow_pos, pow-add, pow_mono}
use Rattle.std.specs.Prelude.{bit_and}
use Rattle.std.proofs.lemmas.Nat.{and_mask}
use Rattle.nr.specs.Rows.{place}
use Rattle.nr.proofs.Words.{shl_one}
use Rattle.nr.specs.Construction.{P, rank}
use Rattle.nr.proofs.Tests.{left, holds}
use Rattle.nr.proofs.Rows.{get_or-table}
use Rattle.nr.proofs.SubBlocks.{rank_lt, inside}
use Rattle.admission.specs.declared.Window.{Window}
use Rattle.admission.specs.Window.{ranks, admits}

-- what is below N = 2 ^ n lies in one of the 32 sub-blocks
pub block-below : (n p : ℕ) → 5 ≤ n → (p / 2 ^ (n - 5) < 32) ↔ (p < 2 ^ n)
block-below n p h =
    let whole : n - 5 + 5 ≡ n = omega arith in
    let e : 32 * 2 ^ (n - 5) ≡ 2 ^ n = mul_comm 32 (2 ^ (n - 5)) ∙ sym (pow-add 2 (n - 5) 5) ∙ ap (λ (m : ℕ). 2 ^ m) whole in
    subst (λ (m : ℕ). (p / 2 ^ (n - 5) < 32) ↔ (p < m)) e (div-lt_iff_lt-mul (pow_pos (n - 5)))

-- for the code length N = 2 ^ n
module _ (n p : ℕ) (within : (5 ≤ n) × (n ≤ 9)) (l : p < 2 ^ n) where
  abbrev s : ℕ
  s = n - 5

  abbrev block : ℕ
  block = p / 2 ^ s

  in_n : p < 2 ^ (s + 5)
  in_n = let e : n ≡ s + 5 = omega arith in subst (λ (m : ℕ). p < 2 ^ m) e l

  pub block-lt : block < 32
  block-lt = inside s p in_n

  -- numbers below N fit a word
  fits : (x : ℕ) → x < 2 ^ (s + 5) → x < 2 ^ 64
  fits x h = lt_of_lt_of_le h (pow_mono {i = s + 5} {j = 64} (omega arith))

  -- the bits below the sub-block's
  pub ones : 1 * 2 ^ s % 2 ^ 64 ≡ 2 ^ s
  ones = shl_one s (omega arith)

  pub rank_is : get_or ranks block 0 * 2 ^ s % 2 ^ 64 + bit_and p (1 * 2 ^ s % 2 ^ 64 - 1) ≡ rank s p
  unfolding ranks rank
  rank_is =
      let r : get_or ranks block 0 ≡ place block P = get_or-table (λ b. place b P) 32 block 0 block-lt in
      let low : bit_and p (1 * 2 ^ s % 2 ^ 64 - 1) ≡ p % 2 ^ s = ap (λ (m : ℕ). bit_and p (m - 1)) ones ∙ and_mask p s in
      let high : place block P * 2 ^ s % 2 ^ 64 ≡ place block P * 2 ^ s = mod-eq_of_lt (fits (place block P * 2 ^ s) (let k = ranked in omega arith)) in
      ap₂ (λ (x y : ℕ). x * 2 ^ s % 2 ^ 64 + y) r low ∙ ap (λ (x : ℕ). x + p % 2 ^ s) high
    where
      ranked : place block P * 2 ^ s + p % 2 ^ s < 2 ^ (s + 5)
      ranked = rank_lt s p in_n

-- what the window admits is below N
pub admitted-below : (n : ℕ) (w : Window) (p : ℕ) → admits n w p ≡ true → p < 2 ^ n
unfolding admits
admitted-below n w p e = ltb→lt p (2 ^ n) (left (ltb p (2 ^ n)) _ (holds e))
