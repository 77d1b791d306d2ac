-- The noise count of a row against bits: it counts the hard decisions that differ, zeros left out; it is 0 exactly if no value is
-- wrong, as in a noiseless row; and it is never above the row's length.
-- Assumes nothing.
use Prim.Native.Nat.{ℕ, zero, suc, ◌≤◌, ◌<◌}
use native.Mathlib.Nat.{suc-ne-zero, not-suc-le-zero, le_of_suc-le-suc}
use native.Mathlib.Omega.{arith}
use mathlib.Core.Path.{◌≡◌, refl, sym, ap, ◌∙◌}
use mathlib.Core.Logic.{◌↔◌}
use mathlib.Core.Bool.{Bool, true, false, not, ◌&&◌}
use mathlib.Core.List.{List, [], ◌∷◌}
use lib.Dec.{T, eqb}
use lib.IntN.{ℤ, pos, negsuc, nat_abs}
use lib.ListN.{length, get_or}
use borrow.Author.Tests.{le-ltb, lt-ltb, ne_eqb}
use Rattle.nr.specs.Rows.{count, keep, has, Bits}
use Rattle.nr.specs.SuccessiveDecoder.{decide}
use Rattle.nr.specs.Noise.{wrong, noise_count}
use Rattle.nr.proofs.Tests.{holds, fails, has-count}
use Rattle.nr.proofs.Rows.{length-count, ranged, keeps, keep-none, length-keep, keep-cong}
use Rattle.nr.proofs.SuccessiveDecoder.{Sign}

-- ---- one value

-- it is not 0, and its hard decision, which is 1 exactly if it is negative, is not the bit
abbrev pub differs : ℕ → ℤ → Bool
differs b x = not (eqb (nat_abs x) 0) && not (eqb (decide 1 x) b)

not-zero : (x : ℕ) (t : Bool) → not (eqb (suc x) 0) && t ≡ t
not-zero x t = ap (λ (z : Bool). not z && t) (ne_eqb (suc x) 0 (suc-ne-zero x))

pub wrong-differs : (b : ℕ) (x : ℤ) → b ≤ 1 → wrong b x ≡ differs b x
unfolding wrong decide
wrong-differs zero (pos zero) h = refl
wrong-differs zero (pos (suc x)) h = le-ltb (suc x) 0 (omega arith) ∙ sym (not-zero x false)
wrong-differs zero (negsuc x) h = sym (not-zero x true)
wrong-differs (suc zero) (pos zero) h = refl
wrong-differs (suc zero) (pos (suc x)) h = lt-ltb 0 (suc x) (omega arith) ∙ sym (not-zero x true)
wrong-differs (suc zero) (negsuc x) h = sym (not-zero x false)
wrong-differs (suc (suc b)) x h = absurd (not-suc-le-zero (le_of_suc-le-suc h))

-- one that has the bit's sign is not wrong
pub sign-right : {x : ℤ} {d : ℕ} → Sign x d → wrong d x ≡ false
unfolding wrong
sign-right (Sign.plus {x}) = le-ltb (suc x) 0 (omega arith)
sign-right Sign.minus = refl

-- ---- a row

module _ (soft : List ℤ) (bits : List ℕ) where
  abbrev pub wrong_at : ℕ → Bool
  wrong_at k = wrong (get_or bits k 0) (get_or soft k (pos 0))

  pub noise-le : noise_count soft bits ≤ length soft
  unfolding noise_count
  noise-le = omega (arith, length-keep wrong_at (count 0 (length soft)), length-count 0 (length soft))

  -- 0 exactly if no value is wrong
  pub noise-none : (noise_count soft bits ≡ 0) ↔ ((k : ℕ) → k < length soft → wrong_at k ≡ false)
  unfolding noise_count
  noise-none = (
    λ e k l. fails (wrong_at k) (λ w. none (keep wrong_at (count 0 (length soft))) k e (keeps wrong_at (count 0 (length soft)) k (has-count 0 (length soft) k (omega arith) (omega arith)) (holds w))),
    λ h. ap length (keep-none wrong_at (count 0 (length soft)) (λ k m. h k (let r = ranged 0 (length soft) k m in omega arith))),
  )
    where
      none : (xs : List ℕ) (k : ℕ) → length xs ≡ 0 → T (has k xs) → ⊥
      none [] k e h = h
      none (x ∷ xs) k e h = suc-ne-zero (length xs) e

  -- the count of the hard decisions that differ, zeros left out
  pub noise-hard : Bits bits
      → noise_count soft bits ≡ length (keep (λ k. differs (get_or bits k 0) (get_or soft k (pos 0))) (count 0 (length soft)))
  unfolding noise_count
  noise-hard b =
      ap length (keep-cong wrong_at (λ k. differs (get_or bits k 0) (get_or soft k (pos 0))) (count 0 (length soft))
      (λ k h. wrong-differs (get_or bits k 0) (get_or soft k (pos 0)) (b k)))
