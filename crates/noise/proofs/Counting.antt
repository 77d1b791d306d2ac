-- One value judged by its sign, and the loop that counts those that are wrong. Signed numbers stand in tests by their bits.
-- Assumes nothing.
use Prim.Native.Nat.{ℕ, zero, suc, ◌+◌, ◌≤◌, ◌<◌}
use native.Mathlib.Omega.{arith}
use mathlib.Core.Path.{◌≡◌, refl, sym, ap, ap₂, ◌∙◌}
use mathlib.Core.Bool.{Bool, true, false}
use mathlib.Core.List.{List}
use lib.Bits.{bit_xor}
use lib.IntN.{ℤ, pos}
use lib.Signed.{lt_z}
use lib.ListN.{length, get_or, take, length-take}
use mir.Syntax.{w32}
use mir.Val.{SFits, to_z, of_z, bool_byte}
use mir.ValLaws.{to_z-of_z}
use Rattle.nr.specs.Rows.{count, xors, Bits}
use Rattle.nr.specs.Noise.{wrong, noise_count}
use Rattle.nr.proofs.Rows.{length-count, get_or-count, length-keep}
use Rattle.nr.proofs.Zip.{get_or-xors}
use Rattle.nr.proofs.Words.{xor-bits}
use Rattle.nr.proofs.Sifting.{passed, passed-hit, passed-miss, passed-all}
use Rattle.nr.proofs.Noise.{wrong_at}

-- ---- one value

module _ (b : ℕ) (x : ℤ) (fits : SFits w32 x) where
  -- for bit 0 it is wrong below 0
  pub below : b ≡ 0 → lt_z (to_z w32 (of_z w32 x)) (pos 0) ≡ wrong b x
  unfolding wrong
  below z = ap (λ (x : ℤ). lt_z x (pos 0)) (to_z-of_z w32 x fits) ∙ sym (ap (λ (b : ℕ). wrong b x) z)

  -- for bit 1 above 0
  pub above : (b ≡ 0 → ⊥) → lt_z (pos 0) (to_z w32 (of_z w32 x)) ≡ wrong b x
  unfolding wrong
  above n = ap (lt_z (pos 0)) (to_z-of_z w32 x fits) ∙ go b n
    where
      go : (b : ℕ) → (b ≡ 0 → ⊥) → lt_z (pos 0) x ≡ wrong b x
      go zero n = absurd (n refl)
      go (suc b) n = refl

-- ---- the loop

-- how many of the first k values are wrong
abbrev pub counted : List ℤ → List ℕ → ℕ → ℕ
counted soft bits k = passed (wrong_at soft bits) (count 0 (length soft)) k

pub counted-le : (soft : List ℤ) (bits : List ℕ) (k : ℕ) → counted soft bits k ≤ k
counted-le soft bits k = omega (arith, length-keep (wrong_at soft bits) (take k (count 0 (length soft))), length-take k (count 0 (length soft)))

module _ (soft : List ℤ) (sent sequence : List ℕ) (ls : length sent ≡ length soft) (lc : length sequence ≡ length soft)
    (bs : Bits sent) (bc : Bits sequence) (k : ℕ) (l : k < length soft) where
  bit_is : bit_xor (get_or sent k 0) (get_or sequence k 0) ≡ get_or (xors sent sequence) k 0
  bit_is = xor-bits (get_or sent k 0) (get_or sequence k 0) (bs k) (bc k) ∙ sym (get_or-xors sent sequence k (omega arith) (omega arith))

  -- one more value judged
  pub one_more : (fits : SFits w32 (get_or soft k (pos 0))) (so_far : ℕ) (t : Bool) → so_far ≡ counted soft (xors sent sequence) k
      → t ≡ wrong (bit_xor (get_or sent k 0) (get_or sequence k 0)) (to_z w32 (of_z w32 (get_or soft k (pos 0))))
      → so_far + bool_byte t ≡ counted soft (xors sent sequence) (k + 1)
  one_more fits so_far t e q = go t (sym (q ∙ ap₂ wrong bit_is (to_z-of_z w32 (get_or soft k (pos 0)) fits)))
    where
      row : List ℕ
      row = count 0 (length soft)

      zero-first : (k : ℕ) → 0 + k ≡ k
      zero-first k = omega arith

      at : (t : Bool) → wrong_at soft (xors sent sequence) k ≡ t → wrong_at soft (xors sent sequence) (get_or row k 0) ≡ t
      at t e = ap (wrong_at soft (xors sent sequence)) (get_or-count 0 (length soft) k 0 l ∙ zero-first k) ∙ e

      room : k < length row
      room = omega (arith, length-count 0 (length soft))

      go : (t : Bool) → wrong_at soft (xors sent sequence) k ≡ t → so_far + bool_byte t ≡ counted soft (xors sent sequence) (k + 1)
      go true w = omega (arith, e, passed-hit (wrong_at soft (xors sent sequence)) row k room (at true w))
      go false w = omega (arith, e, passed-miss (wrong_at soft (xors sent sequence)) row k room (at false w))

-- all of them
pub all-counted : (soft : List ℤ) (bits : List ℕ) (k : ℕ) → length soft ≤ k → counted soft bits k ≡ noise_count soft bits
unfolding noise_count
all-counted soft bits k l = passed-all (wrong_at soft bits) (count 0 (length soft)) k (omega (arith, length-count 0 (length soft)))
