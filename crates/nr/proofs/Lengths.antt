-- The code length N = 2 ^ n, at most 512: a row of N entries is lent of an array of 512, and comes back.
-- Assumes nothing.
use Prim.Native.Nat.{ℕ, ◌^◌, ◌≤◌}
use native.Mathlib.Omega.{arith}
use mathlib.Core.Path.{◌≡◌, subst⁻¹, ap, ◌∙◌}
use mathlib.Core.List.{List, ◌++◌}
use lib.ListN.{length, take, replicate, length-append, length-replicate}
use lib.Pow.{pow_mono}
use lib.Seq.{take_at, length-take-le}
use Rattle.std.proofs.lemmas.List.{take-replicate}

module _ {N n : ℕ} (is : N ≡ 2 ^ n) (small : n ≤ 9) where
  pub at_most_512 : N ≤ 512
  at_most_512 = subst⁻¹ (λ (m : ℕ). m ≤ 512) is (pow_mono {i = n} {j = 9} small)

  -- the first N of 512 entries that are all `a`
  module _ {A : Type 0} (a : A) where
    pub length-front : length (take N (replicate 512 a)) ≡ N
    length-front = length-take-le N (replicate 512 a) (rw length-replicate at_most_512)

    pub front-is : take N (replicate 512 a) ≡ replicate (2 ^ n) a
    front-is = take-replicate N 512 a at_most_512 ∙ ap (λ (m : ℕ). replicate m a) is

    -- they were lent, and came back as `new`
    module _ (new rest : List A) (kept : length new ≡ length (take N (replicate 512 a))) where
      pub front-new : take N (new ++ rest) ≡ new
      front-new = take_at new rest N (kept ∙ length-front)

      pub length-new : length (take N (new ++ rest)) ≡ N
      length-new = ap length front-new ∙ kept ∙ length-front

      pub front-room : N ≤ length (new ++ rest)
      front-room = rw length-append (omega (arith, kept ∙ length-front))
