-- Parts of a row that were lent and came back.
-- Assumes nothing.
use Prim.Native.Nat.{ℕ, zero, suc, ◌+◌, ◌-◌, ◌≤◌, ◌<◌}
use native.Mathlib.Nat.{not-suc-le-zero, le_of_suc-le-suc}
use native.Mathlib.Omega.{arith}
use mathlib.Core.Path.{◌≡◌, refl, ap, ap₂, ◌∙◌}
use mathlib.Core.List.{List, ◌∷◌, ◌++◌, append-nil}
use borrow.Rule.Slice.PartMut.{put_mid}
use lib.ListN.{length, get_or, take, drop, replicate, length-append, length-replicate, get_or-append}
use lib.Seq.{take_at, drop_at, drop-length, length-take-le, get_or-take, get_or-append-add}

module _ {A : Type 0} where
  -- the front came back, and then the rest
  pub two-parts : (front rest back : List A) (a : ℕ) → length front ≡ a → put_mid a (length (front ++ rest) - a) (front ++ rest) back ≡ front ++ back
  two-parts front rest back a e =
      let k : length (front ++ rest) - a ≡ length rest = rw length-append (omega arith) in
      ap₂ (λ (x y : List A). x ++ (back ++ y)) (take_at front rest a e)
      (ap₂ (λ (j : ℕ) (r : List A). drop j r) k (drop_at front rest a e) ∙ drop-length rest)
      ∙ ap (λ (r : List A). front ++ r) (append-nil back)

  -- the front of a row was lent and came back as `new`: what then stands there
  pub front-back : (new rest : List A) (k : ℕ) → length new ≡ k → take k (new ++ rest) ≡ new
  front-back new rest k e = take_at new rest k e

  pub front-room : (new rest : List A) (k : ℕ) → length new ≡ k → k ≤ length (new ++ rest)
  front-room new rest k e = rw length-append (omega arith)

  -- what then stands in a part that came back as ys, before it, and behind it
  module _ (a k : ℕ) (xs ys : List A) (d : A) (inside : a ≤ length xs) (size : length ys ≡ k) where
    front-is : length (take a xs) ≡ a
    front-is = length-take-le a xs inside

    pub part_in : (i : ℕ) → i < k → get_or (put_mid a k xs ys) (a + i) d ≡ get_or ys i d
    part_in i l =
        let e : a + i ≡ length (take a xs) + i = omega (arith, front-is) in
        ap (λ (j : ℕ). get_or (put_mid a k xs ys) j d) e ∙ get_or-append-add (take a xs) (ys ++ drop k (drop a xs)) i d
        ∙ get_or-append ys (drop k (drop a xs)) d i (omega arith)

    pub part-before : (p : ℕ) → p < a → get_or (put_mid a k xs ys) p d ≡ get_or xs p d
    part-before p l = get_or-append (take a xs) (ys ++ drop k (drop a xs)) d p (omega (arith, front-is)) ∙ get_or-take a xs p d l

  -- ---- rows made of one value

  pub take-replicate : (m n : ℕ) (a : A) → m ≤ n → take m (replicate n a) ≡ replicate m a
  take-replicate zero n a h = refl
  take-replicate (suc m) zero a h = absurd (not-suc-le-zero h)
  take-replicate (suc m) (suc n) a h = ap (λ (r : List A). a ∷ r) (take-replicate m n a (le_of_suc-le-suc h))

  pub drop-replicate : (j n : ℕ) (a : A) → drop j (replicate n a) ≡ replicate (n - j) a
  drop-replicate zero n a = let e : n ≡ n - 0 = omega arith in ap (λ (m : ℕ). replicate m a) e
  drop-replicate (suc j) zero a = let e : 0 ≡ 0 - suc j = omega arith in ap (λ (m : ℕ). replicate m a) e
  drop-replicate (suc j) (suc n) a = let e : n - j ≡ suc n - suc j = omega arith in drop-replicate j n a ∙ ap (λ (m : ℕ). replicate m a) e

  -- the front of such a row
  pub front-size : (k n : ℕ) (a : A) → k ≤ n → length (take k (replicate n a)) ≡ k
  front-size k n a h = length-take-le k (replicate n a) (rw length-replicate h)
