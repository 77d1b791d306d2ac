-- Blocks of a row, one after the other: the loop of `stage`, and blocks that are made of the two halves before them.
-- Assumes nothing.
use Prim.Native.Nat.{ℕ, zero, suc, ◌+◌, ◌*◌, ◌/◌, ◌≤◌, ◌<◌}
use native.Mathlib.Nat.{suc-mul, mul_comm, mul-le-mul_right, div-mul-le_self, div-div-eq-div-mul}
use native.Mathlib.Numerals.{add-one}
use native.Mathlib.Omega.{arith}
use mathlib.Core.Path.{◌≡◌, refl, sym, ap, ap₂, ◌∙◌}
use mathlib.Core.List.{List, ◌++◌, append_assoc, append-nil}
use lib.ListN.{length, take, drop, length-append, length-drop, take-append-drop, drop_of_length-le}
use lib.Seq.{length-take-le, take_all, drop-drop, take-add, take_at, drop_at, take-append-add, drop-append-add}
use Rattle.nr.specs.Rows.{Bits}
use Rattle.nr.proofs.Zip.{bits-append, bits-take, bits-drop}
use Rattle.polar.specs.Blocks.{each}

-- ---- one f

module _ (f : List ℕ → List ℕ) (size : ℕ) where
  -- f changes no block
  pub each_same : ((u : List ℕ) → f u ≡ u) → (m : ℕ) (row : List ℕ) → each f size m row ≡ row
  each_same e zero row = refl
  each_same e (suc m) row = ap₂ (λ (p q : List ℕ). p ++ q) (e (take size row)) (each_same e m (drop size row)) ∙ take-append-drop size row

  -- one block is the whole row
  pub each-whole : (row : List ℕ) → length row ≤ size → each f size 1 row ≡ f row
  each-whole row h = ap₂ (λ (p q : List ℕ). f p ++ q) (take_all size row h) (drop_of_length-le row h) ∙ append-nil (f row)

  -- f keeps bits
  pub bits_each : ((v : List ℕ) → Bits v → Bits (f v)) → (m : ℕ) (row : List ℕ) → Bits row → Bits (each f size m row)
  bits_each g zero row b = b
  bits_each g (suc m) row b =
      bits-append (f (take size row)) (each f size m (drop size row)) (g (take size row) (bits-take size row b))
      (bits_each g m (drop size row) (bits-drop size row b))

-- ---- a loop over the blocks

module _ (f : List ℕ → List ℕ) (size : ℕ) (keeps : (u : List ℕ) → length u ≡ size → length (f u) ≡ size) where
  -- the block after the first b, which are done
  each-more : (b : ℕ) (row : List ℕ) → suc b * size ≤ length row
      → take (b * size) (each f size b row) ++ (f (take size (drop (b * size) (each f size b row))) ++ drop size (drop (b * size) (each f size b row)))
      ≡ each f size (suc b) row
  each-more zero row l =
      let none : 0 * size ≡ 0 = omega arith in
      ap (λ (k : ℕ). take k row ++ (f (take size (drop k row)) ++ drop size (drop k row))) none
  each-more (suc b) row l =
      let u : List ℕ = f (take size row) in
      let x : List ℕ = each f size b (drop size row) in
      let lu : length u ≡ size = keeps (take size row) (length-take-le size row (omega (arith, suc-mul (suc b) size))) in
      let far : suc b * size ≡ length u + b * size = omega (arith, suc-mul b size, lu) in
      let front : take (suc b * size) (u ++ x) ≡ u ++ take (b * size) x = ap (λ (k : ℕ). take k (u ++ x)) far ∙ take-append-add u x (b * size) in
      let behind : drop (suc b * size) (u ++ x) ≡ drop (b * size) x = ap (λ (k : ℕ). drop k (u ++ x)) far ∙ drop-append-add u x (b * size) in
      ap₂ (λ (p q : List ℕ). p ++ (f (take size q) ++ drop size q)) front behind
      ∙ append_assoc u (take (b * size) x) (f (take size (drop (b * size) x)) ++ drop size (drop (b * size) x))
      ∙ ap (λ (r : List ℕ). u ++ r) (each-more b (drop size row) (omega (arith, length-drop size row, suc-mul (suc b) size)))

  -- a turn: y is the next block by f
  pub each-next : (b : ℕ) (row x y : List ℕ) (at k : ℕ) → x ≡ each f size b row → at ≡ b * size → k ≡ size → at + size ≤ length row → y ≡ f (take k (drop at x))
      → take at x ++ (y ++ drop k (drop at x)) ≡ each f size (b + 1) row
  each-next b row x y at k e p q l r =
      ap (λ (z : List ℕ). take at x ++ (z ++ drop k (drop at x))) r
      ∙ ap₂ (λ (i j : ℕ). take i x ++ (f (take j (drop i x)) ++ drop j (drop i x))) p q
      ∙ ap (λ (z : List ℕ). take (b * size) z ++ (f (take size (drop (b * size) z)) ++ drop size (drop (b * size) z))) e
      ∙ each-more b row (omega (arith, suc-mul b size))
      ∙ ap (λ (i : ℕ). each f size i row) (sym (add-one b))

-- as many blocks as the code counts, and the room of one of them
pub count : (len h : ℕ) → len / h / 2 ≡ len / (2 * h)
count len h = div-div-eq-div-mul len h 2 ∙ ap (λ (w : ℕ). len / w) (mul_comm h 2)

pub room : (len h b : ℕ) → b < len / h / 2 → 2 * h * b + 2 * h ≤ len
room len h b l =
    omega (
      arith,
      count len h,
      mul-le-mul_right {m = suc b} {n = len / (2 * h)} (2 * h) (omega (arith, count len h)),
      div-mul-le_self len (2 * h),
      suc-mul b (2 * h),
      mul_comm (2 * h) b,
    )

-- ---- the halves of each block by f, then the block by g: the block by k

module _ (h : ℕ) (f g k : List ℕ → List ℕ) (keeps : (u : List ℕ) → length u ≡ h → length (f u) ≡ h)
    (step : (u : List ℕ) → length u ≡ 2 * h → g (f (take h u) ++ f (drop h u)) ≡ k u) where
  pub each-pairs : (m : ℕ) (row : List ℕ) → length row ≡ m * (2 * h) → each g (2 * h) m (each f h (2 * m) row) ≡ each k (2 * h) m row
  each-pairs zero row e = refl
  each-pairs (suc m) row e =
      let s : suc m * (2 * h) ≡ m * (2 * h) + 2 * h = suc-mul m (2 * h) in
      let two : 2 * suc m ≡ suc (suc (2 * m)) = omega arith in
      let twice : h + h ≡ 2 * h = omega arith in
      let u : List ℕ = take h row in
      let v : List ℕ = take h (drop h row) in
      let rest : List ℕ = drop h (drop h row) in
      let later : List ℕ = each f h (2 * m) rest in
      let lu : length u ≡ h = length-take-le h row (omega arith) in
      let lv : length v ≡ h = length-take-le h (drop h row) (omega (arith, length-drop h row)) in
      let lp : length (f u ++ f v) ≡ 2 * h = length-append (f u) (f v) ∙ omega (arith, keeps u lu, keeps v lv) in
      let front : take (2 * h) row ≡ u ++ v = ap (λ (i : ℕ). take i row) (sym twice) ∙ take-add h h row in
      let back : rest ≡ drop (2 * h) row = drop-drop h h row ∙ ap (λ (i : ℕ). drop i row) twice in
      let here : g (f u ++ f v) ≡ k (take (2 * h) row) =
      sym (ap₂ (λ (p q : List ℕ). g (f p ++ f q)) (ap (take h) front ∙ take_at u v h lu) (ap (drop h) front ∙ drop_at u v h lu))
      ∙ step (take (2 * h) row) (length-take-le (2 * h) row (omega arith)) in
      ap (λ (i : ℕ). each g (2 * h) (suc m) (each f h i row)) two
      ∙ ap (each g (2 * h) (suc m)) (sym (append_assoc (f u) (f v) later))
      ∙ ap₂ (λ (p q : List ℕ). g p ++ each g (2 * h) m q) (take_at (f u ++ f v) later (2 * h) lp) (drop_at (f u ++ f v) later (2 * h) lp)
      ∙ ap₂ (λ (p q : List ℕ). p ++ q) here
      (each-pairs m rest (ap length back ∙ length-drop (2 * h) row ∙ omega arith) ∙ ap (each k (2 * h) m) back)
