-- The rows of soft values on the way to the decoder: lengths and magnitudes.
-- Assumes nothing.
use Prim.Native.Nat.{ℕ, zero, suc, ◌+◌, ◌-◌, ◌*◌, ◌/◌, ◌^◌, ◌≤◌, ◌<◌, min, max}
use native.Mathlib.Nat.{not-suc-le-zero, le_of_suc-le-suc, suc-mul, mod-lt, div-add-mod', div-le_self}
use native.Mathlib.Omega.{arith}
use mathlib.Core.Path.{◌≡◌, refl, sym, subst, ap, ap₂, ◌∙◌}
use mathlib.Core.List.{List, [], ◌∷◌, map, zip_with}
use lib.IntN.{ℤ, pos, neg_ℤ, nat_abs, +ℤ_idl, +ℤ_comm, +ℤ_assoc}
use lib.ListN.{length, get_or, take, drop, replicate, length-append, length-take, length-drop, length-replicate}
use Rattle.nr.specs.declared.RateMatching.{RateMatching}
use Rattle.nr.specs.declared.RateMatching.TheVariants.{Repetition, Puncturing, Shortening}
use Rattle.nr.specs.Rows.{count, place, Within}
use Rattle.nr.specs.Construction.{J, rank}
use Rattle.nr.specs.SuccessiveDecoder.{negate_if, descramble, plus, add_up, certain, gather, code_row, by_position}
use Rattle.nr.specs.RateMatching.{Fits}
use Rattle.nr.proofs.Ints.{nat_abs-neg, nat_abs-add, within-take, within-drop, within-append, within-replicate, within-map}
use Rattle.nr.proofs.Rows.{length-table, get_or-table}
use Rattle.nr.proofs.Zip.{length-zip_with, get_or-zip_with}
use Rattle.nr.proofs.SubBlocks.{place-J}
use Rattle.nr.proofs.Gather.{plus-at}

-- ---- scrambling undone

pub nat_abs-negate_if : (c : ℕ) (x : ℤ) → nat_abs (negate_if c x) ≡ nat_abs x
nat_abs-negate_if zero x = refl
nat_abs-negate_if (suc c) x = nat_abs-neg x

-- at a bit that is not 0
pub negate_if-one : (c : ℕ) (x : ℤ) → (c ≡ 0 → ⊥) → negate_if c x ≡ neg_ℤ x
negate_if-one zero x h = absurd (h refl)
negate_if-one (suc c) x h = refl

module _ (bits : List ℕ) (soft : List ℤ) where
  pub length-descramble : length bits ≡ length soft → length (descramble bits soft) ≡ length soft
  unfolding descramble
  length-descramble e = length-zip_with negate_if bits soft (length soft) e refl

  pub get_or-descramble : length bits ≡ length soft → (k : ℕ) → k < length soft
      → get_or (descramble bits soft) k (pos 0) ≡ negate_if (get_or bits k 0) (get_or soft k (pos 0))
  unfolding descramble
  get_or-descramble e k l = get_or-zip_with negate_if bits soft k 0 (pos 0) (pos 0) (omega arith) l

pub descramble-within : (b : ℕ) (bits : List ℕ) (soft : List ℤ) → Within b soft → Within b (descramble bits soft)
unfolding descramble zip_with
descramble-within b [] soft w k = omega arith
descramble-within b (c ∷ bits) [] w k = omega arith
descramble-within b (c ∷ bits) (x ∷ soft) w zero = rw (nat_abs-negate_if c x) (w 0)
descramble-within b (c ∷ bits) (x ∷ soft) w (suc k) = descramble-within b bits soft (λ i. w (suc i)) k

-- ---- rows added

pub plus_comm : (a b : List ℤ) → plus a b ≡ plus b a
plus_comm [] [] = refl
plus_comm [] (y ∷ b) = refl
plus_comm (x ∷ a) [] = refl
plus_comm (x ∷ a) (y ∷ b) = ap₂ (λ (z : ℤ) (r : List ℤ). z ∷ r) (+ℤ_comm x y) (plus_comm a b)

pub plus_assoc : (a b c : List ℤ) → plus (plus a b) c ≡ plus a (plus b c)
plus_assoc [] b c = refl
plus_assoc (x ∷ a) [] c = refl
plus_assoc (x ∷ a) (y ∷ b) [] = refl
plus_assoc (x ∷ a) (y ∷ b) (z ∷ c) = ap₂ (λ (w : ℤ) (r : List ℤ). w ∷ r) (+ℤ_assoc x y z) (plus_assoc a b c)

pub plus-zeros : (n : ℕ) (b : List ℤ) → n ≤ length b → plus (replicate n (pos 0)) b ≡ b
plus-zeros zero b h = refl
plus-zeros (suc n) [] h = absurd (not-suc-le-zero h)
plus-zeros (suc n) (y ∷ b) h = ap₂ (λ (z : ℤ) (r : List ℤ). z ∷ r) (+ℤ_idl y) (plus-zeros n b (le_of_suc-le-suc h))

pub length-plus : (a b : List ℤ) → length (plus a b) ≡ max (length a) (length b)
length-plus [] b = omega arith
length-plus (x ∷ a) [] = omega arith
length-plus (x ∷ a) (y ∷ b) = omega (arith, length-plus a b)

-- where the first row has ended
pub drop-plus : (a b : List ℤ) → length a ≤ length b → drop (length a) (plus a b) ≡ drop (length a) b
drop-plus [] b h = refl
drop-plus (x ∷ a) [] h = absurd (not-suc-le-zero h)
drop-plus (x ∷ a) (y ∷ b) h = drop-plus a b (le_of_suc-le-suc h)

pub plus-within : (b c : ℕ) (p q : List ℤ) → Within b p → Within c q → Within (b + c) (plus p q)
plus-within b c p q u v k =
    rw (plus-at p q k) (omega (arith, nat_abs-add (get_or p k (pos 0)) (get_or q k (pos 0)), u k, v k))

module _ (N : ℕ) where
  pub length-add_up : (pieces : ℕ) (row : List ℤ) → length row ≤ pieces * N → length (add_up N pieces row) ≡ min N (length row)
  unfolding add_up
  length-add_up zero [] h = omega arith
  length-add_up zero (x ∷ row) h = let w : ⊥ = omega arith in absurd w
  length-add_up (suc pieces) row h =
      length-plus (take N row) (add_up N pieces (drop N row))
      ∙ omega (arith, length-take N row, length-drop N row, length-add_up pieces (drop N row) (omega (arith, length-drop N row, suc-mul pieces N)))

  add_up-within : (b pieces : ℕ) (row : List ℤ) → Within b row → Within (pieces * b) (add_up N pieces row)
  unfolding add_up
  add_up-within b zero row w k = omega arith
  add_up-within b (suc pieces) row w k =
      omega (
        arith,
        suc-mul pieces b,
        plus-within b (pieces * b) (take N row) (add_up N pieces (drop N row))
            (within-take b N row w) (add_up-within b pieces (drop N row) (within-drop b N row w)) k,
      )

-- ---- rate matching undone

module _ (N : ℕ) (row : List ℤ) where
  -- repeats added give N values
  pub length-total : 0 < N → N ≤ length row → length (add_up N (suc (length row / N)) row) ≡ N
  length-total h f = length-add_up N (suc (length row / N)) row enough ∙ omega arith
    where
      enough : length row ≤ suc (length row / N) * N
      enough = omega (arith, suc-mul (length row / N) N, div-add-mod' (length row) N, mod-lt (length row) {m = N} h)

  pub length-gather : (kind : RateMatching) → 0 < N → Fits kind N (length row) → length (gather kind N (length row) row) ≡ N
  unfolding gather
  length-gather Repetition h f = length-total h f
  length-gather Puncturing h f =
      length-append (replicate (N - length row) (pos 0)) row ∙ omega (arith, length-replicate (N - length row) (pos 0))
  length-gather Shortening h f =
      length-append row (replicate (N - length row) certain) ∙ omega (arith, length-replicate (N - length row) certain)

  gather-within : (kind : RateMatching) (E : ℕ) → E ≤ 1728 → Within 127 row → Within (2 ^ 20) (gather kind N E row)
  unfolding gather certain
  gather-within Repetition E h w k =
      omega (arith, div-le_self E N, add_up-within N 127 (suc (E / N)) row w k)
  gather-within Puncturing E h w k =
      within-append (2 ^ 20) (replicate (N - E) (pos 0)) row (within-replicate (2 ^ 20) (N - E) (pos 0) (omega arith)) (λ i. omega (arith, w i)) k
  gather-within Shortening E h w k =
      within-append (2 ^ 20) row (replicate (N - E) certain) (λ i. omega (arith, w i)) (within-replicate (2 ^ 20) (N - E) certain (omega arith)) k

pub length-by_position : (N : ℕ) (y : List ℤ) → length (by_position N y) ≡ N
length-by_position N y = length-table (λ p. get_or y (place p (map (J N) (count 0 N))) (pos 0)) 0 N

pub get_or-by_position : (k : ℕ) (y : List ℤ) (p : ℕ) → p < 2 ^ (k + 5) → get_or (by_position (2 ^ (k + 5)) y) p (pos 0) ≡ get_or y (rank k p) (pos 0)
get_or-by_position k y p h =
    let N : ℕ = 2 ^ (k + 5) in
    get_or-table (λ p. get_or y (place p (map (J N) (count 0 N))) (pos 0)) N p (pos 0) h
    ∙ ap (λ (i : ℕ). get_or y i (pos 0)) (place-J k p h)

module _ (kind : RateMatching) (N E : ℕ) (row : List ℤ) where
  pub code_row-is : code_row kind N E row ≡ by_position N (gather kind N E row)
  unfolding code_row
  code_row-is = refl

  pub length-code_row : length (code_row kind N E row) ≡ N
  length-code_row = ap length code_row-is ∙ length-by_position N (gather kind N E row)

  -- the decoder's values are small
  pub code_row-within : E ≤ 1728 → Within 127 row → Within (2 ^ 20) (code_row kind N E row)
  code_row-within h w =
      subst (Within (2 ^ 20)) (sym code_row-is)
      (within-map (2 ^ 20) (λ p. get_or (gather kind N E row) (place p (map (J N) (count 0 N))) (pos 0)) (count 0 N)
      (λ p. gather-within N row kind E h w (place p (map (J N) (count 0 N)))))
