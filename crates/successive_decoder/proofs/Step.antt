-- One level of the decoder, on lists: what each half is given, and what two halves make.
-- Assumes nothing.
use Prim.Native.Nat.{ℕ, zero, suc, ◌+◌, ◌-◌, ◌*◌, ◌/◌, ◌≤◌, ◌<◌, ◌^◌}
use native.Mathlib.Nat.{pow-suc, mul_comm}
use native.Mathlib.Omega.{arith}
use mathlib.Core.Path.{◌≡◌, refl, sym, ap, ap₂, ◌∙◌, subst}
use mathlib.Core.List.{List, [], ◌∷◌, ◌++◌}
use lib.Pow.{pow_pos, pow_mono}
use lib.IntN.{ℤ, pos, nat_abs}
use lib.ListN.{length, get_or, set, take, drop, length-append, length-drop}
use lib.Seq.{length-take-le, take_at, drop_at, drop-drop, take_all, get_or-take, get_or-drop}
use borrow.Rule.Slice.PartMut.{put_mid}
use mir.Syntax.{w32}
use mir.Val.{SFits}
use Rattle.nr.specs.Rows.{xors, Bits, Within}
use Rattle.nr.specs.Transform.{transform}
use Rattle.nr.specs.SuccessiveDecoder.{fs, gs, decide, successive}
use Rattle.nr.proofs.Ints.{fits}
use Rattle.nr.proofs.Transform.{bits-transform}
use Rattle.nr.proofs.SuccessiveDecoder.{bits-successive}
use Rattle.nr.proofs.Zip.{bits-append}
use Rattle.rows.proofs.Parts.{two-parts}
use Rattle.successive_decoder.specs.Levels.{row_of, Bound, Ready}
use Rattle.successive_decoder.proofs.Bounds.{bound-within, bound-f, bound-g, bound-top}

pow-half : (n : ℕ) → (n ≡ 0 → ⊥) → 2 ^ n ≡ 2 * 2 ^ (n - 1)
pow-half zero ne = absurd (ne refl)
pow-half (suc k) ne =
    let e : k ≡ suc k - 1 = omega arith in
    pow-suc 2 k ∙ mul_comm (2 ^ k) 2 ∙ ap (λ (j : ℕ). 2 * 2 ^ j) e

-- ---- the definitions, one level down

successive-halves : (n : ℕ) → (n ≡ 0 → ⊥) → (marks : List ℕ) (row : List ℤ) (u₁ u₂ : List ℕ)
    → u₁ ≡ successive (n - 1) (take (2 ^ (n - 1)) marks) (fs (take (2 ^ (n - 1)) row) (drop (2 ^ (n - 1)) row))
    → u₂ ≡ successive (n - 1) (drop (2 ^ (n - 1)) marks) (gs (transform (n - 1) u₁) (take (2 ^ (n - 1)) row) (drop (2 ^ (n - 1)) row))
    → u₁ ++ u₂ ≡ successive n marks row
unfolding successive
successive-halves zero ne marks row u₁ u₂ e₁ e₂ = absurd (ne refl)
successive-halves (suc k) ne marks row u₁ u₂ e₁ e₂ =
    let e : suc k - 1 ≡ k = omega arith in
    let q₁ = subst (λ (j : ℕ). u₁ ≡ successive j (take (2 ^ j) marks) (fs (take (2 ^ j) row) (drop (2 ^ j) row))) e e₁ in
    let q₂ = subst (λ (j : ℕ). u₂ ≡ successive j (drop (2 ^ j) marks) (gs (transform j u₁) (take (2 ^ j) row) (drop (2 ^ j) row))) e e₂ in
    ap (λ (u : List ℕ). u₁ ++ u) q₂
    ∙ ap (λ (u : List ℕ). u ++ successive k (drop (2 ^ k) marks) (gs (transform k u) (take (2 ^ k) row) (drop (2 ^ k) row))) q₁

transform-halves : (n : ℕ) → (n ≡ 0 → ⊥) → (u₁ u₂ : List ℕ) → length u₁ ≡ 2 ^ (n - 1)
    → xors (transform (n - 1) u₁) (transform (n - 1) u₂) ++ transform (n - 1) u₂ ≡ transform n (u₁ ++ u₂)
unfolding transform
transform-halves zero ne u₁ u₂ l = absurd (ne refl)
transform-halves (suc k) ne u₁ u₂ l =
    let e : suc k - 1 ≡ k = omega arith in
    let l' : length u₁ ≡ 2 ^ k = l ∙ ap (λ (j : ℕ). 2 ^ j) e in
    ap (λ (j : ℕ). xors (transform j u₁) (transform j u₂) ++ transform j u₂) e
    ∙ sym (ap₂ (λ (x y : List ℕ). xors (transform k x) (transform k y) ++ transform k y) (take_at u₁ u₂ (2 ^ k) l') (drop_at u₁ u₂ (2 ^ k) l'))

-- ---- a level of the recursion, stage by stage

-- a longer row depends on what stands behind the shorter ones
row_kept : (M : ℕ) (x y : List ℤ) → drop M x ≡ drop M y → row_of M x ≡ row_of M y
row_kept M x y e = ap (take M) e

size-kept : (M : ℕ) (x y : List ℤ) → drop M x ≡ drop M y → M < length y → length x ≡ length y
size-kept M x y e l = omega (arith, length-drop M x, length-drop M y, ap length e)

behind : (h : ℕ) (x y : List ℤ) → drop h x ≡ drop h y → drop (2 * h) x ≡ drop (2 * h) y
behind h x y e =
    let t : 2 * h ≡ h + h = omega arith in
    ap (λ (k : ℕ). drop k x) t ∙ sym (drop-drop h h x) ∙ ap (drop h) e ∙ drop-drop h h y ∙ ap (λ (k : ℕ). drop k y) (sym t)

-- What stands after each stage of a level that was given w, the marks c and the buffers e and s. Half a row is h.
module _ (n : ℕ) (w : List ℤ) (c e s : List ℕ) where
  abbrev pub h : ℕ
  h = length c / 2

  abbrev row : List ℤ
  row = row_of (2 * h) w

  -- the row that f makes, and the one that g makes with the bits v, in an array x
  abbrev pub ByF : List ℤ → Type 0
  ByF x = row_of h x ≡ fs (take h (row_of (2 * h) w)) (drop h (row_of (2 * h) w))

  abbrev pub ByG : List ℕ → List ℤ → List ℤ → Type 0
  ByG v y x = row_of h x ≡ gs (take h v) (take h (row_of (2 * h) y)) (drop h (row_of (2 * h) y))

  -- what g is given, an array y and bits v, is long and small enough
  abbrev pub Given : List ℤ → List ℕ → Type 0
  Given y v = (length y ≡ 1024) × (4 * h ≤ 1024) × Within (2 ^ 28) (row_of (2 * h) y) × (h ≤ length v)

  -- f has made the first half's row
  pub record Split : Type 0 where
    pub w₁ : List ℤ
    pub row₁ : ByF w₁
    pub kept₁ : drop (2 * h) w₁ ≡ drop (2 * h) w

  -- the first half is decided
  pub record First : Type 0 where
    pub split : Split
    pub w₂ : List ℤ
    pub e₁ : List ℕ
    pub s₁ : List ℕ
    pub est-size₁ : length e₁ ≡ length (take h e)
    pub sums-size₁ : length s₁ ≡ length (take h s)
    pub est₁ : e₁ ≡ successive (n - 1) (take h c) (row_of (2 ^ (n - 1)) split.w₁)
    pub sums₁ : s₁ ≡ transform (n - 1) (successive (n - 1) (take h c) (row_of (2 ^ (n - 1)) split.w₁))
    pub kept₂ : drop (2 ^ (n - 1)) w₂ ≡ drop (2 ^ (n - 1)) split.w₁

  -- g has made the second half's row
  pub record Again : Type 0 where
    pub first : First
    pub w₃ : List ℤ
    pub row₃ : ByG (first.s₁ ++ drop h s) first.w₂ w₃
    pub kept₃ : drop (2 * h) w₃ ≡ drop (2 * h) first.w₂

  -- the second half is decided
  pub record Both : Type 0 where
    pub again : Again
    pub w₄ : List ℤ
    pub e₂ : List ℕ
    pub s₂ : List ℕ
    pub sums-size₂ : length s₂ ≡ length (take (length (again.first.s₁ ++ drop h s) - h) (drop h (again.first.s₁ ++ drop h s)))
    pub est₂ : e₂ ≡ successive (n - 1) (take (length c - h) (drop h c)) (row_of (2 ^ (n - 1)) again.w₃)
    pub sums₂ : s₂ ≡ transform (n - 1) (successive (n - 1) (take (length c - h) (drop h c)) (row_of (2 ^ (n - 1)) again.w₃))
    pub kept₄ : drop (2 ^ (n - 1)) w₄ ≡ drop (2 ^ (n - 1)) again.w₃

module _ {n : ℕ} {w : List ℤ} {c e s : List ℕ} (ne : n ≡ 0 → ⊥) (r : Ready n w c e s) where
  abbrev H : ℕ
  H = h n w c e s

  abbrev R : List ℤ
  R = row n w c e s

  half_is : H ≡ 2 ^ (n - 1)
  half_is = omega (arith, r.marked, pow-half n ne)

  two : 2 * H ≡ 2 ^ n
  two = omega (arith, half_is, pow-half n ne)

  both : length c ≡ 2 * H
  both = r.marked ∙ sym two

  some : 1 ≤ H
  some = omega (arith, half_is, pow_pos (n - 1))

  most : 4 * H ≤ 1024
  most = let p : 2 ^ n ≤ 2 ^ 9 = pow_mono {i = n} {j = 9} r.few in omega (arith, two)

  row-size : length R ≡ 2 * H
  row-size = length-take-le (2 * H) (drop (2 * H) w) (omega (arith, length-drop (2 * H) w, r.whole, most))

  row-bound : Bound (2 * H) R
  row-bound = subst (λ (M : ℕ). Bound M (row_of M w)) (sym two) r.bound

  pub f-asks : (length w ≡ 1024) × (4 * H ≤ 1024) × Within (2 ^ 28) (row_of (2 * H) w)
  f-asks = (r.whole, most, bound-within R H row-size row-bound some)

  -- what a half is given, its row being T
  half-ready : (x T : List ℤ) (c' e' s' : List ℕ) → row_of H x ≡ T → drop (2 * H) x ≡ drop (2 * H) w → Bound H T
      → length c' ≡ H → length e' ≡ H → length s' ≡ H → Ready (n - 1) x c' e' s'
  half-ready x T c' e' s' q k b lc le ls = record {
    few = omega (arith, r.few);
    whole = size-kept (2 * H) x w k (omega (arith, r.whole, most)) ∙ r.whole;
    marked = lc ∙ half_is;
    bits = le ∙ half_is;
    words = ls ∙ half_is;
    bound = subst (λ (M : ℕ). Bound M (row_of M x)) half_is (subst (Bound H) (sym q) b);
  }

  -- ---- the first half

  pub ready-first : (x : Split n w c e s) → Ready (n - 1) x.w₁ (take H c) (take H e) (take H s)
  ready-first x =
      half-ready x.w₁ (fs (take H R) (drop H R)) (take H c) (take H e) (take H s) x.row₁ x.kept₁ (bound-f R H row-size row-bound)
      (length-take-le H c (omega (arith, both)))
      (length-take-le H e (omega (arith, r.bits, two)))
      (length-take-le H s (omega (arith, r.words, two)))

  module _ (x : First n w c e s) where
    e₁-size : length x.e₁ ≡ H
    e₁-size = x.est-size₁ ∙ length-take-le H e (omega (arith, r.bits, two))

    s₁-size : length x.s₁ ≡ H
    s₁-size = x.sums-size₁ ∙ length-take-le H s (omega (arith, r.words, two))

    e₁-is : x.e₁ ≡ successive (n - 1) (take (2 ^ (n - 1)) c) (fs (take (2 ^ (n - 1)) R) (drop (2 ^ (n - 1)) R))
    e₁-is =
        subst (λ (M : ℕ). x.e₁ ≡ successive (n - 1) (take M c) (fs (take M R) (drop M R))) half_is
        (x.est₁ ∙ ap (λ (M : ℕ). successive (n - 1) (take H c) (row_of M x.split.w₁)) (sym half_is) ∙ ap (successive (n - 1) (take H c)) x.split.row₁)

    s₁_is : x.s₁ ≡ transform (n - 1) x.e₁
    s₁_is = x.sums₁ ∙ ap (transform (n - 1)) (sym x.est₁)

    w₂-kept : drop (2 * H) x.w₂ ≡ drop (2 * H) w
    w₂-kept = behind H x.w₂ x.split.w₁ (subst (λ (M : ℕ). drop M x.w₂ ≡ drop M x.split.w₁) (sym half_is) x.kept₂) ∙ x.split.kept₁

    row_is : row_of (2 * H) x.w₂ ≡ R
    row_is = row_kept (2 * H) x.w₂ w w₂-kept

    v-is : take H (x.s₁ ++ drop H s) ≡ x.s₁
    v-is = take_at x.s₁ (drop H s) H s₁-size

    pub g-asks : Given n w c e s x.w₂ (x.s₁ ++ drop H s)
    g-asks = (
      size-kept (2 * H) x.w₂ w w₂-kept (omega (arith, r.whole, most)) ∙ r.whole,
      most,
      subst (Within (2 ^ 28)) (sym row_is) f-asks.2,
      omega (arith, length-append x.s₁ (drop H s), s₁-size),
    )

  -- ---- the second half

  -- the rest of a row of bits whose first half is a
  rest-size : (a b : List ℕ) → length a ≡ H → length b ≡ 2 ^ n → length (take (length (a ++ drop H b) - H) (drop H (a ++ drop H b))) ≡ H
  rest-size a b la lb =
      length-take-le (length (a ++ drop H b) - H) (drop H (a ++ drop H b)) (omega (arith, length-drop H (a ++ drop H b)))
      ∙ omega (arith, length-append a (drop H b), length-drop H b, two)

  marks-rest : take (length c - H) (drop H c) ≡ drop H c
  marks-rest = take_all (length c - H) (drop H c) (omega (arith, length-drop H c))

  module _ (y : Again n w c e s) where
    abbrev x : First n w c e s
    x = y.first

    row₃-is : row_of H y.w₃ ≡ gs x.s₁ (take H R) (drop H R)
    row₃-is = y.row₃ ∙ ap₂ (λ (v : List ℕ) (z : List ℤ). gs v (take H z) (drop H z)) (v-is x) (row_is x)

    pub ready-second : Ready (n - 1) y.w₃ (take (length c - H) (drop H c))
        (take (length (x.e₁ ++ drop H e) - H) (drop H (x.e₁ ++ drop H e)))
        (take (length (x.s₁ ++ drop H s) - H) (drop H (x.s₁ ++ drop H s)))
    ready-second =
        half-ready y.w₃ (gs x.s₁ (take H R) (drop H R)) _ _ _ row₃-is (y.kept₃ ∙ w₂-kept x) (bound-g R H row-size row-bound x.s₁ (s₁-size x))
        (ap length marks-rest ∙ length-drop H c ∙ omega (arith, both))
        (rest-size x.e₁ e (e₁-size x) r.bits)
        (rest-size x.s₁ s (s₁-size x) r.words)

  -- ---- the two together

  module _ (z : Both n w c e s) where
    abbrev y : Again n w c e s
    y = z.again

    abbrev x' : First n w c e s
    x' = z.again.first

    e₂-is : z.e₂ ≡ successive (n - 1) (drop (2 ^ (n - 1)) c) (gs (transform (n - 1) x'.e₁) (take (2 ^ (n - 1)) R) (drop (2 ^ (n - 1)) R))
    e₂-is =
        subst (λ (M : ℕ). z.e₂ ≡ successive (n - 1) (drop M c) (gs (transform (n - 1) x'.e₁) (take M R) (drop M R))) half_is
        (z.est₂ ∙ ap₂ (λ (m : List ℕ) (M : ℕ). successive (n - 1) m (row_of M y.w₃)) marks-rest (sym half_is)
        ∙ ap (successive (n - 1) (drop H c)) (row₃-is y ∙ ap (λ (v : List ℕ). gs v (take H R) (drop H R)) (s₁_is x')))

    s₂_is : z.s₂ ≡ transform (n - 1) z.e₂
    s₂_is = z.sums₂ ∙ ap (transform (n - 1)) (sym z.est₂)

    s₂-size : length z.s₂ ≡ H
    s₂-size = z.sums-size₂ ∙ rest-size x'.s₁ s (s₁-size x') r.words

    whole : x'.e₁ ++ z.e₂ ≡ successive n c (row_of (2 ^ n) w)
    whole = successive-halves n ne c R x'.e₁ z.e₂ (e₁-is x') e₂-is ∙ ap (λ (M : ℕ). successive n c (row_of M w)) two

    bits_of : (a m : List ℕ) (b : List ℤ) → a ≡ transform (n - 1) (successive (n - 1) m b) → Bits a
    bits_of a m b q = subst Bits (sym q) (bits-transform (n - 1) (successive (n - 1) m b) (bits-successive (n - 1) m b))

    -- the row of code bits with both parts back in it
    abbrev both_sums : List ℕ
    both_sums = put_mid H (length (x'.s₁ ++ drop H s) - H) (x'.s₁ ++ drop H s) z.s₂

    both-sums-are : both_sums ≡ x'.s₁ ++ z.s₂
    both-sums-are = two-parts x'.s₁ (drop H s) z.s₂ H (s₁-size x')

    pub combine-asks : (length both_sums ≡ 2 * H) × Bits both_sums
    combine-asks = (
      ap length both-sums-are ∙ length-append x'.s₁ z.s₂ ∙ omega (arith, s₁-size x', s₂-size),
      subst Bits (sym both-sums-are) (bits-append x'.s₁ z.s₂ (bits_of x'.s₁ _ _ x'.sums₁) (bits_of z.s₂ _ _ z.sums₂)),
    )

    pub est-is : put_mid H (length (x'.e₁ ++ drop H e) - H) (x'.e₁ ++ drop H e) z.e₂ ≡ successive n c (row_of (2 ^ n) w)
    est-is = two-parts x'.e₁ (drop H e) z.e₂ H (e₁-size x') ∙ whole

    pub sums-are : (a : List ℕ) → a ≡ xors (take H both_sums) (drop H both_sums) ++ drop H both_sums → a ≡ transform n (successive n c (row_of (2 ^ n) w))
    sums-are a q =
        q ∙ ap (λ (b : List ℕ). xors (take H b) (drop H b) ++ drop H b) both-sums-are
        ∙ ap₂ (λ (b d : List ℕ). xors b d ++ d) (take_at x'.s₁ z.s₂ H (s₁-size x') ∙ s₁_is x') (drop_at x'.s₁ z.s₂ H (s₁-size x') ∙ s₂_is)
        ∙ transform-halves n ne x'.e₁ z.e₂ (e₁-size x' ∙ half_is) ∙ ap (transform n) whole

    pub work-kept : drop (2 ^ n) z.w₄ ≡ drop (2 ^ n) w
    work-kept =
        subst (λ (M : ℕ). drop M z.w₄ ≡ drop M w) two
        (behind H z.w₄ y.w₃ (subst (λ (M : ℕ). drop M z.w₄ ≡ drop M y.w₃) (sym half_is) z.kept₄) ∙ y.kept₃ ∙ w₂-kept x')

-- ---- a single position

stored : (e : List ℕ) (u : ℕ) → length e ≡ 1 → set e 0 u ≡ u ∷ []
stored [] u l = absurd (let z : ◌≡◌ {A = ℕ} 0 1 = l in omega arith)
stored (x ∷ []) u l = refl
stored (x ∷ y ∷ e) u l = absurd (omega arith)

only : (w : List ℤ) → get_or (row_of 1 w) 0 (pos 0) ≡ get_or w 1 (pos 0)
only w = get_or-take 1 (drop 1 w) 0 (pos 0) (omega arith) ∙ get_or-drop 1 w 0 (pos 0)

pub one-est : (n : ℕ) (w : List ℤ) (c e : List ℕ) (u : ℕ) → n ≡ 0 → length e ≡ 2 ^ n → u ≡ decide (get_or c 0 0) (get_or w 1 (pos 0))
    → set e 0 u ≡ successive n c (row_of (2 ^ n) w)
unfolding successive
one-est zero w c e u z le q = stored e u le ∙ ap (λ (y : ℕ). y ∷ []) (q ∙ ap (decide (get_or c 0 0)) (sym (only w)))
one-est (suc k) w c e u z le q = absurd (omega arith)

pub one-sums : (n : ℕ) (w : List ℤ) (c e : List ℕ) (u : ℕ) → n ≡ 0 → length e ≡ 2 ^ n → u ≡ decide (get_or c 0 0) (get_or w 1 (pos 0))
    → set e 0 u ≡ transform n (successive n c (row_of (2 ^ n) w))
unfolding transform
one-sums zero w c e u z le q = one-est zero w c e u z le q
one-sums (suc k) w c e u z le q = absurd (omega arith)

pub one-fits : (n : ℕ) (w : List ℤ) → n ≡ 0 → Bound (2 ^ n) (row_of (2 ^ n) w) → SFits w32 (get_or w 1 (pos 0))
one-fits zero w z b = fits (get_or w 1 (pos 0)) (subst (λ (x : ℤ). nat_abs x ≤ 2 ^ 30) (only w) (omega (arith, b 0 (omega arith))))
one-fits (suc k) w z b = absurd (omega arith)

-- ---- the whole row, at the top
module _ (n : ℕ) (few : n ≤ 9) (marks : List ℕ) (lm : length marks ≡ 2 ^ n) where
  power : 2 ^ n ≤ 2 ^ 9
  power = pow_mono {i = n} {j = 9} few

  pub top_ready : (work : List ℤ) (est sums : List ℕ) → length work ≡ 1024 → length est ≡ 2 ^ n → length sums ≡ 2 ^ n
      → Within (2 ^ 20) (row_of (2 ^ n) work) → Ready n work marks est sums
  top_ready work est sums whole le ls small = record {
    few = few;
    whole = whole;
    marked = lm;
    bits = le;
    words = ls;
    bound = bound-top (row_of (2 ^ n) work) (2 ^ n) power small;
  }
