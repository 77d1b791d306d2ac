-- The loops that copy whole sub-blocks: from code order to sub-block order, and back.
-- Assumes nothing.
use Prim.Native.Nat.{ℕ, ◌+◌, ◌-◌, ◌*◌, ◌/◌, ◌%◌, ◌^◌, ◌≤◌, ◌<◌}
use native.Mathlib.Nat.{mul-le-mul_right, suc-mul, div-add-mod', mod-lt, mul_comm, not-suc-le-zero, lt_of_not-le}
use native.Mathlib.Decide.{dec_le}
use native.Mathlib.Numerals.{add-one}
use native.Mathlib.Omega.{arith}
use mathlib.Core.Path.{◌≡◌, refl, sym, subst, subst⁻¹, ap, ap₂, ◌∙◌}
use mathlib.Core.List.{List, map}
use lib.IntN.{ℤ, pos}
use lib.ListN.{length, get_or, take, drop}
use lib.Pow.{pow-add, pow_pos, pow_mono}
use lib.Seq.{ext_get_or, get_or-take, get_or-drop}
use borrow.Rule.Slice.PartMut.{put_mid, same_len_mid, mid_len}
use Rattle.nr.specs.Rows.{count, place}
use Rattle.nr.specs.Construction.{P, J, rank}
use Rattle.nr.specs.RateMatching.{sub_blocks}
use Rattle.nr.specs.SuccessiveDecoder.{by_position}
use Rattle.nr.proofs.Rows.{get_d_map, length-count, get_or-count}
use Rattle.nr.proofs.Words.{shl_one}
use Rattle.nr.proofs.SubBlocks.{J-at, inside, forth-at, back_at}
use Rattle.nr.proofs.Matching.{length-sub_blocks, get_or-sub_blocks}
use Rattle.nr.proofs.SoftRows.{length-by_position, get_or-by_position}
use Rattle.rows.proofs.Parts.{part_in, part-before}

-- ---- sizes; n is what nr's laws have as k + 5

pub code-size : (n : ℕ) → 5 ≤ n → 2 ^ (n - 5 + 5) ≡ 2 ^ n
code-size n h = let e : n - 5 + 5 ≡ n = omega arith in ap (λ (m : ℕ). 2 ^ m) e

-- the code word is at most 512 bits long
pub code-le : (n : ℕ) → n ≤ 9 → 2 ^ n ≤ 512
code-le n h = pow_mono {i = n} {j = 9} h

-- a sub-block's size is a shift of 1
abbrev pub S : ℕ → ℕ
S n = 1 * 2 ^ (n - 5) % 2 ^ 64

pub sized : (n : ℕ) → n ≤ 9 → S n ≡ 2 ^ (n - 5)
sized n h = shl_one (n - 5) (omega arith)

-- each of the 32 sub-blocks lies in a row of 2 ^ n
pub block-end : (n b : ℕ) → 5 ≤ n → n ≤ 9 → b < 32 → b * S n + S n ≤ 2 ^ n
block-end n b low high h =
    let le : (b + 1) * S n ≤ 32 * S n = mul-le-mul_right (S n) (omega arith) in
    let e : 2 ^ n ≡ 32 * S n =
    sym (code-size n low) ∙ pow-add 2 (n - 5) 5 ∙ mul_comm (2 ^ (n - 5)) 32 ∙ ap (λ (m : ℕ). 32 * m) (sym (sized n high)) in
    omega (arith, e, suc-mul b (S n), ap (λ (x : ℕ). x * S n) (add-one b), le)

-- turn b: the sub-block at `start`, which the order names, goes to the place at `at`, which is its own
pub record Turn (order : List ℕ) (n b at start : ℕ) : Type 0 where
  pub goes : at ≡ b * S n
  pub comes : start ≡ get_or order b 0 * S n
  pub own-end : at + S n ≤ 2 ^ n
  pub named_end : start + S n ≤ 2 ^ n

pub in-turn : {order : List ℕ} (n b start : ℕ) → 5 ≤ n → n ≤ 9 → b < 32 → ((b : ℕ) → b < 32 → get_or order b 0 < 32) → start ≡ get_or order b 0 * S n
    → Turn order n b (b * S n) start
in-turn {order} n b start low high h named comes = record {
  goes = refl;
  comes = comes;
  own-end = block-end n b low high h;
  named_end = omega (arith, comes, block-end n (get_or order b 0) low high (named b h));
}

-- ---- the loop, at a code length 2 ^ n

-- the place whose value position p gets
abbrev pub source : List ℕ → ℕ → ℕ → ℕ
source order n p = get_or order (p / 2 ^ (n - 5)) 0 * 2 ^ (n - 5) + p % 2 ^ (n - 5)

-- after b turns the first b sub-blocks have their values
pub record Moving {A : Type 0} (order : List ℕ) (n : ℕ) (x row : List A) (b : ℕ) : Type 0 where
  pub size : length row ≡ 2 ^ n
  pub holds : (none : A) (p : ℕ) → p < 2 ^ n → p / 2 ^ (n - 5) < b → get_or row p none ≡ get_or x (source order n p) none

-- before the first
pub moving : {A : Type 0} (order : List ℕ) (n : ℕ) (x row : List A) → length row ≡ 2 ^ n → Moving order n x row 0
moving order n x row e = record { size = e; holds = λ none p h l. absurd (not-suc-le-zero l) }

-- position p lies in one of the 32
block-lt : (n : ℕ) → 5 ≤ n → (p : ℕ) → p < 2 ^ n → p / 2 ^ (n - 5) < 32
block-lt n low p h = inside (n - 5) p (subst (λ (m : ℕ). p < m) (sym (code-size n low)) h)

module _ {A : Type 0} {order : List ℕ} {n : ℕ} {x row : List A} {b : ℕ} (f : Moving order n x row b) where
  -- after the last
  pub moved : 5 ≤ n → 32 ≤ b → (none : A) (p : ℕ) → p < 2 ^ n → get_or row p none ≡ get_or x (source order n p) none
  moved low l none p h = f.holds none p h (omega (arith, block-lt n low p h))

  -- turn b
  module _ (high : n ≤ 9) (long : length x ≡ 2 ^ n) {at start : ℕ} (t : Turn order n b at start)
      (piece : List A) (copied : piece ≡ take (start + S n - start) (drop start x)) where
    abbrev k : ℕ
    k = n - 5

    abbrev m : ℕ
    m = at + S n - at

    room : at + m ≤ length row
    room = omega (arith, t.own-end, f.size)

    full : length piece ≡ m
    full = ap length copied ∙ mid_len start (start + S n) x (omega (arith, t.named_end, long)) ∙ omega arith

    -- in the sub-block
    inner : (none : A) (p : ℕ) → p / 2 ^ k ≡ b → get_or (put_mid at m row piece) p none ≡ get_or x (source order n p) none
    inner none p q =
        let r : ℕ = p % 2 ^ k in
        let is : S n ≡ 2 ^ k = sized n high in
        let l : r < m = omega (arith, mod-lt p (pow_pos k)) in
        let split : p ≡ at + r = sym (div-add-mod' p (2 ^ k)) ∙ ap₂ (λ (x y : ℕ). x * y + r) q (sym is) ∙ ap (λ (x : ℕ). x + r) (sym t.goes) in
        let back : start + r ≡ source order n p = ap (λ (y : ℕ). y + r) t.comes ∙ ap₂ (λ (j y : ℕ). get_or order j 0 * y + r) (sym q) is in
        ap (λ (j : ℕ). get_or (put_mid at m row piece) j none) split
        ∙ part_in at m row piece none (omega (arith, room)) full r l
        ∙ ap (λ (y : List A). get_or y r none) copied
        ∙ get_or-take (start + S n - start) (drop start x) r none (omega arith) ∙ get_or-drop start x r none
        ∙ ap (λ (j : ℕ). get_or x j none) back

    -- before it
    outer : (none : A) (p : ℕ) → p / 2 ^ k < b → get_or (put_mid at m row piece) p none ≡ get_or row p none
    outer none p l =
        let is : S n ≡ 2 ^ k = sized n high in
        let e : p ≡ p / 2 ^ k * 2 ^ k + p % 2 ^ k = sym (div-add-mod' p (2 ^ k)) in
        let le : (p / 2 ^ k + 1) * 2 ^ k ≤ b * 2 ^ k = mul-le-mul_right (2 ^ k) (omega arith) in
        let s : b * S n ≡ b * 2 ^ k = ap (λ (x : ℕ). b * x) is in
        let u : (p / 2 ^ k + 1) * 2 ^ k ≡ p / 2 ^ k * 2 ^ k + 2 ^ k = ap (λ (x : ℕ). x * 2 ^ k) (add-one (p / 2 ^ k)) ∙ suc-mul (p / 2 ^ k) (2 ^ k) in
        part-before at m row piece none (omega (arith, room)) full p (omega (arith, e, le, s, u, t.goes, mod-lt p (pow_pos k)))

    pub moving-more : Moving order n x (put_mid at m row piece) (b + 1)
    moving-more = record {
      size = same_len_mid at m row piece (full ∙ sym (mid_len at (at + S n) row (omega (arith, room)))) ∙ f.size;
      holds = λ none p l q. elim (dec_le b (p / 2 ^ k)) [
        | yes u ↦ inner none p (omega arith)
        | no u ↦ let v : p / 2 ^ k < b = lt_of_not-le u in outer none p v ∙ f.holds none p l v
      ];
    }

-- ---- the two orders

-- each of its entries names a sub-block
pub named_P : (b : ℕ) → b < 32 → get_or P b 0 < 32
named_P b h = (forth-at b h).1

-- y_i is d at J(i); m is n as a number, where the call names it
pub code-ordered : {n m : ℕ} → n ≡ m → 5 ≤ n → (d y : List ℕ) → length y ≡ 2 ^ n
    → ((none p : ℕ) → p < 2 ^ m → get_or y p none ≡ get_or d (source P m p) none) → y ≡ sub_blocks (2 ^ n) d
code-ordered {n} {m} named low d y size is =
    ext_get_or 0 y (sub_blocks (2 ^ n) d) (size ∙ sym (length-sub_blocks (2 ^ n) d))
    (λ i l.
    let h : i < 2 ^ n = omega (arith, size) in
    at i h ∙ ap (λ (j : ℕ). get_or d j 0) (sym (J-at (n - 5) i) ∙ ap (λ (m : ℕ). J m i) (code-size n low)) ∙ sym (get_or-sub_blocks (2 ^ n) d i h))
  where
    at : (i : ℕ) → i < 2 ^ n → get_or y i 0 ≡ get_or d (source P n i) 0
    at = subst⁻¹ (λ (m : ℕ). (i : ℕ) → i < 2 ^ m → get_or y i 0 ≡ get_or d (source P m i) 0) named (is 0)

-- and back, by the places of P's entries
abbrev pub places : List ℕ
places = map (λ q. place q P) (count 0 32)

place-is : (q : ℕ) → q < 32 → get_or places q 0 ≡ place q P
place-is q h = get_d_map (λ q. place q P) (count 0 32) q 0 0 (omega (arith, length-count 0 32)) ∙ ap (λ (j : ℕ). place j P) (get_or-count 0 32 q 0 h ∙ omega arith)

pub named_places : (q : ℕ) → q < 32 → get_or places q 0 < 32
named_places q h = omega (arith, place-is q h, (back_at q h).1)

pub by-position : (n : ℕ) → 5 ≤ n → (y row : List ℤ) → length row ≡ 2 ^ n
    → ((none : ℤ) (p : ℕ) → p < 2 ^ n → get_or row p none ≡ get_or y (source places n p) none) → row ≡ by_position (2 ^ n) y
unfolding rank
by-position n low y row size is =
    ext_get_or (pos 0) row (by_position (2 ^ n) y) (size ∙ sym (length-by_position (2 ^ n) y))
    (λ p m.
    let h : p < 2 ^ n = omega (arith, size) in
    is (pos 0) p h ∙ ap (λ (q : ℕ). get_or y (q * 2 ^ (n - 5) + p % 2 ^ (n - 5)) (pos 0)) (place-is (p / 2 ^ (n - 5)) (block-lt n low p h))
    ∙ sym (rw (← (code-size n low)) (get_or-by_position (n - 5) y p (subst (λ (m : ℕ). p < m) (sym (code-size n low)) h))))
