-- A row that is filled from the front by pieces of another, over and over.
-- Assumes nothing.
use Prim.Native.Nat.{ℕ, ◌+◌, ◌-◌, ◌*◌, ◌/◌, ◌%◌, ◌≤◌, ◌<◌}
use native.Mathlib.Nat.{le_of_lt, mod-eq_of_lt, mul-add-mod_self_left, div-add-mod}
use native.Mathlib.Omega.{arith}
use mathlib.Core.Path.{◌≡◌, sym, subst, ap, ap₂, ◌∙◌}
use mathlib.Core.List.{List, map, ◌++◌, append_assoc}
use lib.ListN.{length, get_or, take, drop, length-drop}
use lib.Seq.{take_at, drop_at, drop-drop, take-add, length-take-le, get_or-take, get_or-drop, ext_get_or}
use borrow.Rule.Slice.PartMut.{put_mid}
use Rattle.nr.specs.Rows.{count, entries}
use Rattle.nr.proofs.Rows.{length-picked, get_d_picked}
use Rattle.std.specs.Prelude.{min}
use Rattle.std.proofs.Math.Nat.{min-eq_left}
use Rattle.rows.proofs.Filling.{Filling, filling-length, filled}

-- the next k entries of the new row come back in a part
pub filling-piece : {A : Type 0} {old new row : List A} {i : ℕ} → Filling old new row i → (k j : ℕ) (piece : List A) → i + k ≡ j → j ≤ length new
    → piece ≡ take k (drop i new) → Filling old new (put_mid i k row piece) j
filling-piece {A} {old} {new} {row} {i} f k j piece e l p =
    let n : length (take i new) ≡ i = length-take-le i new f.within in
    record {
      within = l;
      size = f.size;
      holds =
          ap (λ (r : List A). take i r ++ (piece ++ drop k (drop i r))) f.holds
          ∙ ap₂ (λ (a b : List A). a ++ (piece ++ drop k b)) (take_at (take i new) (drop i old) i n) (drop_at (take i new) (drop i old) i n)
          ∙ ap₂ (λ (a b : List A). take i new ++ (a ++ b)) p (drop-drop k i old)
          ∙ sym (append_assoc (take i new) (take k (drop i new)) (drop (i + k) old))
          ∙ ap (λ (a : List A). a ++ drop (i + k) old) (sym (take-add i k new))
          ∙ ap (λ (m : ℕ). take m new ++ drop m old) e;
    }

-- E entries of y, over and over
abbrev pub cycle : List ℕ → ℕ → List ℕ
cycle y E = entries (map (λ k. k % length y) (count 0 E)) y

module _ (y : List ℕ) (E : ℕ) where
  -- it has E entries
  pub length-cycle : length (cycle y E) ≡ E
  length-cycle = length-picked (λ k. k % length y) E y

  -- from a multiple of its length on, y comes anew
  pub cycle-anew : (i k : ℕ) → i % length y ≡ 0 → k ≤ length y → i + k ≤ E → take k (drop i (cycle y E)) ≡ take k y
  cycle-anew i k z l h =
      let n : length (take k (drop i (cycle y E))) ≡ k = length-take-le k (drop i (cycle y E)) (rw length-drop (omega (arith, length-cycle))) in
      ext_get_or 0 (take k (drop i (cycle y E))) (take k y) (n ∙ sym (length-take-le k y l))
      (λ m lm.
      let q : m < k = subst (λ (x : ℕ). m < x) n lm in
      get_or-take k (drop i (cycle y E)) m 0 q ∙ get_or-drop i (cycle y E) m 0
      ∙ get_d_picked (λ k. k % length y) E y (i + m) (omega arith)
      ∙ ap (λ (j : ℕ). get_or y j 0) (place m (omega arith))
      ∙ sym (get_or-take k y m 0 q))
    where
      -- m places further on stands y's entry m
      place : (m : ℕ) → m < length y → (i + m) % length y ≡ m
      place m q =
          let e : i + m ≡ length y * (i / length y) + m = omega (arith, div-add-mod i (length y)) in
          ap (λ (x : ℕ). x % length y) e ∙ mul-add-mod_self_left (length y) (i / length y) m ∙ mod-eq_of_lt q

  -- the next piece of y, up to j, comes back in a part
  pub next-piece : {old row : List ℕ} {i : ℕ} → length old ≡ E → Filling old (cycle y E) row i → i % length y ≡ 0 → (j : ℕ) (piece : List ℕ)
      → i ≤ j → j ≤ i + length y → j ≤ length row → piece ≡ take (j - i) y → Filling old (cycle y E) (put_mid i (j - i) row piece) j
  next-piece {old} {row} {i} s f z j piece b l h p =
      filling-piece f (j - i) j piece (omega arith) (omega (arith, filling-length f, length-cycle))
      (p ∙ sym (cycle-anew i (j - i) z (omega arith) (omega (arith, filling-length f))))

  -- a turn puts the next piece, or what has room of it; i goes past E in the last
  pub next-turn : {old row : List ℕ} {i : ℕ} → length old ≡ E → Filling old (cycle y E) row (min i E) → i % length y ≡ 0 → i < E
      → (k : ℕ) → k ≡ min (length y) (E - i) → (piece : List ℕ) → piece ≡ take k y
      → Filling old (cycle y E) (put_mid i (i + k - i) row piece) (min (i + length y) E)
  next-turn {old} {row} {i} s f z l k e piece p =
      let g : Filling old (cycle y E) row i = subst (λ (j : ℕ). Filling old (cycle y E) row j) (min-eq_left (le_of_lt l)) f in
      let j : i + k ≡ min (i + length y) E = omega (arith, e) in
      let same : k ≡ i + k - i = omega arith in
      subst (λ (j : ℕ). Filling old (cycle y E) (put_mid i (i + k - i) row piece) j) j
      (next-piece s g z (i + k) piece (omega arith) (omega (arith, e)) (omega (arith, filling-length g, e)) (p ∙ ap (λ (m : ℕ). take m y) same))

  -- after the last
  pub cycled : {old row : List ℕ} {i : ℕ} → Filling old (cycle y E) row (min i E) → E ≤ i → row ≡ cycle y E
  cycled f l = filled f (omega (arith, length-cycle))
