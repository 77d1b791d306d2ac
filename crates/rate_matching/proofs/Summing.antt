-- The loop that adds up the pieces of a row.
-- Assumes nothing.
use Prim.Native.Nat.{ℕ, suc, ◌+◌, ◌-◌, ◌*◌, ◌/◌, ◌^◌, ◌≤◌, ◌<◌}
use native.Mathlib.Nat.{add-div_right, div-eq_of_lt, lt_of_not-le}
use native.Mathlib.Decide.{dec_le}
use native.Mathlib.Numerals.{add-one}
use native.Mathlib.Omega.{arith}
use mathlib.Core.Path.{◌≡◌, refl, sym, subst⁻¹, ap, ap₂, ◌∙◌}
use mathlib.Core.List.{List, [], ◌++◌, append-nil}
use lib.IntN.{ℤ, pos, nat_abs, ◌+ℤ◌, +ℤ_comm}
use lib.ListN.{length, get_or, take, drop, replicate, length-append, length-drop}
use lib.Seq.{take_all, take_at, drop_at}
use mir.Syntax.{w32}
use mir.Val.{SFits, to_z, of_z}
use Rattle.std.specs.Prelude.{min}
use Rattle.std.proofs.lemmas.List.{nil_from_length}
use Rattle.nr.specs.SuccessiveDecoder.{plus, add_up}
use Rattle.nr.specs.Rows.{Within}
use Rattle.nr.proofs.Ints.{within-take, within-drop, within-replicate, sum_fits, sum_is}
use Rattle.nr.proofs.Gather.{plus-at}
use Rattle.nr.proofs.SoftRows.{plus_comm, plus_assoc, plus-zeros, plus-within, length-plus, length-total}

-- ---- one value

-- the sum that a turn stores
module _ (piece y row : List ℤ) (i : ℕ) (same : get_or row i (pos 0) ≡ get_or y i (pos 0)) (p : Within 127 piece) (q : Within (2 ^ 20) y) where
  low : nat_abs (get_or row i (pos 0)) + nat_abs (get_or piece i (pos 0)) ≤ 2 ^ 30
  low = omega (arith, p i, ap nat_abs same, q i)

  pub added-fits : SFits w32 (to_z w32 (of_z w32 (get_or row i (pos 0))) +ℤ to_z w32 (of_z w32 (get_or piece i (pos 0))))
  added-fits = sum_fits (get_or row i (pos 0)) (get_or piece i (pos 0)) low

  pub added_is : to_z w32 (of_z w32 (to_z w32 (of_z w32 (get_or row i (pos 0))) +ℤ to_z w32 (of_z w32 (get_or piece i (pos 0))))) ≡ get_or (plus piece y) i (pos 0)
  added_is =
      sum_is (get_or row i (pos 0)) (get_or piece i (pos 0)) low
      ∙ ap (λ (z : ℤ). z +ℤ get_or piece i (pos 0)) same ∙ +ℤ_comm (get_or y i (pos 0)) (get_or piece i (pos 0)) ∙ sym (plus-at piece y i)

pub length-added : (piece y : List ℤ) → length piece ≤ length y → length (plus piece y) ≡ length y
length-added piece y h = length-plus piece y ∙ omega arith

-- ---- pieces

-- the sum of all pieces
abbrev pub total : ℕ → List ℤ → List ℤ
total N row = add_up N (suc (length row / N)) row

module _ (N : ℕ) (row : List ℤ) where
  total-more : 0 < N → N ≤ length row → total N row ≡ plus (take N row) (total N (drop N row))
  unfolding add_up
  total-more h l =
      let e : length row ≡ length (drop N row) + N = omega (arith, length-drop N row) in
      ap (λ (q : ℕ). add_up N (suc q) row) (ap (λ (m : ℕ). m / N) e ∙ add-div_right (length (drop N row)) h ∙ add-one (length (drop N row) / N))

  total-last : length row < N → total N row ≡ row
  unfolding add_up
  total-last l = ap (λ (q : ℕ). add_up N (suc q) row) (div-eq_of_lt l) ∙ plus_comm (take N row) _ ∙ take_all N row (omega arith)

-- what y has, and what is still to come, give the whole sum
pub record Summing (N : ℕ) (soft y rest : List ℤ) : Type 0 where
  pub size : length y ≡ N
  pub fewer : length rest ≤ length soft
  pub values : Within 127 rest
  pub small : Within (127 * (length soft - length rest)) y
  pub holds : plus y (total N rest) ≡ total N soft

-- before the first turn
pub summing : (N : ℕ) (soft y rest : List ℤ) → 0 < N → N ≤ length soft → length y ≡ N → y ≡ replicate (length y) (pos 0) → Within 127 soft → rest ≡ soft
    → Summing N soft y rest
summing N soft y rest h l s z w e = record {
  size = s;
  fewer = omega (arith, ap length e);
  values = subst⁻¹ (Within 127) e w;
  small = subst⁻¹ (Within _) z (within-replicate _ (length y) (pos 0) (omega arith));
  holds =
      ap (λ (r : List ℤ). plus y (total N r)) e
      ∙ ap (λ (r : List ℤ). plus r (total N soft)) z ∙ plus-zeros (length y) (total N soft) (omega (arith, length-total N soft h l));
}

module _ {N : ℕ} {soft y rest : List ℤ} (f : Summing N soft y rest) (limit : length soft ≤ 1728)
    (piece left : List ℤ) (cut : rest ≡ piece ++ left) (long : length piece ≡ min N (length rest)) where
  -- the piece is rest's front
  front : piece ≡ take (length piece) rest
  front = sym (take_at piece left (length piece) refl) ∙ ap (take (length piece)) (sym cut)

  -- what `add` asks of it
  piece-asks : (length piece ≤ length y) × Within 127 piece × Within (2 ^ 20) y
  piece-asks = (
    omega (arith, long, f.size),
    subst⁻¹ (Within 127) front (within-take 127 (length piece) rest f.values),
    (λ k. omega (arith, f.small k)),
  )

  parts : length rest ≡ length piece + length left
  parts = ap length cut ∙ length-append piece left

  -- a whole piece, or the last, which is shorter
  total-is : 0 < N → total N rest ≡ plus piece (total N left)
  total-is h = elim (dec_le N (length rest)) [
    | yes l ↦
        let n : length piece ≡ N = omega (arith, long) in
        total-more N rest h l
        ∙ ap₂ (λ (a b : List ℤ). plus a (total N b)) (ap (take N) cut ∙ take_at piece left N n) (ap (drop N) cut ∙ drop_at piece left N n)
    | no l ↦
        let n : length left ≡ 0 = omega (arith, long, parts, lt_of_not-le l) in
        let none : left ≡ [] = nil_from_length left n in
        total-last N rest (lt_of_not-le l) ∙ cut ∙ ap (λ (r : List ℤ). piece ++ r) none ∙ append-nil piece
        ∙ plus_comm [] piece ∙ ap (plus piece) (sym (total-last N left (omega (arith, n)) ∙ none))
  ]

  -- a turn adds it
  pub summing-more : 0 < N → 0 < length rest → (y' : List ℤ) → y' ≡ plus piece y → Summing N soft y' left
  summing-more h more y' is =
      let room : length piece ≤ length y = piece-asks.0 in
      record {
        size = ap length is ∙ length-added piece y room ∙ f.size;
        fewer = omega (arith, parts, f.fewer);
        values = subst⁻¹ (Within 127) (sym (drop_at piece left (length piece) refl) ∙ ap (drop (length piece)) (sym cut)) (within-drop 127 (length piece) rest f.values);
        small = λ k. omega (arith, ap (λ (r : List ℤ). nat_abs (get_or r k (pos 0))) is, plus-within 127 (127 * (length soft - length rest)) piece y piece-asks.1 f.small k, parts, long, f.fewer);
        holds =
            ap (λ (r : List ℤ). plus r (total N left)) (is ∙ plus_comm piece y)
            ∙ plus_assoc y piece (total N left)
            ∙ ap (plus y) (sym (total-is h))
            ∙ f.holds;
      }

-- after the last
pub summed : {N : ℕ} {soft y rest : List ℤ} → Summing N soft y rest → 0 < N → length rest ≡ 0 → y ≡ total N soft
summed {N} {soft} {y} {rest} f h e =
    plus_comm [] y ∙ ap (plus y) (sym (total-last N rest (omega (arith, e)) ∙ nil_from_length rest e)) ∙ f.holds
