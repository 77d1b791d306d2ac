-- The values by sub-block order, as parts of a row that was 0.
-- Assumes nothing.
use Prim.Native.Nat.{ℕ, ◌+◌, ◌-◌, ◌≤◌, ◌<◌}
use native.Mathlib.Omega.{arith}
use mathlib.Core.Path.{◌≡◌, refl, sym, ap, ap₂, ◌∙◌}
use mathlib.Core.List.{List, ◌++◌, append-nil}
use lib.IntN.{ℤ, pos}
use lib.ListN.{length, take, drop, replicate, length-drop, drop_of_length-le}
use lib.Seq.{length-take-le}
use borrow.Rule.Slice.PartMut.{put_mid}
use Rattle.nr.specs.declared.RateMatching.{RateMatching}
use Rattle.nr.specs.declared.RateMatching.TheVariants.{Repetition, Puncturing, Shortening}
use Rattle.nr.specs.SuccessiveDecoder.{certain, gather, code_row, by_position}
use Rattle.nr.proofs.SoftRows.{code_row-is}
use Rattle.rows.proofs.Parts.{take-replicate}
use Rattle.rate_matching.proofs.Summing.{total}

module _ (N : ℕ) (soft : List ℤ) where
  abbrev pub gathered : RateMatching → List ℤ
  gathered kind = gather kind N (length soft) soft

  -- repetition: the sum of all pieces
  pub undo-repetition : total N soft ≡ gathered Repetition
  unfolding gather
  undo-repetition = refl

  -- puncturing: the end of a row that was 0 came back as the values
  pub undo-puncturing : (y : List ℤ) → length y ≡ N → length soft < N → y ≡ replicate (length y) (pos 0) → (piece : List ℤ) → piece ≡ soft
      → put_mid (N - length soft) (N - (N - length soft)) y piece ≡ gathered Puncturing
  unfolding gather
  undo-puncturing y size l zeros piece is =
      let u : ℕ = N - length soft in
      ap₂ (λ (a b : List ℤ). a ++ (piece ++ b))
      (ap (take u) (zeros ∙ ap (λ (n : ℕ). replicate n (pos 0)) size) ∙ take-replicate u N (pos 0) (omega arith))
      (drop_of_length-le (drop u y) {i = N - u} (rw length-drop (omega arith)))
      ∙ ap (λ (r : List ℤ). replicate u (pos 0) ++ r) (append-nil piece ∙ is)

  -- shortening: the values, and certain ones behind them
  pub undo-shortening : (front rest : List ℤ) (k : ℕ) → front ≡ soft → rest ≡ replicate k certain → k + length soft ≡ N
      → front ++ rest ≡ gathered Shortening
  unfolding gather
  undo-shortening front rest k is behind size =
      let e : k ≡ N - length soft = omega (arith, size) in
      ap₂ (λ (a b : List ℤ). a ++ b) is (behind ∙ ap (λ (m : ℕ). replicate m certain) e)

  -- by position it is the decoder's row; n is the length of the row that the values stand in
  pub undone : (kind : RateMatching) {y : List ℤ} {n : ℕ} → n ≡ N → y ≡ gather kind n (length soft) soft → by_position N y ≡ code_row kind N (length soft) soft
  undone kind size is =
      ap (by_position N) (is ∙ ap (λ (n : ℕ). gather kind n (length soft) soft) size) ∙ sym (code_row-is kind N (length soft) soft)

-- ---- made in the front of a longer row of zeros

module _ (row : List ℤ) (n : ℕ) (room : n ≤ length row) where
  pub lent_length : length (take n row) ≡ n
  lent_length = length-take-le n row room

  pub lent-zeros : row ≡ replicate (length row) (pos 0) → take n row ≡ replicate (length (take n row)) (pos 0)
  lent-zeros z = ap (take n) z ∙ take-replicate n (length row) (pos 0) room ∙ ap (λ (k : ℕ). replicate k (pos 0)) (sym lent_length)
