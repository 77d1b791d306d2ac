-- Document 01's marked cases T1 to T12: one table, checked by evaluation.
-- Assumes nothing.
use Prim.Native.Nat.{ℕ, ◌*◌}
use mathlib.Core.Path.{◌≡◌, refl}
use mathlib.Core.List.{List, ◌∷◌}
use lib.IntN.{pos, negsuc}
use lib.ListN.{length}
use Rattle.nr.specs.declared.RateMatching.{RateMatching}
use Rattle.nr.specs.declared.RateMatching.TheVariants.{Puncturing, Shortening}
use Rattle.nr.specs.Rows.{count, keep, has}
use Rattle.nr.specs.Numbers.{K}
use Rattle.nr.specs.Answer.{refusal}
use Rattle.nr.specs.Interleaver.{interleaver, pattern}
use Rattle.nr.specs.Reliability.{reliability}
use Rattle.nr.specs.Construction.{log2up, n1, n2, n, N, low_rate, rate_matching, P, J, unsent, front, barred, free, chosen, layout}
use Rattle.nr.specs.SuccessiveDecoder.{f, g}

-- of A and E: N, the kind, the unsent positions, the barred positions ascending, the information positions
abbrev pub size : ℕ → ℕ → ℕ
size A E = N (K A) E

abbrev pub kind : ℕ → ℕ → RateMatching
kind A E = rate_matching (K A) E

abbrev pub skipped : ℕ → ℕ → List ℕ
skipped A E = unsent (kind A E) (size A E) E

abbrev pub bars : ℕ → ℕ → List ℕ
bars A E =
    let b : List ℕ = barred (kind A E) (size A E) E in
    keep (λ p. has p b) (count 0 (size A E))

abbrev pub information : ℕ → ℕ → List ℕ
information A E = (layout (K A) E).positions

pub record MarkedCases : Type 0 where
  pub t1 : (K 12 ≡ 36) × (size 12 108 ≡ 128) × (kind 12 108 ≡ Puncturing) × (bars 12 108 ≡ count 0 42) × (length (skipped 12 108) ≡ 20)
  pub t2 : (16 * K 23 ≡ 752) × (7 * 108 ≡ 756) × (kind 23 108 ≡ Puncturing)
  pub t3 : (16 * K 24 ≡ 768) × (kind 24 108 ≡ Shortening) × (bars 24 108 ≡ count 108 20)
  pub t4 : (refusal 84 108 ≡ 0) × (information 84 108 ≡ count 0 108)
  pub t5 : refusal 85 108 ≡ 3
  pub t6 : (kind 70 216 ≡ Puncturing) × (bars 70 216 ≡ count 0 84)
  pub t7 : (kind 71 216 ≡ Shortening) × (bars 71 216 ≡ count 216 40)
  pub t8 : (size 140 432 ≡ 512) × (bars 140 432 ≡ count 0 168) × (length (skipped 140 432) ≡ 80)
  pub t9 : (J 128 12 ≡ 16) × (J 128 16 ≡ 12)
  pub t10 : (f (pos 3) (negsuc 4) ≡ negsuc 2) × (f (pos 0) (negsuc 4) ≡ pos 0) × (g 0 (pos 3) (negsuc 4) ≡ negsuc 1) × (g 1 (pos 3) (negsuc 4) ≡ negsuc 7)
  pub t11 : (refusal 11 107 ≡ 1) × (refusal 12 107 ≡ 2)
  pub t12 : pattern 36 ≡ 1 ∷ 4 ∷ 6 ∷ 10 ∷ 11 ∷ 12 ∷ 0 ∷ 2 ∷ 5 ∷ 7 ∷ 13 ∷ 3 ∷ 8 ∷ 14 ∷ 9 ∷ 15 ∷ count 16 20

pub marked-cases : MarkedCases
unfolding log2up refusal n1 n2 n low_rate rate_matching P J unsent front barred free chosen layout reliability interleaver pattern f g
marked-cases = record {
  t1 = (refl, refl, refl, refl, refl);
  t2 = (refl, refl, refl);
  t3 = (refl, refl, refl);
  t4 = (refl, refl);
  t5 = refl;
  t6 = (refl, refl);
  t7 = (refl, refl);
  t8 = (refl, refl, refl);
  t9 = (refl, refl);
  t10 = (refl, refl, refl, refl);
  t11 = (refl, refl);
  t12 = refl;
}
