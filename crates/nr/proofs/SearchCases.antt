-- Cases of the search, checked by evaluation. They fix what the laws of Searching only name: a candidate's five numbers, where its
-- row lies, and the numbers that it is decoded under. And a noise count, counted by hand.
-- Assumes nothing.
use Prim.Native.Nat.{ℕ, zero, suc}
use mathlib.Core.Path.{◌≡◌, refl}
use mathlib.Core.List.{List, [], ◌∷◌, ◌++◌, map}
use lib.IntN.{ℤ, pos, negsuc}
use lib.ListN.{take, drop, replicate}
use Rattle.nr.specs.Rows.{xors}
use Rattle.nr.specs.Answer.{refusal_of, outcome, on_done}
use Rattle.nr.specs.Parity.{generator, divide, remainder, parity, attach, mask_rnti, parity_matches}
use Rattle.nr.specs.Interleaver.{interleaver, pattern, interleave, deinterleave}
use Rattle.nr.specs.Reliability.{reliability}
use Rattle.nr.specs.Construction.{log2up, n1, n2, n, low_rate, rate_matching, P, J, rank, unsent, front, barred, free, chosen, layout}
use Rattle.nr.specs.Transform.{transform}
use Rattle.nr.specs.RateMatching.{sub_blocks, selected, select}
use Rattle.nr.specs.Scrambling.{next1, next2, step1, step2, after, terms, gold}
use Rattle.nr.specs.SuccessiveDecoder.{descramble, add_up, certain, gather, code_row, f, g, fs, gs, decide, successive, marks}
use Rattle.nr.specs.Noise.{wrong, noise_count}
use Rattle.nr.specs.Coding.{placed, code_word, coded, bad_byte, coding_for, coding}
use Rattle.nr.specs.Decoding.{decided, received, or_parity, bad_soft, noise_of, decoding_for, decoding}
use Rattle.nr.specs.Searching.{fits, candidate_at, tried, decodes, found, unfound, accepted, searched, search_refusal, or_refused, searching}

-- the five numbers of a candidate, in order
pub candidate-numbers : candidate_at (20 ∷ 21 ∷ 22 ∷ 23 ∷ 24 ∷ 25 ∷ 26 ∷ 27 ∷ 28 ∷ 29 ∷ []) 1 ≡ record { first = 25; level = 26; a = 27; rnti = 28; n_rnti = 29 }
candidate-numbers = refl

-- ---- values of both signs and of none, against both bits: the second and the sixth are wrong

pub two-wrong : noise_count (pos 3 ∷ negsuc 1 ∷ pos 0 ∷ negsuc 0 ∷ pos 0 ∷ pos 5 ∷ []) (0 ∷ 0 ∷ 0 ∷ 1 ∷ 1 ∷ 1 ∷ []) ≡ 2
unfolding wrong noise_count
two-wrong = refl

-- ---- a message in CCE 1, behind a value of 128 in CCE 0

abbrev payload : List ℕ
payload = 1 ∷ 0 ∷ 1 ∷ 1 ∷ 0 ∷ 0 ∷ 0 ∷ 1 ∷ 0 ∷ 1 ∷ 1 ∷ 1 ∷ []

abbrev soft : ℕ → ℤ
soft zero = pos 5
soft (suc b) = negsuc 4

-- the message's row: value 0 and value 5 have the wrong sign, and value 7 is 0
abbrev row : List ℤ
row =
    let sent : List ℕ = (coding (record { a = 12; e = 108; rnti = 4660; n_id = 77; n_rnti = 34952 }) payload (replicate 108 0)).buffer in
    let turned : List ℤ = descramble (1 ∷ 0 ∷ 0 ∷ 0 ∷ 0 ∷ 1 ∷ replicate 102 0) (map soft sent) in
    take 7 turned ++ pos 0 ∷ drop 8 turned

abbrev region : List ℤ
region = pos 128 ∷ replicate 107 (pos 1) ++ row

-- level 2 at CCE 0, which has the value of 128; then level 1 at CCE 1, twice
abbrev list : List ℕ
list = 0 ∷ 2 ∷ 12 ∷ 4660 ∷ 34952 ∷ 1 ∷ 1 ∷ 12 ∷ 4660 ∷ 34952 ∷ 1 ∷ 1 ∷ 12 ∷ 4660 ∷ 34952 ∷ []

pub second-found : searching 77 region list (replicate 140 9) ≡ found 0 1 row (payload ++ replicate 128 9) 2
unfolding refusal_of outcome on_done wrong noise_count xors generator divide remainder parity attach mask_rnti parity_matches interleaver pattern interleave deinterleave reliability log2up n1 n2 n low_rate rate_matching P J rank unsent front barred free chosen layout transform sub_blocks selected select next1 next2 step1 step2 after terms gold descramble add_up certain gather code_row f g fs gs decide successive marks placed code_word coded bad_byte coding_for coding decided received or_parity bad_soft noise_of decoding_for decoding fits tried decodes accepted searched search_refusal or_refused searching
second-found = refl

-- ---- the sizes

-- 45 candidates, and a buffer of 139
pub too_many : searching 77 [] (replicate 225 1) (replicate 139 9) ≡ unfound 4 (replicate 139 9)
unfolding search_refusal or_refused searching
too_many = refl

-- an empty region, and a buffer of 139
pub short-buffer : searching 77 [] [] (replicate 139 9) ≡ unfound 5 (replicate 139 9)
unfolding search_refusal or_refused searching
short-buffer = refl

-- an empty region, and 44 candidates
pub nothing-there : searching 77 [] (replicate 220 1) (replicate 140 9) ≡ unfound 8 (replicate 140 9)
unfolding fits decodes searched search_refusal or_refused searching
nothing-there = refl
