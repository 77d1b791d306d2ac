-- What the definitions say where promise 3 and the marked cases cannot tell: the tables' order, the magnitude of f, a value of 0, the
-- rules that no accepted pair reaches, the numbers of the answers and of the roles, and where the scrambler starts.
-- Assumes nothing.
use Prim.Native.Nat.{ℕ, ◌+◌, ◌-◌, ◌*◌, ◌^◌, min}
use mathlib.Core.Path.{◌≡◌, refl}
use mathlib.Core.Bool.{Bool, true, false, not, ◌&&◌, ◌||◌}
use mathlib.Core.List.{List, [], ◌∷◌, map}
use lib.Dec.{T, eqb}
use lib.IntN.{ℤ, pos, negsuc, nat_abs}
use lib.ListN.{get_or, take}
use Rattle.nr.specs.declared.RateMatching.TheVariants.{Repetition, Puncturing, Shortening}
use Rattle.std.specs.Prelude.{Result, Ok, Err}
use Rattle.nr.specs.declared.Refusal.{Refusal}
use Rattle.nr.specs.declared.Refusal.TheVariants.{PayloadSize, CodedLength, TooManyBits, InputLength, OutputLength, BadEntry, ParityMismatch, NoCandidate}
use Rattle.nr.specs.Rows.{count, has, bit, all}
use Rattle.nr.specs.Answer.{number, place_of}
use Rattle.nr.specs.Reliability.{reliability}
use Rattle.nr.specs.Construction.{log2up, n1, n2, n, low_rate, rate_matching, P, front}
use Rattle.nr.specs.SuccessiveDecoder.{f, certain, decide}
use Rattle.nr.specs.Describing.{barred_as}
use Rattle.nr.proofs.Ints.{nat_abs-neg}

-- ---- the tables

-- no entry stands before one that it becomes when a bit of it is cleared
abbrev rising : List ℕ → Bool
rising [] = true
rising (p ∷ later) = all (λ e. eqb (bit e p) 0 || not (has (p - 2 ^ e) later)) (count 0 9) && rising later

-- a position is less reliable than each that has a bit more set
pub reliability-rises : T (rising reliability)
unfolding reliability
reliability-rises = tt

-- P: eight in front by their count of ones, two runs woven in the middle, and an end that is made as its front
pub record WovenBlocks : Type 0 where
  pub start : take 8 P ≡ 0 ∷ 1 ∷ 2 ∷ 4 ∷ 3 ∷ 5 ∷ 6 ∷ 7 ∷ []
  pub even : map (λ i. get_or P (8 + 2 * i) 0) (count 0 8) ≡ count 8 8
  pub odd : map (λ i. get_or P (9 + 2 * i) 0) (count 0 8) ≡ count 16 8
  pub end : map (λ i. get_or P (24 + i) 0) (count 0 8) ≡ map (λ i. 24 + get_or P i 0) (count 0 8)

pub woven-blocks : WovenBlocks
unfolding P
woven-blocks = record { start = refl; even = refl; odd = refl; end = refl }

-- ---- rules whose borders no accepted pair reaches, on both sides of each

pub record Borders : Type 0 where
  -- 8E is at most 9 * 2^(ceil(log2 E) - 1): 1152 for E = 144
  pub nine-eighths : (n1 36 144 ≡ 7) × (n1 36 145 ≡ 8)
  -- 16K is below 9E: 1280 and 1296 against 1296
  pub nine-sixteenths : (n1 80 144 ≡ 7) × (n1 81 144 ≡ 8)
  -- ceil(log2 8K), of 128 and 136; it limits n
  pub eight-k : (n2 16 ≡ 7) × (n2 17 ≡ 8) × (n 8 128 ≡ 6)
  -- N is at least 32 and at most 512
  pub floor : (n 1 16 ≡ 5) × (n 4 32 ≡ 5) × (n 8 64 ≡ 6)
  pub ceiling : (n 164 512 ≡ 9) × (n 164 1024 ≡ 9)
  -- E is at least N
  pub repeated : (rate_matching 36 128 ≡ Repetition) × (rate_matching 36 127 ≡ Puncturing)
  -- 16K is at most 7E: 112 and 128 against 112
  pub seven-sixteenths : (low_rate 7 16 ≡ true) × (low_rate 8 16 ≡ false)
  -- the prefix: 48 - E/2 from E = 48 on, and 36 - E/4 below it; the ceiling of 23.5, 23, 22.5, and of 24.75, 25, 25.25, 25.75
  pub upper-prefix : (front Puncturing 64 49 ≡ 24) × (front Puncturing 64 50 ≡ 23) × (front Puncturing 64 51 ≡ 23)
  pub lower-prefix : (front Puncturing 64 45 ≡ 25) × (front Puncturing 64 44 ≡ 25) × (front Puncturing 64 43 ≡ 26) × (front Puncturing 64 41 ≡ 26)

pub borders : Borders
unfolding log2up n1 n2 n low_rate rate_matching front
borders = record {
  nine-eighths = (refl, refl);
  nine-sixteenths = (refl, refl);
  eight-k = (refl, refl, refl);
  floor = (refl, refl, refl);
  ceiling = (refl, refl);
  repeated = (refl, refl);
  seven-sixteenths = (refl, refl);
  upper-prefix = (refl, refl, refl);
  lower-prefix = (refl, refl, refl, refl);
}

-- ---- the decoder

-- f has the smaller of the two magnitudes
pub f-size : (a b : ℤ) → nat_abs (f a b) ≡ min (nat_abs a) (nat_abs b)
unfolding f
f-size (pos a) (pos b) = refl
f-size (pos a) (negsuc b) = nat_abs-neg (pos _)
f-size (negsuc a) (pos b) = nat_abs-neg (pos _)
f-size (negsuc a) (negsuc b) = refl

-- the value of a shortened position
pub certain-is : certain ≡ pos 1048576
unfolding certain
certain-is = refl

-- a value of 0 decides as a positive one does
pub zero-decides : decide 1 (pos 0) ≡ 0
unfolding decide
zero-decides = refl

-- ---- the numbers

-- the table of the numbers given back, and of the places that they carry
abbrev answers : {X : Type 0} → X → ℕ → List (Result X Refusal)
answers x k =
    Ok x ∷ Err PayloadSize ∷ Err CodedLength ∷ Err TooManyBits ∷ Err InputLength ∷ Err OutputLength ∷ Err (BadEntry k) ∷ Err ParityMismatch
    ∷ Err NoCandidate ∷ []

pub numbers : {X : Type 0} (x : X) (k : ℕ) → map number (answers x k) ≡ 0 ∷ 1 ∷ 2 ∷ 3 ∷ 4 ∷ 5 ∷ 6 ∷ 7 ∷ 8 ∷ []
unfolding number
numbers x k = refl

pub places : {X : Type 0} (x : X) (k : ℕ) → map place_of (answers x k) ≡ 0 ∷ 0 ∷ 0 ∷ 0 ∷ 0 ∷ 0 ∷ k ∷ 0 ∷ 0 ∷ []
unfolding place_of
places x k = refl

-- the roles of barred positions
pub barred-roles : map barred_as (Repetition ∷ Puncturing ∷ Shortening ∷ []) ≡ 2 ∷ 2 ∷ 3 ∷ []
unfolding barred_as
barred-roles = refl
