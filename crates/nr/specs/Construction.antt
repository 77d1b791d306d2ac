-- Document 01, "Code length and positions" (38.212 5.3.1, 5.4.1).
-- Assumes nothing.
use Rattle.std.specs.Prelude.{ℕ, zero, suc, ◌+◌, ◌-◌, ◌*◌, ◌/◌, ◌%◌, ◌^◌, min, max, Bool, true, false, cond, not, ◌&&◌, List, [], ◌∷◌, ◌++◌, map, leb, ltb, get_or}
use Rattle.nr.specs.declared.RateMatching.{RateMatching}
use Rattle.nr.specs.declared.RateMatching.TheVariants.{Repetition, Puncturing, Shortening}
use Rattle.nr.specs.Rows.{count, keep, has, place, last}
use Rattle.nr.specs.Reliability.{reliability}

-- the least m from `m` on with x ≤ 2 ^ m, at most `most` further
abbrev pub climb : ℕ → ℕ → ℕ → ℕ
climb zero m x = m
climb (suc most) m x = elim (leb x (2 ^ m)) [ true ↦ m | false ↦ climb most (suc m) x ]

-- ceil(log2 x)
unfoldable pub log2up : ℕ → ℕ
log2up x = climb x 0 x

unfoldable pub n1 : ℕ → ℕ → ℕ
n1 K E =
    cond (leb (8 * E) (9 * 2 ^ (log2up E - 1)) && ltb (16 * K) (9 * E))
    (log2up E - 1)
    (log2up E)

unfoldable pub n2 : ℕ → ℕ
n2 K = log2up (8 * K)

unfoldable pub n : ℕ → ℕ → ℕ
n K E = max (min (min (n1 K E) (n2 K)) 9) 5

-- the code length
abbrev pub N : ℕ → ℕ → ℕ
N K E = 2 ^ n K E

-- n where A and E are accepted (`n-by-length`): the least that holds E bits, at most 9
abbrev pub exponent : ℕ → ℕ
exponent E = min (log2up E) 9

-- K/E is at most 7/16, in whole numbers
unfoldable pub low_rate : ℕ → ℕ → Bool
low_rate K E = leb (16 * K) (7 * E)

-- how E bits are made of the N code bits
unfoldable pub rate_matching : ℕ → ℕ → RateMatching
rate_matching K E = cond (leb (N K E) E) Repetition (cond (low_rate K E) Puncturing Shortening)

-- P: the order of the 32 sub-blocks
unfoldable pub P : List ℕ
P =
    0 ∷ 1 ∷ 2 ∷ 4 ∷ 3 ∷ 5 ∷ 6 ∷ 7 ∷ 8 ∷ 16 ∷ 9 ∷ 17 ∷ 10 ∷ 18 ∷ 11 ∷ 19 ∷
    12 ∷ 20 ∷ 13 ∷ 21 ∷ 14 ∷ 22 ∷ 15 ∷ 23 ∷ 24 ∷ 25 ∷ 26 ∷ 28 ∷ 27 ∷ 29 ∷ 30 ∷ 31 ∷ []

-- J(i), the sub-block interleaver, for the code length N
unfoldable pub J : ℕ → ℕ → ℕ
J N i = get_or P (32 * i / N) 0 * (N / 32) + i % (N / 32)

-- for N = 2 ^ (k + 5), the i with J(i) = p
unfoldable pub rank : ℕ → ℕ → ℕ
rank k p = place (p / 2 ^ k) P * 2 ^ k + p % 2 ^ k

-- the positions that are never sent: J(0) .. J(N-E-1) punctured, J(E) .. J(N-1) shortened
unfoldable pub unsent : RateMatching → ℕ → ℕ → List ℕ
unsent Repetition N E = []
unsent Puncturing N E = map (J N) (count 0 (N - E))
unsent Shortening N E = map (J N) (count E (N - E))

-- with puncturing, every position below this is frozen too: ceil(3N/4 - E/2) if 4E >= 3N, else ceil(9N/16 - E/4)
unfoldable pub front : RateMatching → ℕ → ℕ → ℕ
front Repetition N E = 0
front Puncturing N E = cond (leb (3 * N) (4 * E)) ((3 * N - 2 * E + 3) / 4) ((9 * N - 4 * E + 15) / 16)
front Shortening N E = 0

-- document 01's barred positions: those frozen because of rate matching
unfoldable pub barred : RateMatching → ℕ → ℕ → List ℕ
barred kind N E = unsent kind N E ++ count 0 (front kind N E)

-- the rest of the positions below N, the least reliable first
unfoldable pub free : RateMatching → ℕ → ℕ → List ℕ
free kind N E =
    let bars : List ℕ = barred kind N E in
    keep (λ p. ltb p N && not (has p bars)) reliability

-- document 01's chosen positions, the information positions: the K most reliable of the rest, ascending
unfoldable pub chosen : RateMatching → ℕ → ℕ → ℕ → List ℕ
chosen kind N K E =
    let best : List ℕ = last K (free kind N E) in
    keep (λ p. has p best) (count 0 N)

-- what coding and decoding need to know of a code: N = 2 ^ n, the kind, and the information positions, ascending
pub record Layout : Type 0 where
  pub n : ℕ
  pub kind : RateMatching
  pub positions : List ℕ

-- document 01's code for K and E
unfoldable pub layout : ℕ → ℕ → Layout
layout K E = record {
  n = n K E;
  kind = rate_matching K E;
  positions = chosen (rate_matching K E) (N K E) K E;
}
