-- Document 01, "Input interleaver" (38.212 Table 5.3.1.1-1).
-- Assumes nothing.
use Rattle.std.specs.Prelude.{ℕ, ◌-◌, List, ◌∷◌, map, leb, length}
use Rattle.nr.specs.Rows.{count, keep, place, entries}

-- the table, for K = 164
unfoldable pub interleaver : List ℕ
interleaver =
    0 ∷ 2 ∷ 4 ∷ 7 ∷ 9 ∷ 14 ∷ 19 ∷ 20 ∷ 24 ∷ 25 ∷ 26 ∷ 28 ∷ 31 ∷ 34 ∷ 42 ∷ 45 ∷
    49 ∷ 50 ∷ 51 ∷ 53 ∷ 54 ∷ 56 ∷ 58 ∷ 59 ∷ 61 ∷ 62 ∷ 65 ∷ 66 ∷ 67 ∷ 69 ∷ 70 ∷ 71 ∷
    72 ∷ 76 ∷ 77 ∷ 81 ∷ 82 ∷ 83 ∷ 87 ∷ 88 ∷ 89 ∷ 91 ∷ 93 ∷ 95 ∷ 98 ∷ 101 ∷ 104 ∷ 106 ∷
    108 ∷ 110 ∷ 111 ∷ 113 ∷ 115 ∷ 118 ∷ 119 ∷ 120 ∷ 122 ∷ 123 ∷ 126 ∷ 127 ∷ 129 ∷ 132 ∷ 134 ∷ 138 ∷
    139 ∷ 140 ∷
    1 ∷ 3 ∷ 5 ∷ 8 ∷ 10 ∷ 15 ∷ 21 ∷ 27 ∷ 29 ∷ 32 ∷ 35 ∷ 43 ∷ 46 ∷ 52 ∷ 55 ∷ 57 ∷
    60 ∷ 63 ∷ 68 ∷ 73 ∷ 78 ∷ 84 ∷ 90 ∷ 92 ∷ 94 ∷ 96 ∷ 99 ∷ 102 ∷ 105 ∷ 107 ∷ 109 ∷ 112 ∷
    114 ∷ 116 ∷ 121 ∷ 124 ∷ 128 ∷ 130 ∷ 133 ∷ 135 ∷ 141 ∷
    6 ∷ 11 ∷ 16 ∷ 22 ∷ 30 ∷ 33 ∷ 36 ∷ 44 ∷ 47 ∷ 64 ∷ 74 ∷ 79 ∷ 85 ∷ 97 ∷ 100 ∷ 103 ∷
    117 ∷ 125 ∷ 131 ∷ 136 ∷ 142 ∷
    12 ∷ 17 ∷ 23 ∷ 37 ∷ 48 ∷ 75 ∷ 80 ∷ 86 ∷ 137 ∷ 143 ∷
    13 ∷ 18 ∷ 38 ∷ 144 ∷ 39 ∷ 145 ∷ 40 ∷ 146 ∷ 41 ∷ 147 ∷ 148 ∷
    count 149 15

-- for K: with h = 164 - K, the entries that are at least h, in order, less h
unfoldable pub pattern : ℕ → List ℕ
pattern K =
    let h : ℕ = 164 - K in
    map (λ x. x - h) (keep (λ x. leb h x) interleaver)

-- output k is c at the k-th of these
unfoldable pub interleave : List ℕ → List ℕ
interleave c = entries (pattern (length c)) c

-- and back: bit i of c is the output's where i stands in the pattern
unfoldable pub deinterleave : List ℕ → List ℕ
deinterleave row =
    let pat : List ℕ = pattern (length row) in
    entries (map (λ i. place i pat) (count 0 (length row))) row
