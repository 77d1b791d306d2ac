-- The table of the four bits of 0 .. 15, lowest first, as digits: a digit's lowest bit is the bit.
-- Assumes nothing.
use Rattle.std.specs.Prelude.{ℕ, ◌+◌, ◌/◌, ◌%◌, List, map}
use Rattle.nr.specs.Rows.{bit, count}

-- entry 4 * b + j is the digit of bit j of b
abbrev pub digit : ℕ → ℕ
digit k = 48 + bit (k % 4) (k / 4)

abbrev pub digits : List ℕ
digits = map digit (count 0 64)
