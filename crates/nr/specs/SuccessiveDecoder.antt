-- Document 01, "The decoder, exactly". A soft value is a whole number: positive leans to bit 0, negative to bit 1, 0 says nothing.
-- Assumes nothing.
use Rattle.std.specs.Prelude.{ℕ, zero, suc, ◌-◌, ◌/◌, ◌^◌, min, cond, ℤ, pos, negsuc, neg_ℤ, ◌+ℤ◌, ◌-ℤ◌, get_or, take, drop, replicate}
use mathlib.Core.List.{List, [], ◌∷◌, ◌++◌, map, zip_with}
use Rattle.nr.specs.declared.RateMatching.{RateMatching}
use Rattle.nr.specs.declared.RateMatching.TheVariants.{Repetition, Puncturing, Shortening}
use Rattle.nr.specs.Rows.{count, has, place}
use Rattle.nr.specs.Construction.{J}
use Rattle.nr.specs.Transform.{transform}

-- a soft value, negated where the scrambling bit is 1
abbrev pub negate_if : ℕ → ℤ → ℤ
negate_if zero x = x
negate_if (suc c) x = neg_ℤ x

unfoldable pub descramble : List ℕ → List ℤ → List ℤ
unfolding zip_with
descramble = zip_with negate_if

-- two rows added place by place; where one ends, the other goes on
abbrev pub plus : List ℤ → List ℤ → List ℤ
plus [] b = b
plus (x ∷ a) [] = x ∷ a
plus (x ∷ a) (y ∷ b) = (x +ℤ y) ∷ plus a b

-- a row of at most that many pieces of N, which are added: place i has the sum of the values k with k mod N = i
unfoldable pub add_up : ℕ → ℕ → List ℤ → List ℤ
add_up N zero row = []
add_up N (suc pieces) row = plus (take N row) (add_up N pieces (drop N row))

-- the value of a shortened position, whose bit is known to be 0
unfoldable pub certain : ℤ
certain = pos 1048576

-- the N values by sub-block order: repeats added; never sent is 0 when punctured and 1,048,576 when shortened
unfoldable pub gather : RateMatching → ℕ → ℕ → List ℤ → List ℤ
gather Repetition N E row = add_up N (suc (E / N)) row
gather Puncturing N E row = replicate (N - E) (pos 0) ++ row
gather Shortening N E row = row ++ replicate (N - E) certain

-- a row by sub-block order, by code position: what came for J(i) stands at position J(i)
abbrev pub by_position : ℕ → List ℤ → List ℤ
by_position N y =
    let order : List ℕ = map (J N) (count 0 N) in
    map (λ p. get_or y (place p order) (pos 0)) (count 0 N)

-- the decoder's row of N values
unfoldable pub code_row : RateMatching → ℕ → ℕ → List ℤ → List ℤ
code_row kind N E row = by_position N (gather kind N E row)

-- the smaller magnitude with the product of the signs, 0 if either is 0
unfoldable pub f : ℤ → ℤ → ℤ
f (pos a) (pos b) = pos (min a b)
f (pos a) (negsuc b) = neg_ℤ (pos (min a (suc b)))
f (negsuc a) (pos b) = neg_ℤ (pos (min (suc a) b))
f (negsuc a) (negsuc b) = pos (min (suc a) (suc b))

-- b + a where v = 0, b - a where v = 1
unfoldable pub g : ℕ → ℤ → ℤ → ℤ
g zero a b = b +ℤ a
g (suc v) a b = b -ℤ a

-- the same place by place
unfoldable pub fs : List ℤ → List ℤ → List ℤ
unfolding zip_with
fs = zip_with f

unfoldable pub gs : List ℕ → List ℤ → List ℤ → List ℤ
gs [] a b = []
gs (v ∷ vs) [] b = []
gs (v ∷ vs) (x ∷ a) [] = []
gs (v ∷ vs) (x ∷ a) (y ∷ b) = g v x y ∷ gs vs a b

-- one position: barred or unchosen (mark 0) gives 0; a chosen one gives 1 exactly if its value is negative
unfoldable pub decide : ℕ → ℤ → ℕ
decide zero x = 0
decide (suc mark) (pos x) = 0
decide (suc mark) (negsuc x) = 1

-- a row of 2 ^ n values with halves a and b: first the row f(a, b), then the row g with the first half's bits coded again;
-- each half's bits stand in its half of the result
unfoldable pub successive : ℕ → List ℕ → List ℤ → List ℕ
successive zero marks row = decide (get_or marks 0 0) (get_or row 0 (pos 0)) ∷ []
successive (suc n) marks row =
    let a : List ℤ = take (2 ^ n) row in
    let b : List ℤ = drop (2 ^ n) row in
    let u₁ : List ℕ = successive n (take (2 ^ n) marks) (fs a b) in
    let u₂ : List ℕ = successive n (drop (2 ^ n) marks) (gs (transform n u₁) a b) in
    u₁ ++ u₂

-- the information positions below N as marks, 1 at each
unfoldable pub marks : ℕ → List ℕ → List ℕ
marks N positions = map (λ p. cond (has p positions) 1 0) (count 0 N)
