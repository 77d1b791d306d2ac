-- Vocabulary: rows of numbers and the bits of a number. A row is a list, its places are counted from 0, and a bit is 0 or 1.
-- Assumes nothing.
use Rattle.std.specs.Prelude.{ℕ, zero, suc, ◌+◌, ◌-◌, ◌/◌, ◌%◌, ◌^◌, ◌≤◌, Bool, true, false, cond, ◌&&◌, ◌||◌, eqb, ltb, ℤ, pos, nat_abs, length, get_or, drop}
use mathlib.Core.List.{List, [], ◌∷◌, map, zip_with}

-- a, a + 1, ..: k numbers
abbrev pub count : ℕ → ℕ → List ℕ
count a zero = []
count a (suc k) = a ∷ count (suc a) k

-- the entries that pass the test, in order
abbrev pub keep : (ℕ → Bool) → List ℕ → List ℕ
keep f [] = []
keep f (x ∷ xs) = cond (f x) (x ∷ keep f xs) (keep f xs)

-- each entry passes the test
abbrev pub all : (ℕ → Bool) → List ℕ → Bool
all f [] = true
all f (x ∷ xs) = f x && all f xs

-- each entry is below all that come after it
abbrev pub ascending : List ℕ → Bool
ascending [] = true
ascending (x ∷ xs) = all (λ y. ltb x y) xs && ascending xs

-- x is an entry
abbrev pub has : ℕ → List ℕ → Bool
has x [] = false
has x (y ∷ ys) = eqb x y || has x ys

-- the first place that passes the test; the row's length if none does
abbrev pub first : {X : Type 0} → (X → Bool) → List X → ℕ
first f [] = 0
first f (x ∷ xs) =
    let later = suc (first f xs) in
    cond (f x) 0 later

-- the first place where x stands; the row's length if it does not
abbrev pub place : ℕ → List ℕ → ℕ
place x = first (eqb x)

-- the k last entries
abbrev pub last : ℕ → List ℕ → List ℕ
last k xs = drop (length xs - k) xs

-- the entries at the places given, 0 past the row's end
abbrev pub entries : List ℕ → List ℕ → List ℕ
entries places row = map (λ i. get_or row i 0) places

-- two rows hold the same
abbrev pub same : List ℕ → List ℕ → Bool
same [] [] = true
same [] (y ∷ ys) = false
same (x ∷ xs) [] = false
same (x ∷ xs) (y ∷ ys) = eqb x y && same xs ys

-- bit i of x, the lowest being bit 0
abbrev pub bit : ℕ → ℕ → ℕ
bit i x = x / 2 ^ i % 2

-- the lowest k bits of x, most significant first
abbrev pub msb_first : ℕ → ℕ → List ℕ
msb_first zero x = []
msb_first (suc k) x = bit k x ∷ msb_first k x

-- a row of bits: each entry is 0 or 1
abbrev pub Bits : List ℕ → Type 0
Bits row = (k : ℕ) → get_or row k 0 ≤ 1

-- a row of whole numbers of magnitude at most b
abbrev pub Within : ℕ → List ℤ → Type 0
Within b row = (k : ℕ) → nat_abs (get_or row k (pos 0)) ≤ b

-- addition mod 2: of two bits, of two rows of bits place by place
abbrev pub xor : ℕ → ℕ → ℕ
xor a b = (a + b) % 2

unfoldable pub xors : List ℕ → List ℕ → List ℕ
unfolding zip_with
xors = zip_with xor
