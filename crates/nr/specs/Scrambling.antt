-- Document 01, "Transform, selection, scrambling": the Gold sequence (38.211 5.2.1).
-- A register holds 31 terms x(n) .. x(n+30) of a sequence as the bits of a number, x(n) being the lowest.
-- Assumes nothing.
use Rattle.std.specs.Prelude.{ℕ, zero, suc, ◌+◌, ◌*◌, ◌/◌, ◌%◌, ◌^◌, List, [], ◌∷◌}
use Rattle.nr.specs.declared.Numbers.{Numbers}
use Rattle.nr.specs.Rows.{bit}

-- x1(n+31) = x1(n+3) + x1(n)
unfoldable pub next1 : ℕ → ℕ
next1 s = (bit 3 s + bit 0 s) % 2

-- x2(n+31) = x2(n+3) + x2(n+2) + x2(n+1) + x2(n)
unfoldable pub next2 : ℕ → ℕ
next2 s = (bit 3 s + bit 2 s + bit 1 s + bit 0 s) % 2

-- the register one term on: x(n) goes out below, x(n+31) comes in on top
abbrev pub shift : ℕ → ℕ → ℕ
shift next s = s / 2 + next * 2 ^ 30

unfoldable pub step1 : ℕ → ℕ
step1 s = shift (next1 s) s

unfoldable pub step2 : ℕ → ℕ
step2 s = shift (next2 s) s

-- the register k terms on
unfoldable pub after : (ℕ → ℕ) → ℕ → ℕ → ℕ
after step zero s = s
after step (suc k) s = after step k (step s)

-- k terms of the sum of two registers' sequences
unfoldable pub terms : ℕ → ℕ → ℕ → List ℕ
terms zero s1 s2 = []
terms (suc k) s1 s2 = (bit 0 s1 + bit 0 s2) % 2 ∷ terms k (step1 s1) (step2 s2)

-- c(0) .. c(E-1): the terms from 1600 on, x1 starting 1,0,0,.. and x2 with the bits of `start`, lowest first
unfoldable pub gold : ℕ → ℕ → List ℕ
gold start E = terms E (after step1 1600 1) (after step2 1600 start)

-- c_init of 38.211 7.3.2.3: where x2 starts in a call
abbrev pub c_init : Numbers → ℕ
c_init s = (s.n_rnti * 2 ^ 16 + s.n_id) % 2 ^ 31
