-- How large a value may be.
-- Assumes nothing.
use Rattle.std.specs.Prelude.{◌≤◌, ◌^◌, ℤ, nat_abs}

-- a value that two additions leave within 32 bits
abbrev pub Small : ℤ → Type 0
Small x = nat_abs x ≤ 2 ^ 28
