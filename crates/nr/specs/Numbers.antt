-- Document 01, "The job and its borders". The numbers of a call are the declared type `Numbers`, with n_RNTI, of document 02, as
-- the fifth; a bit is one byte, 0 or 1, and a soft value a signed 32-bit whole number, as ℕ and ℤ. What is accepted, a payload and
-- a noiseless row: Promise3.
-- Assumes nothing.
use Rattle.std.specs.Prelude.{ℕ, ◌+◌}

-- the payload with its 24 parity bits
abbrev pub K : ℕ → ℕ
K A = A + 24
