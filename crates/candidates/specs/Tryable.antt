-- When a candidate's numbers let it be tried.
-- Assumes nothing.
use Rattle.std.specs.Prelude.{ℕ, ◌*◌, Bool, ◌&&◌, eqb}
use Rattle.nr.specs.declared.Candidate.{Candidate}
use Rattle.nr.specs.Answer.{refusal}
use Rattle.nr.specs.Searching.{fits, sixteen_bits}

-- it lies in the region as a message may, its RNTI and n_RNTI have 16 bits, and none of 1 to 3 refuses its sizes
abbrev pub tryable : ℕ → Candidate → Bool
tryable cces c = fits cces c.first c.level && (sixteen_bits c && eqb (refusal c.a (108 * c.level)) 0)
