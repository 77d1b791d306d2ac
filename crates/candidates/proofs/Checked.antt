-- The levels, and what the test of a candidate says.
-- Assumes nothing.
use Prim.Native.Nat.{ℕ, ◌*◌, ◌/◌}
use native.Mathlib.Omega.{arith}
use mathlib.Core.Path.{◌≡◌}
use mathlib.Core.Bool.{true, false}
use mathlib.Core.List.{List}
use lib.IntN.{ℤ}
use lib.ListN.{length}
use borrow.Author.Tests.{eq-eqb, eqb-true}
use Rattle.std.proofs.lemmas.Bool.Decides.{nat_tests}
use Rattle.nr.specs.declared.Candidate.{Candidate}
use Rattle.nr.specs.Rows.{has}
use Rattle.nr.specs.Answer.{lengths, refusal}
use Rattle.nr.specs.Searching.{levels, fits, sixteen_bits, decodes}
use Rattle.nr.proofs.Tests.{clash, both-pass, fails}
use Rattle.nr.proofs.Searching.{sixteen-exactly, decodes-exactly, runs}
use Rattle.candidates.specs.Tryable.{tryable}

-- a level is what gives a coded length
pub level-is : (l : ℕ) → has (108 * l) lengths ≡ has l levels
level-is l = grind (arith, nat_tests)

-- a candidate that can be tried
pub record Able (cces : ℕ) (c : Candidate) : Type 0 where
  pub fits : fits cces c.first c.level ≡ true
  pub sixteen : sixteen_bits c ≡ true
  pub sizes : refusal c.a (108 * c.level) ≡ 0

pub able : (cces : ℕ) (c : Candidate) → tryable cces c ≡ true → Able cces c
able cces c e =
    let p = (both-pass _ _).0 e in
    let q = (both-pass _ _).0 p.1 in
    record { fits = p.0; sixteen = q.0; sizes = eqb-true _ _ q.1 }

-- one that cannot does not decode
pub unable : (n : ℕ) (region : List ℤ) (out : List ℕ) (c : Candidate) → tryable (length region / 108) c ≡ false → decodes n region out c ≡ false
unable n region out c u =
    fails _ (λ e.
    let d = (decodes-exactly n region out c).0 e in
    clash ((both-pass _ _).1 (d.0, (both-pass _ _).1 ((sixteen-exactly c).1 d.1.0, eq-eqb _ _ (runs n region out c e).numbers))) u)
