-- The self-test in its parts.
-- Assumes nothing.
use Rattle.std.specs.Prelude.{ℕ, List, ℤ, replicate}
use Rattle.nr.specs.declared.Numbers.{Numbers}
use Rattle.nr.specs.Answer.{Reading}
use Rattle.nr.specs.SuccessiveDecoder.{descramble}
use Rattle.nr.specs.Coding.{coding}

-- the strengths, negated where the coded bit is 1
abbrev pub signed : Numbers → List ℕ → List ℤ → List ℤ
signed s payload strengths = descramble (coding s payload (replicate s.e 0)).buffer strengths

-- what promise 3 promises
abbrev pub found : List ℕ → Reading
found payload = record { number = 0; place = 0; buffer = payload; noise = 0 }
