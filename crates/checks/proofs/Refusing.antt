-- A refusal's number and place.
-- Assumes nothing.
use Prim.Native.Nat.{ℕ}
use native.Mathlib.Omega.{arith}
use mathlib.Core.Path.{◌≡◌, refl}
use Rattle.std.specs.Prelude.{Ok, Err}
use Rattle.nr.specs.declared.Refusal.{Refusal}
use Rattle.nr.specs.declared.Refusal.TheVariants.{PayloadSize, CodedLength, TooManyBits, InputLength, OutputLength, BadEntry, ParityMismatch, NoCandidate}
use Rattle.nr.specs.Answer.{number, place_of}
use Rattle.checks.specs.Checks.{Says}

-- a refusal has another number than 0
pub refused : (X : Type 0) (r : Refusal) → number {X = X} (Err r) ≡ 0 → ⊥
unfolding number
refused X PayloadSize e = omega arith
refused X CodedLength e = omega arith
refused X TooManyBits e = omega arith
refused X InputLength e = omega arith
refused X OutputLength e = omega arith
refused X (BadEntry k) e = omega arith
refused X ParityMismatch e = omega arith
refused X NoCandidate e = omega arith

pub done : {X : Type 0} (x : X) → number (Ok x) ≡ 0
unfolding number
done x = refl

-- a refusal that is passed on by a call with another result has the same number and place
pub passed_on : {X Y : Type 0} {i : ℕ} {r : Refusal} → Says {X = X} i (Err r) → Says {X = Y} i (Err r)
unfolding number place_of
passed_on {r = PayloadSize} s = record { number = s.number; place = s.place }
passed_on {r = CodedLength} s = record { number = s.number; place = s.place }
passed_on {r = TooManyBits} s = record { number = s.number; place = s.place }
passed_on {r = InputLength} s = record { number = s.number; place = s.place }
passed_on {r = OutputLength} s = record { number = s.number; place = s.place }
passed_on {r = BadEntry k} s = record { number = s.number; place = s.place }
passed_on {r = ParityMismatch} s = record { number = s.number; place = s.place }
passed_on {r = NoCandidate} s = record { number = s.number; place = s.place }
