-- A candidate's row decoded into the front of the payload buffer.
-- Assumes nothing.
use Prim.Native.Nat.{ℕ, ◌≤◌}
use native.Mathlib.Omega.{arith}
use mathlib.Core.Path.{◌≡◌, ap, ◌∙◌}
use mathlib.Core.List.{List, ◌++◌}
use lib.IntN.{ℤ, pos, nat_abs}
use lib.ListN.{length, get_or, take, drop}
use lib.Seq.{length-take-le}
use borrow.Author.Tests.{le-ltb}
use Rattle.std.specs.Prelude.{Result}
use Rattle.nr.specs.declared.Numbers.{Numbers}
use Rattle.nr.specs.declared.Refusal.{Refusal}
use Rattle.nr.specs.Answer.{Reading, given}
use Rattle.nr.specs.Decoding.{bad_soft}
use Rattle.nr.proofs.Refusals.{Passes, accepted-exactly, first-none}
use Rattle.dci.specs.Judged.{told, judged}
use Rattle.dci.proofs.Outcomes.{judged-decoding}
use Rattle.search.specs.declared.kept.Terms.{Terms}
use Rattle.search.specs.Tries.{Tries, attempted}

module _ {s : Numbers} {terms : Terms} {row : List ℤ} {out : List ℕ} (t : Tries s terms row out) where
  pub payload-fits : s.a ≤ length out
  payload-fits = omega (arith, t.output, ((accepted-exactly s.a s.e).0 t.sizes).high)

  pub front-size : length (take s.a out) ≡ s.a
  front-size = length-take-le s.a out payload-fits

  passes : Passes s.a s.e bad_soft row s.e (take s.a out) s.a
  unfolding bad_soft
  passes = record {
    pair = t.sizes;
    input-length = t.size;
    output-length = front-size;
    entries = first-none bad_soft row (pos 0) (λ k l. le-ltb 127 (nat_abs (get_or row k (pos 0))) (t.range k));
  }

  pub attempted-is : (r : Result ℕ Refusal) (new : List ℕ) → told r new ≡ judged s row (take s.a out)
      → told r (new ++ drop s.a out) ≡ attempted s row out
  unfolding given
  attempted-is r new q =
      ap (λ (o : Reading). record { number = o.number; place = o.place; buffer = o.buffer ++ drop s.a out; noise = o.noise })
      (q ∙ judged-decoding s row (take s.a out) passes)
