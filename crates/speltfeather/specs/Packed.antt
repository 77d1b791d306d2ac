-- The calls from C: the numbers are passed one by one, and the answer comes back as one number.
-- Assumes nothing.
use Rattle.std.specs.Prelude.{ℕ, ◌+◌, ◌*◌, ◌^◌, ◌≡◌, List}
use Rattle.nr.specs.declared.Numbers.{Numbers}
use Rattle.nr.specs.Answer.{Reading}
use Rattle.nr.specs.Searching.{Found}

-- the numbers of a call
abbrev pub numbers : ℕ → ℕ → ℕ → ℕ → ℕ → Numbers
numbers A E rnti n q = record { a = A; e = E; rnti = rnti; n_id = n; n_rnti = q }

-- what is returned and what the output buffer then holds. The number has bits 0 to 7, the place that it carries bits 8 to 23, and the
-- noise count bits 24 to 39; bits 40 to 63 are 0.
pub record Returns (o : Reading) (r : ℕ) (buffer : List ℕ) : Type 0 where
  pub answer : r ≡ o.number + 2 ^ 8 * o.place + 2 ^ 24 * o.noise
  pub output : buffer ≡ o.buffer

-- what a search gives: the candidate stands in the place's stead, and the stretch, which follows from it, is not returned
abbrev pub named : Found → Reading
named f = record { number = f.number; place = f.candidate; buffer = f.buffer; noise = f.noise }
