-- A candidate tried: what trying it asks, what becomes of the payload buffer, and what a search says.
-- Assumes nothing.
use Rattle.std.specs.Prelude.{ℕ, ◌≤◌, ◌≡◌, List, ◌++◌, ℤ, length, take, drop, Result, Ok, Err}
use Rattle.nr.specs.declared.Numbers.{Numbers}
use Rattle.nr.specs.declared.Refusal.{Refusal}
use Rattle.nr.specs.Rows.{Within}
use Rattle.nr.specs.Answer.{refusal, number, Reading}
use Rattle.nr.specs.Scrambling.{c_init}
use Rattle.nr.specs.Decoding.{decoding}
use Rattle.nr.specs.Searching.{Found, found, unfound}
use Rattle.search.specs.declared.kept.Terms.{Terms}
use Rattle.search.specs.declared.Found.{Found as Named}

-- a candidate can be tried: its numbers, its row, the terms for it, the payload buffer
pub record Tries (s : Numbers) (terms : Terms) (row : List ℤ) (out : List ℕ) : Type 0 where
  pub sizes : refusal s.a s.e ≡ 0
  pub size : length row ≡ s.e
  pub range : Within 127 row
  pub start : terms.start.bits ≡ c_init s
  pub ready : s.e ≤ terms.ready
  pub output : length out ≡ 140

-- what decoding makes of its row, in the whole payload buffer
abbrev pub attempted : Numbers → List ℤ → List ℕ → Reading
attempted s row out =
    let o : Reading = decoding s row (take s.a out) in
    record { number = o.number; place = o.place; buffer = o.buffer ++ drop s.a out; noise = o.noise }

-- the answer of a search with the buffer that it leaves: a refusal names candidate 0 and an empty stretch, and counts nothing
unfoldable pub named : Result Named Refusal → List ℕ → Found
named (Ok f) buffer = found 0 f.candidate f.stretch.now buffer f.noise
named (Err r) buffer = unfound (number {X = ℕ} (Err r)) buffer
