-- The self-test: a payload is coded, each coded bit becomes a soft value with its sign and the caller's strength, and that row is
-- decoded under the same numbers. Its outcome, for all inputs; the numbers 1 to 6 keep their order.
-- Assumes nothing.
use Rattle.std.specs.Prelude.{ℕ, ◌+◌, ◌<◌, ◌≡◌, Bool, false, cond, not, ◌||◌, List, [], ◌∷◌, eqb, ltb, ℤ, pos, length, get_or}
use Rattle.std.specs.Int.Signed.{lt_z}
use Rattle.nr.specs.declared.Numbers.{Numbers}
use Rattle.nr.specs.Rows.{first}
use Rattle.nr.specs.Answer.{first_number, tests, outcome, Reading, reading}
use Rattle.nr.specs.Coding.{bad_byte}
use Rattle.nr.specs.Promise3.{Accepted, Payload}

-- a strength outside 1..127
unfoldable pub bad_strength : ℤ → Bool
bad_strength x = lt_z x (pos 1) || lt_z (pos 127) x

-- 4 where the payload is not A long or the strengths are not E; 5 where the output is not A long; 6 for a bad byte of the payload
-- or a bad strength, its place counted through the payload and then the strengths; else 0, and the output holds the payload. The row
-- is noiseless, so that the noise count is 0.
unfoldable pub looped : Numbers → List ℕ → List ℤ → List ℕ → Reading
looped s payload strengths out =
    let byte : ℕ = first bad_byte payload in
    let strength : ℕ = first bad_strength strengths in
    let in_payload : Bool = ltb byte (length payload) in
    reading
    (outcome
    (first_number 1 (tests s.a s.e (
    (not (eqb (length payload) s.a) || not (eqb (length strengths) s.e))
    ∷ not (eqb (length out) s.a)
    ∷ (in_payload || ltb strength (length strengths))
    ∷ []
    )))
    (cond in_payload byte (s.a + strength)) payload out)
    0

-- where promise 3 speaks: accepted numbers, a payload, E strengths in 1..127, an output of A bytes
pub record Loops (s : Numbers) (payload : List ℕ) (strengths : List ℤ) (out : List ℕ) : Type 0 where
  pub numbers : Accepted s
  pub input : Payload s payload
  pub size : length strengths ≡ s.e
  pub strong : (k : ℕ) → k < s.e → bad_strength (get_or strengths k (pos 0)) ≡ false
  pub output : length out ≡ s.a
