-- Coding: from the numbers, the payload and the old output buffer to the outcome, for all inputs.
-- Assumes nothing.
use Rattle.std.specs.Prelude.{ℕ, ◌^◌, Bool, List, map, ltb}
use Rattle.nr.specs.declared.Numbers.{Numbers}
use Rattle.nr.specs.Rows.{count, first, place, entries, xors}
use Rattle.nr.specs.Numbers.{K}
use Rattle.nr.specs.Answer.{refusal_of, Outcome, outcome}
use Rattle.nr.specs.Parity.{attach, mask_rnti}
use Rattle.nr.specs.Interleaver.{interleave}
use Rattle.nr.specs.Construction.{Layout, layout}
use Rattle.nr.specs.Transform.{transform}
use Rattle.nr.specs.RateMatching.{select}
use Rattle.nr.specs.Scrambling.{gold, c_init}

-- u, of as many bits as there are information positions: the k-th of these has bit k, and every other position 0
unfoldable pub placed : ℕ → List ℕ → List ℕ → List ℕ
placed N positions bits = entries (map (λ p. place p positions) (count 0 N)) bits

-- the code word d of a payload
unfoldable pub code_word : Layout → ℕ → List ℕ → List ℕ
code_word l rnti payload =
    let c : List ℕ = interleave (mask_rnti rnti (attach payload)) in
    transform l.n (placed (2 ^ l.n) l.positions c)

-- the E scrambled bits of a payload, for any layout; `start` is where the scrambler starts
unfoldable pub coded : Layout → ℕ → ℕ → ℕ → List ℕ → List ℕ
coded l E rnti start payload = xors (select l.kind (2 ^ l.n) E (code_word l rnti payload)) (gold start E)

-- a payload byte above 1
unfoldable pub bad_byte : ℕ → Bool
bad_byte = ltb 1

-- the call for a given layout
unfoldable pub coding_for : Layout → Numbers → List ℕ → List ℕ → Outcome
coding_for l s payload out =
    outcome (refusal_of s.a s.e bad_byte payload s.a out s.e) (first bad_byte payload)
    (coded l s.e s.rnti (c_init s) payload) out

-- document 01's call: that for the layout of A and E
unfoldable pub coding : Numbers → List ℕ → List ℕ → Outcome
coding s = coding_for (layout (K s.a) s.e) s
