-- Decoding: from the numbers, the soft values and the old output buffer to the outcome and the noise count, for all inputs.
-- Assumes nothing.
use Rattle.std.specs.Prelude.{ℕ, zero, suc, ◌^◌, Bool, cond, List, ltb, ℤ, nat_abs, take}
use Rattle.nr.specs.declared.Numbers.{Numbers}
use Rattle.nr.specs.Rows.{first, entries}
use Rattle.nr.specs.Numbers.{K}
use Rattle.nr.specs.Answer.{refusal_of, outcome, Reading, reading, on_done}
use Rattle.nr.specs.Parity.{mask_rnti, parity_matches}
use Rattle.nr.specs.Interleaver.{deinterleave}
use Rattle.nr.specs.Construction.{Layout, layout}
use Rattle.nr.specs.Scrambling.{gold, c_init}
use Rattle.nr.specs.SuccessiveDecoder.{descramble, code_row, successive, marks}
use Rattle.nr.specs.Coding.{coded}
use Rattle.nr.specs.Noise.{noise_count}

-- the decided bits, in order of position, of a row of E soft values that the sequence c has scrambled
unfoldable pub decided : Layout → ℕ → List ℕ → List ℤ → List ℕ
decided l E c soft =
    successive l.n (marks (2 ^ l.n) l.positions)
    (code_row l.kind (2 ^ l.n) E (descramble c soft))

-- the row of payload and parity as it was sent: the interleaver undone, the RNTI still on it
abbrev pub masked_row : Layout → ℕ → List ℕ → List ℤ → List ℕ
masked_row l E c soft = deinterleave (entries l.positions (decided l E c soft))

-- the row b of payload and parity: the RNTI added again
unfoldable pub received : Layout → ℕ → ℕ → ℕ → List ℤ → List ℕ
received l E rnti start soft = mask_rnti rnti (masked_row l E (gold start E) soft)

-- number 7 where the parity does not match, after the numbers before it
unfoldable pub or_parity : ℕ → ℕ → List ℕ → ℕ
or_parity zero A b = cond (parity_matches A b) 0 7
or_parity (suc i) A b = suc i

-- a soft value outside -127..127
unfoldable pub bad_soft : ℤ → Bool
bad_soft x = ltb 127 (nat_abs x)

-- the noise count where a call gives 0: that of the E soft values against the accepted payload coded again
unfoldable pub noise_of : Layout → Numbers → List ℤ → List ℕ → ℕ
noise_of l s soft payload = noise_count soft (coded l s.e s.rnti (c_init s) payload)

-- the call for a given layout; the first A bits of b are the payload
unfoldable pub decoding_for : Layout → Numbers → List ℤ → List ℕ → Reading
decoding_for l s soft out =
    let b : List ℕ = received l s.e s.rnti (c_init s) soft in
    let i : ℕ = or_parity (refusal_of s.a s.e bad_soft soft s.e out s.a) s.a b in
    let payload : List ℕ = take s.a b in
    reading (outcome i (first bad_soft soft) payload out) (on_done i (noise_of l s soft payload))

-- document 01's call: that for the layout of A and E
unfoldable pub decoding : Numbers → List ℤ → List ℕ → Reading
decoding s = decoding_for (layout (K s.a) s.e) s
