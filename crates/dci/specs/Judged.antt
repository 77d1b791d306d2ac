-- Decoding once the checks have passed, and what a call that decodes says.
-- Assumes nothing.
use Rattle.std.specs.Prelude.{ℕ, List, ℤ, take, Result, Ok, Err}
use Rattle.nr.specs.declared.Numbers.{Numbers}
use Rattle.nr.specs.declared.Refusal.{Refusal}
use Rattle.nr.specs.Numbers.{K}
use Rattle.nr.specs.Answer.{outcome, given, Reading, reading, on_done}
use Rattle.nr.specs.Construction.{Layout, layout}
use Rattle.nr.specs.Transform.{transform}
use Rattle.nr.specs.Scrambling.{c_init}
use Rattle.nr.specs.Decoding.{decided, received, or_parity, noise_of}

-- the noise count of an answer: a refusal carries none, which counts as 0
unfoldable pub counted : Result ℕ Refusal → ℕ
counted (Ok noise) = noise
counted (Err r) = 0

-- an answer of a call that decodes, with the buffer that it leaves, as a reading
abbrev pub told : Result ℕ Refusal → List ℕ → Reading
told r buffer = reading (given r buffer) (counted r)

-- the code word of the decided bits
abbrev pub decided_word : Layout → ℕ → List ℕ → List ℤ → List ℕ
decided_word l E c soft = transform l.n (decided l E c soft)

-- decoding where none of 1 to 6 applies: the parity decides between 0 and 7
abbrev pub judged : Numbers → List ℤ → List ℕ → Reading
judged s soft out =
    let l : Layout = layout (K s.a) s.e in
    let b : List ℕ = received l s.e s.rnti (c_init s) soft in
    let i : ℕ = or_parity 0 s.a b in
    let payload : List ℕ = take s.a b in
    reading (outcome i 0 payload out) (on_done i (noise_of l s soft payload))
