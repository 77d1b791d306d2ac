-- Promise 3: coding gives 0, and from every noiseless row decoding under the same five numbers gives 0, exactly that payload and
-- the noise count 0.
-- With what document 01, "The job and its borders", says of accepted numbers, payloads and noiseless rows.
-- The statement; its proof is `promise3` of proofs/Promise3.antt.
-- Assumes nothing.
use Rattle.std.specs.Prelude.{◌≡◌, ◌≢◌, ℕ, ◌≤◌, ◌<◌, List, ℤ, pos, nat_abs, ◌<ℤ◌, length, get_or}
use Rattle.nr.specs.declared.Numbers.{Numbers}
use Rattle.nr.specs.Answer.{refusal}
use Rattle.nr.specs.Coding.{coding}
use Rattle.nr.specs.Decoding.{decoding}

-- document 01's accepted: none of 1 to 3 applies to A and E
abbrev pub Accepted : Numbers → Type 0
Accepted s = refusal s.a s.e ≡ 0

-- document 01's payload: A bits
pub record Payload (s : Numbers) (payload : List ℕ) : Type 0 where
  pub size : length payload ≡ s.a
  pub bits : (k : ℕ) → k < s.a → get_or payload k 0 ≤ 1

-- document 01's noiseless row, of values whose hard decisions are the sent bits: E soft values in -127..127 and not 0,
-- positive where the sent byte is 0 and negative where it is 1
pub record Noiseless (s : Numbers) (sent : List ℕ) (soft : List ℤ) : Type 0 where
  pub size : length soft ≡ s.e
  pub range : (k : ℕ) → k < s.e → nat_abs (get_or soft k (pos 0)) ≤ 127
  pub nonzero : (k : ℕ) → k < s.e → get_or soft k (pos 0) ≢ pos 0
  pub positive : (k : ℕ) → k < s.e → get_or sent k 0 ≡ 0 → pos 0 <ℤ get_or soft k (pos 0)
  pub negative : (k : ℕ) → k < s.e → get_or sent k 0 ≡ 1 → get_or soft k (pos 0) <ℤ pos 0

-- Of the RNTI, n_ID and n_RNTI nothing is asked. `out` is the output buffer before coding, `out'` that before decoding.
pub record Promise3 : Type 0 where
  pub codes : (s : Numbers) (payload out : List ℕ) → Accepted s → Payload s payload → length out ≡ s.e
      → (coding s payload out).number ≡ 0
  pub decodes : (s : Numbers) (payload out : List ℕ) → Accepted s → Payload s payload → length out ≡ s.e
      → (soft : List ℤ) (out' : List ℕ) → Noiseless s (coding s payload out).buffer soft → length out' ≡ s.a
      → decoding s soft out' ≡ record { number = 0; place = 0; buffer = payload; noise = 0 }

-- The hypotheses can be met: under all accepted numbers there is a payload, and for each payload a noiseless row.
pub record HypothesesMet : Type 0 where
  pub payload : (s : Numbers) → Accepted s → (payload : List ℕ) × Payload s payload
  pub row : (s : Numbers) (payload out : List ℕ) → Accepted s → Payload s payload → length out ≡ s.e
      → (soft : List ℤ) × Noiseless s (coding s payload out).buffer soft
