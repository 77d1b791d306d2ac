-- The search of a handset's candidates (document 02): from n_ID, the soft values of a region, the list of candidates and the old
-- payload buffer to the outcome, for all inputs. A region is whole CCEs of 108 soft values; a candidate is the message that may
-- lie in `level` of them from CCE `first` on.
-- Assumes nothing.
use Rattle.std.specs.Prelude.{ℕ, zero, suc, ◌+◌, ◌*◌, ◌/◌, ◌%◌, Bool, cond, not, ◌&&◌, ◌||◌, List, [], ◌∷◌, ◌++◌, eqb, ltb, leb, ℤ, length, get_or, take, drop}
use Rattle.nr.specs.declared.Numbers.{Numbers}
use Rattle.nr.specs.declared.Candidate.{Candidate}
use Rattle.nr.specs.Rows.{count, has, first}
use Rattle.nr.specs.Answer.{first_number, Reading}
use Rattle.nr.specs.Decoding.{decoding}

-- the aggregation levels
abbrev pub levels : List ℕ
levels = 1 ∷ 2 ∷ 4 ∷ 8 ∷ 16 ∷ []

-- in a region of so many CCEs a message may lie in `level` of them from CCE `first` on
unfoldable pub fits : ℕ → ℕ → ℕ → Bool
fits cces first level = has level levels && (eqb (first % level) 0 && leb (first + level) cces)

-- candidate i of a list that has five numbers for each
abbrev pub candidate_at : List ℕ → ℕ → Candidate
candidate_at list i = record {
  first = get_or list (5 * i) 0;
  level = get_or list (5 * i + 1) 0;
  a = get_or list (5 * i + 2) 0;
  rnti = get_or list (5 * i + 3) 0;
  n_rnti = get_or list (5 * i + 4) 0;
}

-- its own row: the soft values of its CCEs
abbrev pub stretch_of : List ℤ → Candidate → List ℤ
stretch_of region c = take (108 * c.level) (drop (108 * c.first) region)

-- the numbers that it is decoded under
abbrev pub numbers_of : ℕ → Candidate → Numbers
numbers_of n c = record { a = c.a; e = 108 * c.level; rnti = c.rnti; n_id = n; n_rnti = c.n_rnti }

-- what decoding makes of its row, with the front of the payload buffer
unfoldable pub tried : ℕ → List ℤ → List ℕ → Candidate → Reading
tried n region out c = decoding (numbers_of n c) (stretch_of region c) (take c.a out)

-- its RNTI and its n_RNTI have 16 bits, as those of the other calls
abbrev pub sixteen_bits : Candidate → Bool
sixteen_bits c = ltb c.rnti 65536 && ltb c.n_rnti 65536

-- it lies in the region as a message may, its numbers have 16 bits, and decoding gives 0
unfoldable pub decodes : ℕ → List ℤ → List ℕ → Candidate → Bool
decodes n region out c =
    fits (length region / 108) c.first c.level && (sixteen_bits c && eqb (tried n region out c).number 0)

-- what the search gives: the number, the candidate that it names, that one's stretch of the region, what the payload buffer then
-- holds, and that one's noise count
pub record Found : Type 0 where
  pub number : ℕ
  pub candidate : ℕ
  pub stretch : List ℤ
  pub buffer : List ℕ
  pub noise : ℕ

abbrev pub found : ℕ → ℕ → List ℤ → List ℕ → ℕ → Found
found number candidate stretch buffer noise = record { number = number; candidate = candidate; stretch = stretch; buffer = buffer; noise = noise }

-- with every number but 0: nothing is named, nothing is counted, and the buffer is as it was
abbrev pub unfound : ℕ → List ℕ → Found
unfound number out = found number 0 [] out 0

-- on 0: only the front of the buffer changes
unfoldable pub accepted : ℕ → List ℤ → List ℕ → List ℕ → ℕ → Found
accepted n region list out i =
    let c : Candidate = candidate_at list i in
    let t : Reading = tried n region out c in
    found 0 i (stretch_of region c) (t.buffer ++ drop c.a out) t.noise

-- the first candidate that decodes; 8 where none does
unfoldable pub searched : ℕ → List ℤ → List ℕ → List ℕ → Found
searched n region list out =
    let size : ℕ = length list / 5 in
    let i : ℕ = first (λ i. decodes n region out (candidate_at list i)) (count 0 size) in
    cond (ltb i size) (accepted n region list out i) (unfound 8 out)

-- so many entries are 0 to `most` whole groups of `size`
abbrev pub whole : ℕ → ℕ → ℕ → Bool
whole size most entries = eqb (entries % size) 0 && leb (entries / size) most

-- 4 where the region is not 0 to 64 whole CCEs or the list not 0 to 44 whole candidates; then 5 where the buffer is not 140 bytes
unfoldable pub search_refusal : ℕ → ℕ → ℕ → ℕ
search_refusal region list out = first_number 4 ((not (whole 108 64 region) || not (whole 5 44 list)) ∷ not (eqb out 140) ∷ [])

unfoldable pub or_refused : ℕ → List ℕ → Found → Found
or_refused zero out f = f
or_refused (suc i) out f = unfound (suc i) out

-- the call
unfoldable pub searching : ℕ → List ℤ → List ℕ → List ℕ → Found
searching n region list out =
    or_refused (search_refusal (length region) (length list) (length out)) out (searched n region list out)

-- where the stretch starts in the region: at the first CCE of the candidate that is named, if one is
unfoldable pub start_of : List ℕ → Found → ℕ
start_of list f = cond (eqb f.number 0) (108 * (candidate_at list f.candidate).first) 0
