-- Where the scrambler starts: from n_ID and the lower 15 bits of n_RNTI, and from nothing else. So two n_RNTIs scramble alike
-- exactly if they differ in the top bit alone, or not at all.
-- Assumes nothing.
use Prim.Native.Nat.{ℕ, zero, suc, ◌+◌, ◌*◌, ◌/◌, ◌%◌, ◌^◌, ◌≤◌, ◌<◌}
use native.Mathlib.Omega.{arith}
use mathlib.Core.Path.{◌≡◌, refl, sym, ap, ap₂, ◌∙◌}
use mathlib.Core.Logic.{◌↔◌}
use mathlib.Core.List.{List}
use lib.IntN.{ℤ}
use lib.ListN.{get_or, take}
use Rattle.nr.specs.declared.Numbers.{Numbers}
use Rattle.nr.specs.Rows.{bit, first}
use Rattle.nr.specs.Numbers.{K}
use Rattle.nr.specs.Answer.{refusal_of, outcome, reading, on_done}
use Rattle.nr.specs.Construction.{Layout, layout}
use Rattle.nr.specs.Scrambling.{next2, step1, step2, after, gold, c_init}
use Rattle.nr.specs.Noise.{noise_count}
use Rattle.nr.specs.Coding.{coded, bad_byte, coding_for, coding}
use Rattle.nr.specs.Decoding.{received, or_parity, bad_soft, noise_of, decoding_for, decoding}
use Rattle.nr.proofs.Words.{bit_le, bit-shr, same_bits}
use Rattle.nr.proofs.Scrambling.{next2-bit, after2-lt, x1, x2, x2-starts, terms-at}

-- ---- the start's bits

-- it fits x2's register
pub start-lt : (s : Numbers) → c_init s < 2 ^ 31
start-lt s = omega arith

-- n_ID is its lower 16 bits, and the lower 15 of n_RNTI stand above them
pub start-parts : (s : Numbers) → s.n_id < 2 ^ 16 → (c_init s % 2 ^ 16 ≡ s.n_id) × (c_init s / 2 ^ 16 ≡ s.n_rnti % 2 ^ 15)
start-parts s h = (omega arith, omega arith)

-- with n_RNTI 0 it is n_ID
pub starts-from-identity : (s : Numbers) → s.n_id < 2 ^ 16 → s.n_rnti ≡ 0 → c_init s ≡ s.n_id
starts-from-identity s h z = omega (arith, (start-parts s h).0, (start-parts s h).1)

-- ---- who starts alike

-- the same n_ID, and n_RNTIs that differ in the top bit alone or not at all
pub record Alike (s t : Numbers) : Type 0 where
  pub identity : s.n_id ≡ t.n_id
  pub low : s.n_rnti % 2 ^ 15 ≡ t.n_rnti % 2 ^ 15

pub starts-alike : {s t : Numbers} → Alike s t → c_init s ≡ c_init t
starts-alike a = omega (arith, a.identity, a.low)

-- the same call with another n_RNTI
abbrev pub under : Numbers → ℕ → Numbers
under s r = record { a = s.a; e = s.e; rnti = s.rnti; n_id = s.n_id; n_rnti = r }

-- so 8000 hex starts as 0 does
pub top-bit-out : (s : Numbers) (r : ℕ) → c_init (under s (r + 2 ^ 15)) ≡ c_init (under s r)
top-bit-out s r = omega arith

-- and coding and decoding then answer the same
module _ (s : Numbers) (q r : ℕ) (e : q % 2 ^ 15 ≡ r % 2 ^ 15) where
  same_start : c_init (under s q) ≡ c_init (under s r)
  same_start = starts-alike {s = under s q} {t = under s r} (record { identity = refl; low = e })

  pub codes-alike : (payload out : List ℕ) → coding (under s q) payload out ≡ coding (under s r) payload out
  unfolding coding_for coding
  codes-alike payload out =
      ap (λ (start : ℕ). outcome (refusal_of s.a s.e bad_byte payload s.a out s.e) (first bad_byte payload)
      (coded (layout (K s.a) s.e) s.e s.rnti start payload) out) same_start

  pub decodes-alike : (soft : List ℤ) (out : List ℕ) → decoding (under s q) soft out ≡ decoding (under s r) soft out
  unfolding noise_of decoding_for decoding
  decodes-alike soft out =
      ap (λ (start : ℕ).
      let l : Layout = layout (K s.a) s.e in
      let b : List ℕ = received l s.e s.rnti start soft in
      let i : ℕ = or_parity (refusal_of s.a s.e bad_soft soft s.e out s.a) s.a b in
      reading (outcome i (first bad_soft soft) (take s.a b) out) (on_done i (noise_count soft (coded l s.e s.rnti start (take s.a b))))) same_start

-- ---- and nobody else: a sequence tells its start

-- of two bits added to the same
same_bit : (a b c : ℕ) → b ≤ 1 → c ≤ 1 → (a + b) % 2 ≡ (a + c) % 2 → b ≡ c
same_bit a b c h h' e = omega arith

same_parts : (a b n m : ℕ) → a < 2 ^ 30 → b < 2 ^ 30 → n ≤ 1 → m ≤ 1 → a + n * 2 ^ 30 ≡ b + m * 2 ^ 30 → (a ≡ b) × (n ≡ m)
same_parts a b n m h h' l l' e = (omega arith, omega arith)

half_lt : (s : ℕ) → s < 2 ^ 31 → s / 2 < 2 ^ 30
half_lt s h = omega arith

by-half : (s t : ℕ) → s / 2 ≡ t / 2 → bit 0 s ≡ bit 0 t → s ≡ t
by-half s t h l = omega arith

-- a step drops the lowest bit, and the term that comes in tells it
step2-tells : (s t : ℕ) → s < 2 ^ 31 → t < 2 ^ 31 → step2 s ≡ step2 t → s ≡ t
unfolding next2 step2
step2-tells s t h h' e = by-half s t half low
  where
    parts : (s / 2 ≡ t / 2) × (next2 s ≡ next2 t)
    parts = same_parts (s / 2) (t / 2) (next2 s) (next2 t) (half_lt s h) (half_lt t h') (next2-bit s) (next2-bit t) e

    half : s / 2 ≡ t / 2
    half = parts.0

    above : (j : ℕ) → bit (1 + j) s ≡ bit (1 + j) t
    above j = sym (bit-shr j 1 s) ∙ ap (bit j) half ∙ bit-shr j 1 t

    sum : bit 3 s + bit 2 s + bit 1 s ≡ bit 3 t + bit 2 t + bit 1 t
    sum = ap₂ (λ (a b : ℕ). a + b) (ap₂ (λ (a b : ℕ). a + b) (above 2) (above 1)) (above 0)

    low : bit 0 s ≡ bit 0 t
    low = same_bit (bit 3 s + bit 2 s + bit 1 s) (bit 0 s) (bit 0 t) (bit_le 0 s) (bit_le 0 t) (parts.1 ∙ ap (λ (a : ℕ). (a + bit 0 t) % 2) (sym sum))

after-tells : (k s t : ℕ) → s < 2 ^ 31 → t < 2 ^ 31 → after step2 k s ≡ after step2 k t → s ≡ t
unfolding after
after-tells zero s t h h' e = e
after-tells (suc k) s t h h' e = step2-tells s t h h' (after-tells k (step2 s) (step2 t) (after2-lt 1 s h) (after2-lt 1 t h') e)

-- 31 terms are enough
pub sequence-tells : (E : ℕ) → 31 ≤ E → (s t : ℕ) → s < 2 ^ 31 → t < 2 ^ 31 → gold s E ≡ gold t E → s ≡ t
unfolding gold
sequence-tells E l s t h h' e =
    after-tells 1600 s t h h' (same_bits 31 s' t' (after2-lt 1600 s h) (after2-lt 1600 t h') (λ i m.
    let both = sym (terms-at E o s' i (omega arith)) ∙ ap (λ (row : List ℕ). get_or row i 0) e ∙ terms-at E o t' i (omega arith) in
    sym (x2-starts s' i (omega arith)) ∙ same_bit (x1 o i) (x2 s' i) (x2 t' i) (bit_le 0 _) (bit_le 0 _) both ∙ x2-starts t' i (omega arith)))
  where
    o : ℕ
    o = after step1 1600 1

    s' : ℕ
    s' = after step2 1600 s

    t' : ℕ
    t' = after step2 1600 t

pub scrambles-alike : (E : ℕ) → 31 ≤ E → (s t : Numbers) → s.n_id < 2 ^ 16 → t.n_id < 2 ^ 16
    → (gold (c_init s) E ≡ gold (c_init t) E) ↔ Alike s t
scrambles-alike E l s t h h' = (
  λ e.
      let same = sequence-tells E l (c_init s) (c_init t) (start-lt s) (start-lt t) e in
      let p = start-parts s h in
      let q = start-parts t h' in
      record { identity = sym p.0 ∙ ap (λ (c : ℕ). c % 2 ^ 16) same ∙ q.0; low = sym p.1 ∙ ap (λ (c : ℕ). c / 2 ^ 16) same ∙ q.1 },
  λ a. ap (λ (c : ℕ). gold c E) (starts-alike a),
)
