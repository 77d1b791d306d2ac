-- Coding undone by decoding, for any layout whose information positions ascend, lie below N and are all sent.
-- Assumes nothing.
use Prim.Native.Nat.{ℕ, ◌+◌, ◌-◌, ◌^◌, ◌≤◌, ◌<◌}
use native.Mathlib.Omega.{arith}
use mathlib.Core.Path.{◌≡◌, refl, sym, subst, ap, ◌∙◌}
use mathlib.Core.Bool.{Bool, true, false, cond, not}
use mathlib.Core.List.{List, map}
use lib.Dec.{T, T_not}
use lib.IntN.{ℤ, pos}
use lib.ListN.{length, get_or, get_or-eq_default}
use lib.Seq.{ext_get_or}
use Rattle.nr.specs.declared.RateMatching.{RateMatching}
use Rattle.nr.specs.declared.RateMatching.TheVariants.{Repetition, Puncturing, Shortening}
use Rattle.nr.specs.Rows.{count, has, place, entries, Bits, ascending}
use Rattle.nr.specs.Parity.{attach, mask_rnti}
use Rattle.nr.specs.Interleaver.{interleave, deinterleave}
use Rattle.nr.specs.Construction.{unsent, Layout}
use Rattle.nr.specs.Transform.{transform}
use Rattle.nr.specs.RateMatching.{select, Fits}
use Rattle.nr.specs.Scrambling.{gold}
use Rattle.nr.specs.SuccessiveDecoder.{descramble, code_row, marks}
use Rattle.nr.specs.Coding.{placed, code_word, coded}
use Rattle.nr.specs.Decoding.{decided, received}
use Rattle.nr.proofs.Tests.{holds}
use Rattle.nr.proofs.Rows.{length-table, get_or-table, length-entries, get_or-entries, has_get_d, place-has, place-absent, place-get_or, ascending-distinct}
use Rattle.nr.proofs.Zip.{bits-entries, length-xors, get_or-xors, bits-xors}
use Rattle.nr.proofs.Parity.{length-attach, bits-attach, length-mask_rnti, bits-mask_rnti, mask_rnti-twice}
use Rattle.nr.proofs.Interleaver.{length-interleave, bits-interleave, length-deinterleave, deinterleave-interleave}
use Rattle.nr.proofs.Transform.{Each, Down, bits-transform}
use Rattle.nr.proofs.SuccessiveDecoder.{Sign, Frozen, Unchosen, noiseless}
use Rattle.nr.proofs.SubBlocks.{punctured-down}
use Rattle.nr.proofs.SoftRows.{length-descramble, get_or-descramble, length-code_row}
use Rattle.nr.proofs.Matching.{punctured, code_row-clean, descrambled, length-select, bits-select}
use Rattle.nr.proofs.Scrambling.{length-gold, bits-gold}

-- ---- the information positions: placed, marked and read again

module _ (N : ℕ) (positions : List ℕ) where
  pub length-marks : length (marks N positions) ≡ N
  unfolding marks
  length-marks = length-table (λ p. cond (has p positions) 1 0) 0 N

  pub marks-at : (p : ℕ) → p < N → get_or (marks N positions) p 0 ≡ cond (has p positions) 1 0
  unfolding marks
  marks-at p h = get_or-table (λ p. cond (has p positions) 1 0) N p 0 h

module _ (N : ℕ) (positions bits : List ℕ) where
  pub length-placed : length (placed N positions bits) ≡ N
  unfolding placed
  length-placed = length-entries (map (λ p. place p positions) (count 0 N)) bits ∙ length-table (λ p. place p positions) 0 N

  pub placed_at : (p : ℕ) → p < N → get_or (placed N positions bits) p 0 ≡ get_or bits (place p positions) 0
  unfolding placed
  placed_at p h =
      get_or-entries (map (λ p. place p positions) (count 0 N)) bits p (subst (λ (m : ℕ). p < m) (sym (length-table (λ p. place p positions) 0 N)) h)
      ∙ ap (λ (i : ℕ). get_or bits i 0) (get_or-table (λ p. place p positions) N p 0 h)

  pub bits-placed : Bits bits → Bits (placed N positions bits)
  unfolding placed
  bits-placed b = bits-entries (map (λ p. place p positions) (count 0 N)) bits b

  -- what is not marked is not an information position, and has 0
  unmarked : (p : ℕ) → p < N → get_or (marks N positions) p 0 ≡ 0 → T (not (has p positions))
  unmarked p h e = go (has p positions) (sym (marks-at N positions p h) ∙ e)
    where
      go : (b : Bool) → ◌≡◌ {A = ℕ} (cond b 1 0) 0 → T (not b)
      go true w = let z : ⊥ = omega arith in absurd z
      go false w = tt

  pub placed_off : length bits ≡ length positions → (p : ℕ) → p < N → T (not (has p positions)) → get_or (placed N positions bits) p 0 ≡ 0
  placed_off e p h t = placed_at p h ∙ ap (λ (i : ℕ). get_or bits i 0) (place-absent p positions t) ∙ get_or-eq_default bits 0 (omega arith)

  pub picked : length bits ≡ length positions → T (ascending positions) → ((p : ℕ) → T (has p positions) → p < N)
      → entries positions (placed N positions bits) ≡ bits
  picked e up below =
      ext_get_or 0 (entries positions (placed N positions bits)) bits (length-entries positions (placed N positions bits) ∙ sym e) (λ i h.
      let l : i < length positions = subst (λ (m : ℕ). i < m) (length-entries positions (placed N positions bits)) h in
      get_or-entries positions (placed N positions bits) i l
      ∙ placed_at (get_or positions i 0) (below (get_or positions i 0) (has_get_d positions i 0 l))
      ∙ ap (λ (j : ℕ). get_or bits j 0) (place-get_or positions i (ascending-distinct positions up) l))

-- read and placed again: a row that has 0 where no information position is
pub placed-again : (N : ℕ) (positions u : List ℕ) → length u ≡ N → ((p : ℕ) → p < N → T (not (has p positions)) → get_or u p 0 ≡ 0)
    → placed N positions (entries positions u) ≡ u
placed-again N positions u e off =
    let row : List ℕ = placed N positions (entries positions u) in
    let len : length row ≡ N = length-placed N positions (entries positions u) in
    ext_get_or 0 row u (len ∙ sym e) (λ p h. at p (subst (λ (m : ℕ). p < m) len h))
  where
    at : (p : ℕ) → p < N → get_or (placed N positions (entries positions u)) p 0 ≡ get_or u p 0
    at p h = go (has p positions) refl
      where
        go : (b : Bool) → has p positions ≡ b → get_or (placed N positions (entries positions u)) p 0 ≡ get_or u p 0
        go true q =
            let w = place-has p positions (holds q) in
            placed_at N positions (entries positions u) p h
            ∙ get_or-entries positions u (place p positions) w.0 ∙ ap (λ (i : ℕ). get_or u i 0) w.1
        go false q =
            let t : T (not (has p positions)) = subst (λ (b : Bool). T (not b)) (sym q) tt in
            placed_off N positions (entries positions u) (length-entries positions u) p h t ∙ sym (off p h t)

-- ---- what coding and decoding give, for any layout

pub bits-code_word : (l : Layout) (rnti : ℕ) (payload : List ℕ) → Bits (code_word l rnti payload)
unfolding code_word
bits-code_word l rnti payload =
    let c : List ℕ = interleave (mask_rnti rnti (attach payload)) in
    bits-transform l.n (placed (2 ^ l.n) l.positions c)
    (bits-placed (2 ^ l.n) l.positions c (bits-interleave (mask_rnti rnti (attach payload)) (bits-mask_rnti rnti (attach payload))))

module _ (l : Layout) (E rnti start : ℕ) where
  pub length-coded : (payload : List ℕ) → length (coded l E rnti start payload) ≡ E
  unfolding coded
  length-coded payload =
      length-xors E (select l.kind (2 ^ l.n) E (code_word l rnti payload)) (gold start E)
      (length-select l.kind (2 ^ l.n) E (code_word l rnti payload)) (length-gold start E)

  pub bits-coded : (payload : List ℕ) → Bits (coded l E rnti start payload)
  unfolding coded
  bits-coded payload = bits-xors (select l.kind (2 ^ l.n) E (code_word l rnti payload)) (gold start E)

  pub length-received : (soft : List ℤ) → 16 ≤ length l.positions → length (received l E rnti start soft) ≡ length l.positions
  unfolding received
  length-received soft h =
      let row : List ℕ = entries l.positions (decided l E (gold start E) soft) in
      let e : length (deinterleave row) ≡ length l.positions = length-deinterleave row ∙ length-entries l.positions (decided l E (gold start E) soft) in
      length-mask_rnti rnti (deinterleave row) (omega arith) ∙ e

  pub bits-received : (soft : List ℤ) → Bits (received l E rnti start soft)
  unfolding received
  bits-received soft = bits-mask_rnti rnti (deinterleave (entries l.positions (decided l E (gold start E) soft)))

-- ---- the round trip

-- a layout for E sent bits whose information positions ascend, lie below N and are all sent
pub record Sound (l : Layout) (E : ℕ) : Type 0 where
  pub large : 5 ≤ l.n
  pub fits : Fits l.kind (2 ^ l.n) E
  pub few : length l.positions ≤ 164
  pub rising : T (ascending l.positions)
  pub below : (p : ℕ) → T (has p l.positions) → p < 2 ^ l.n
  pub sent : (p : ℕ) → T (has p l.positions) → T (not (has p (unsent l.kind (2 ^ l.n) E)))

module _ (k : ℕ) (kind : RateMatching) (positions : List ℕ) (E rnti start : ℕ) where
  abbrev l : Layout
  l = record { n = k + 5; kind = kind; positions = positions }

  module _ (sound : Sound l E) (payload : List ℕ) (bits : Bits payload) (size : length payload + 24 ≡ length positions)
      (soft : List ℤ) (length-soft : length soft ≡ E)
      (signs : (j : ℕ) → j < E → Sign (get_or soft j (pos 0)) (get_or (coded l E rnti start payload) j 0)) where
    abbrev N : ℕ
    N = 2 ^ (k + 5)

    abbrev b : List ℕ
    b = mask_rnti rnti (attach payload)

    abbrev u : List ℕ
    u = placed N positions (interleave b)

    length-b : length b ≡ length payload + 24
    length-b = length-mask_rnti rnti (attach payload) (omega (arith, length-attach payload)) ∙ length-attach payload

    length-c : length (interleave b) ≡ length positions
    length-c = length-interleave b (omega (arith, length-b, sound.few)) ∙ length-b ∙ size

    -- after descrambling the values have the signs of the selected bits
    signs' : (j : ℕ) → j < E → Sign (get_or (descramble (gold start E) soft) j (pos 0)) (get_or (select kind N E (transform (k + 5) u)) j 0)
    unfolding coded code_word
    signs' j h =
        let lg : length (gold start E) ≡ E = length-gold start E in
        let ls : length (select kind N E (transform (k + 5) u)) ≡ E = length-select kind N E (transform (k + 5) u) in
        rw (get_or-descramble (gold start E) soft (lg ∙ sym length-soft) j (omega arith))
        (descrambled (get_or (select kind N E (transform (k + 5) u)) j 0) (get_or (gold start E) j 0) (get_or soft j (pos 0))
        (bits-select kind N E (transform (k + 5) u) (bits-transform (k + 5) u (bits-placed N positions (interleave b) (bits-interleave b (bits-mask_rnti rnti (attach payload))))) j)
        (bits-gold start E j)
        (subst (λ (x : ℕ). Sign (get_or soft j (pos 0)) x) (get_or-xors (select kind N E (transform (k + 5) u)) (gold start E) j (omega arith) (omega arith)) (signs j h)))

    frozen : Frozen (k + 5) (marks N positions) u
    frozen p h e = placed_off N positions (interleave b) length-c p h (unmarked N positions (interleave b) p h e)

    unused : Each (k + 5) (λ p. T (has p (unsent kind N E)) → get_or u p 0 ≡ 0)
    unused p h t = placed_off N positions (interleave b) length-c p h (go (has p positions) refl)
      where
        go : (c : Bool) → has p positions ≡ c → T (not c)
        go true e = absurd (T_not (has p (unsent kind N E)) (sound.sent p (holds e)) t)
        go false e = tt

    unchosen : Unchosen (k + 5) (marks N positions) (punctured kind N E)
    unchosen p h t = marks-at N positions p h ∙ go (has p positions) refl
      where
        left_out : (c : RateMatching) → T (punctured c N E p) → T (has p (unsent c N E))
        left_out Repetition t = absurd t
        left_out Puncturing t = t
        left_out Shortening t = absurd t

        go : (c : Bool) → has p positions ≡ c → ◌≡◌ {A = ℕ} (cond c 1 0) 0
        go true e = absurd (T_not (has p (unsent kind N E)) (sound.sent p (holds e)) (left_out kind t))
        go false e = refl

    -- the decided bits are the placed ones
    decides : decided l E (gold start E) soft ≡ u
    unfolding decided unsent
    decides =
        noiseless (k + 5) (marks N positions) u (punctured kind N E) (code_row kind N E (descramble (gold start E) soft))
        (length-placed N positions (interleave b)) length-row
        (bits-placed N positions (interleave b) (bits-interleave b (bits-mask_rnti rnti (attach payload))))
        frozen unchosen (down kind)
        (code_row-clean k E u (descramble (gold start E) soft) length-descrambled (length-placed N positions (interleave b)) kind sound.fits unused signs')
      where
        length-descrambled : length (descramble (gold start E) soft) ≡ E
        length-descrambled = length-descramble (gold start E) soft (length-gold start E ∙ sym length-soft) ∙ length-soft

        length-row : length (code_row kind N E (descramble (gold start E) soft)) ≡ N
        length-row = length-code_row kind N E (descramble (gold start E) soft)

        down : (c : RateMatching) → Down (k + 5) (punctured c N E)
        down Repetition j x z h t = t
        down Puncturing j x z h t = punctured-down k (N - E) (omega arith) j x z h t
        down Shortening j x z h t = t

    -- and what is received is what was attached
    receives : received l E rnti start soft ≡ attach payload
    unfolding received
    receives =
        ap (λ (v : List ℕ). mask_rnti rnti (deinterleave (entries positions v))) decides
        ∙ ap (λ (v : List ℕ). mask_rnti rnti (deinterleave v)) (picked N positions (interleave b) length-c sound.rising sound.below)
        ∙ ap (mask_rnti rnti) (deinterleave-interleave b (omega (arith, length-b, sound.few)))
        ∙ mask_rnti-twice rnti (attach payload) (omega (arith, length-attach payload)) (bits-attach payload bits)

-- the same for any sound layout
pub round_trip : (l : Layout) (E rnti start : ℕ) → Sound l E
    → (payload : List ℕ) → Bits payload → length payload + 24 ≡ length l.positions
    → (soft : List ℤ) → length soft ≡ E → ((j : ℕ) → j < E → Sign (get_or soft j (pos 0)) (get_or (coded l E rnti start payload) j 0))
    → received l E rnti start soft ≡ attach payload
round_trip l E rnti start sound =
    let e : l.n - 5 + 5 ≡ l.n = omega (arith, sound.large) in
    subst
    (λ (m : ℕ).
    let l' : Layout = record { n = m; kind = l.kind; positions = l.positions } in
    Sound l' E → (payload : List ℕ) → Bits payload → length payload + 24 ≡ length l.positions
    → (soft : List ℤ) → length soft ≡ E → ((j : ℕ) → j < E → Sign (get_or soft j (pos 0)) (get_or (coded l' E rnti start payload) j 0))
    → received l' E rnti start soft ≡ attach payload)
    e (receives (l.n - 5) l.kind l.positions E rnti start) sound
