-- Rate matching and scrambling undone: from soft values with the signs of the sent bits, the decoder's row is noiseless for the code word.
-- Assumes nothing.
use Prim.Native.Nat.{ℕ, zero, suc, ◌+◌, ◌-◌, ◌^◌, ◌≤◌, ◌<◌}
use native.Mathlib.Nat.{suc-ne-zero, not-suc-le-zero, le_of_suc-le-suc, mod-eq_of_lt, lt_of_not-le}
use native.Mathlib.Decide.{dec_le}
use native.Mathlib.Omega.{arith}
use mathlib.Core.Path.{◌≡◌, refl, sym, subst, ap, ◌∙◌}
use mathlib.Core.Bool.{Bool, true, false}
use mathlib.Core.List.{List, map}
use lib.Dec.{T}
use lib.IntN.{ℤ, pos, neg_ℤ}
use lib.ListN.{length, get_or}
use Rattle.nr.specs.declared.RateMatching.{RateMatching}
use Rattle.nr.specs.declared.RateMatching.TheVariants.{Repetition, Puncturing, Shortening}
use Rattle.nr.specs.Rows.{count, has, xor, Bits}
use Rattle.nr.specs.Construction.{J, unsent, rank}
use Rattle.nr.specs.Transform.{transform}
use Rattle.nr.specs.RateMatching.{sub_blocks, selected, select, Fits}
use Rattle.nr.specs.SuccessiveDecoder.{negate_if, certain, gather, code_row}
use Rattle.nr.proofs.Tests.{holds, is, clash}
use Rattle.nr.proofs.Rows.{length-picked, get_d_picked}
use Rattle.nr.proofs.Zip.{bits-entries}
use Rattle.nr.proofs.Transform.{Each, transform-zero}
use Rattle.nr.proofs.SuccessiveDecoder.{Sign, Soft, Clean}
use Rattle.nr.proofs.Gather.{zero-first, gather-adds, gather-punctured, gather-shortened, added-sign}
use Rattle.nr.proofs.SubBlocks.{rank_lt, J-rank, found, finds, shortened-up}
use Rattle.nr.proofs.SoftRows.{code_row-is, get_or-by_position}

-- ---- the sent bits

-- the code word in sub-block order
module _ (N : ℕ) (d : List ℕ) where
  pub length-sub_blocks : length (sub_blocks N d) ≡ N
  unfolding sub_blocks
  length-sub_blocks = length-picked (J N) N d

  pub get_or-sub_blocks : (i : ℕ) → i < N → get_or (sub_blocks N d) i 0 ≡ get_or d (J N i) 0
  unfolding sub_blocks
  get_or-sub_blocks = get_d_picked (J N) N d

module _ (kind : RateMatching) (N E : ℕ) (d : List ℕ) where
  pub length-select : length (select kind N E d) ≡ E
  unfolding select
  length-select = length-picked (selected kind N E) E (sub_blocks N d)

  pub bits-select : Bits d → Bits (select kind N E d)
  unfolding select sub_blocks
  bits-select b = bits-entries (map (selected kind N E) (count 0 E)) (sub_blocks N d) (bits-entries (map (J N) (count 0 N)) d b)

module _ (k E : ℕ) (d : List ℕ) where
  -- the code bit with the place i in sub-block order
  abbrev bit_at : ℕ → ℕ
  bit_at i = get_or d (J (2 ^ (k + 5)) i) 0

  -- sent bit j is the code bit at its place
  select-at : (kind : RateMatching) (j : ℕ) → j < E → selected kind (2 ^ (k + 5)) E j < 2 ^ (k + 5)
      → get_or (select kind (2 ^ (k + 5)) E d) j 0 ≡ bit_at (selected kind (2 ^ (k + 5)) E j)
  unfolding select
  select-at kind j h l =
      let N : ℕ = 2 ^ (k + 5) in
      get_d_picked (selected kind N E) E (sub_blocks N d) j h ∙ get_or-sub_blocks N d (selected kind N E j) l

-- ---- the decoder's row

-- the positions whose value is 0: those that puncturing leaves out
abbrev pub punctured : RateMatching → ℕ → ℕ → ℕ → Bool
punctured Repetition N E p = false
punctured Puncturing N E p = has p (unsent Puncturing N E)
punctured Shortening N E p = false

-- the value of a shortened position speaks for 0
certain-sign : Sign certain 0
unfolding certain
certain-sign = Sign.plus

module _ (k E : ℕ) (u : List ℕ) (soft : List ℤ) (le : length soft ≡ E) where
  -- the row at position p is what was gathered for it
  code_row-at : (kind : RateMatching) (p : ℕ) → p < 2 ^ (k + 5)
      → get_or (code_row kind (2 ^ (k + 5)) E soft) p (pos 0) ≡ get_or (gather kind (2 ^ (k + 5)) E soft) (rank k p) (pos 0)
  code_row-at kind p h =
      let N : ℕ = 2 ^ (k + 5) in
      ap (λ (r : List ℤ). get_or r p (pos 0)) (code_row-is kind N E soft) ∙ get_or-by_position k (gather kind N E soft) p h

  -- each soft value has the sign of its sent bit
  abbrev pub Sent : RateMatching → Type 0
  Sent kind = (j : ℕ) → j < E → Sign (get_or soft j (pos 0)) (get_or (select kind (2 ^ (k + 5)) E (transform (k + 5) u)) j 0)

  abbrev d : List ℕ
  d = transform (k + 5) u

  -- what was gathered for a place that was sent has the sign of its code bit
  value : (kind : RateMatching) → Fits kind (2 ^ (k + 5)) E → Sent kind → (i j : ℕ) → i < 2 ^ (k + 5) → j < E → selected kind (2 ^ (k + 5)) E j ≡ i
      → Sign (get_or (gather kind (2 ^ (k + 5)) E soft) i (pos 0)) (bit_at k E d i)
  value kind fits s i j h hj e =
      let N : ℕ = 2 ^ (k + 5) in
      rw (gather-adds kind N E soft le fits i j h hj e)
      (added-sign (selected kind N E) i (bit_at k E d i) 0 soft
      (λ m l q.
      let w : selected kind N E m ≡ i = ap (selected kind N E) (zero-first m) ∙ q in
      subst (λ (b : ℕ). Sign (get_or soft m (pos 0)) b)
      (select-at k E d kind m (omega arith) (subst (λ (x : ℕ). x < N) (sym w) h) ∙ ap (bit_at k E d) w) (s m (omega arith)))
      j (omega arith) (ap (selected kind N E) (sym (zero-first j)) ∙ e))

  -- u is 0 where it is never sent
  abbrev pub Unused : RateMatching → Type 0
  Unused kind = Each (k + 5) (λ p. T (has p (unsent kind (2 ^ (k + 5)) E)) → get_or u p 0 ≡ 0)

  module _ (lu : length u ≡ 2 ^ (k + 5)) where
    at_position : (p : ℕ) → p < 2 ^ (k + 5) → bit_at k E d (rank k p) ≡ get_or d p 0
    at_position p h = ap (λ (x : ℕ). get_or d x 0) (J-rank k p h)

    pub code_row-clean : (kind : RateMatching) → Fits kind (2 ^ (k + 5)) E → Unused kind → Sent kind
        → Clean (k + 5) (punctured kind (2 ^ (k + 5)) E) (code_row kind (2 ^ (k + 5)) E soft) d
    unfolding unsent selected
    code_row-clean Repetition fits un s p h =
        let r : rank k p < 2 ^ (k + 5) = rank_lt k p h in
        rw (code_row-at Repetition p h, ← (at_position p h)) (value Repetition fits s (rank k p) (rank k p) r (omega arith) (mod-eq_of_lt r))
    code_row-clean Puncturing fits un s p h =
        rw (code_row-at Puncturing p h, ← (at_position p h)) (go (has p (unsent Puncturing N E)) refl)
      where
        N : ℕ
        N = 2 ^ (k + 5)

        i : ℕ
        i = rank k p

        go : (b : Bool) → has p (unsent Puncturing N E) ≡ b → Soft b (get_or (gather Puncturing N E soft) i (pos 0)) (bit_at k E d i)
        go true e = gather-punctured N E soft i (omega (arith, (found k 0 (N - E) (omega arith) p (holds e)).1))
        go false e =
            let r : i < N = rank_lt k p h in
            let l : N - E ≤ i = elim (dec_le (N - E) i) [ yes m ↦ m | no m ↦ clash (is (has p (unsent Puncturing N E)) (finds k 0 (N - E) p h (omega arith) (omega (arith, lt_of_not-le m)))) e ] in
            value Puncturing fits s i (i - (N - E)) r (omega arith) (omega arith)
    code_row-clean Shortening fits un s p h = rw (code_row-at Shortening p h) (go (has p (unsent Shortening N E)) refl)
      where
        N : ℕ
        N = 2 ^ (k + 5)

        i : ℕ
        i = rank k p

        go : (b : Bool) → has p (unsent Shortening N E) ≡ b → Sign (get_or (gather Shortening N E soft) i (pos 0)) (get_or d p 0)
        go true e =
            let l : E ≤ i = (found k E (N - E) (omega arith) p (holds e)).0 in
            let r : i < N = rank_lt k p h in
            let z : get_or d p 0 ≡ 0 =
            transform-zero (k + 5) u (λ q. has q (unsent Shortening N E)) lu (shortened-up k E (omega arith)) un p h (holds e) in
            rw (z, gather-shortened N E soft i le l r) certain-sign
        go false e =
            let r : i < N = rank_lt k p h in
            let l : i < E = elim (dec_le E i) [ no m ↦ lt_of_not-le m | yes m ↦ clash (is (has p (unsent Shortening N E)) (finds k E (N - E) p h m (omega arith))) e ] in
            rw (← (at_position p h)) (value Shortening fits s i i r l refl)

-- ---- scrambling

-- adding the scrambling bit and negating the soft value where it is 1 leaves the sign right
pub descrambled : (e c : ℕ) (x : ℤ) → e ≤ 1 → c ≤ 1 → Sign x (xor e c) → Sign (negate_if c x) e
descrambled zero zero x p q s = s
descrambled (suc zero) zero x p q s = s
descrambled zero (suc zero) x p q s = negative s refl
  where
    negative : {x : ℤ} {b : ℕ} → Sign x b → b ≡ 1 → Sign (neg_ℤ x) 0
    negative (Sign.plus) w = absurd (suc-ne-zero 0 (sym w))
    negative (Sign.minus) w = Sign.plus
descrambled (suc zero) (suc zero) x p q s = positive s refl
  where
    positive : {x : ℤ} {b : ℕ} → Sign x b → b ≡ 0 → Sign (neg_ℤ x) 1
    positive (Sign.plus) w = Sign.minus
    positive (Sign.minus) w = absurd (suc-ne-zero 0 w)
descrambled (suc (suc e)) c x p q s = absurd (not-suc-le-zero (le_of_suc-le-suc p))
descrambled zero (suc (suc c)) x p q s = absurd (not-suc-le-zero (le_of_suc-le-suc q))
descrambled (suc zero) (suc (suc c)) x p q s = absurd (not-suc-le-zero (le_of_suc-le-suc q))
