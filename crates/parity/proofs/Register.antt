-- The parity register, step by step, is long division; as a number it is what shifts, masks and exclusive or make.
-- Assumes nothing.
use Prim.Native.Nat.{ℕ, zero, suc, ◌+◌, ◌-◌, ◌*◌, ◌/◌, ◌%◌, ◌^◌, ◌≤◌, ◌<◌}
use native.Mathlib.Nat.{suc_inj, suc-ne-zero, not-suc-le-zero, le_of_suc-le-suc, mod-eq_of_lt, pow-suc}
use native.Mathlib.Omega.{arith}
use mathlib.Core.Path.{◌≡◌, refl, sym, subst, ap, ap₂, ◌∙◌}
use mathlib.Core.List.{List, [], ◌∷◌, ◌++◌, zip_with, append-nil, append_assoc}
use lib.Bits.{bit_and, bit_xor, and_le_r, and_mask, mask_lt, xor_zero_r, xor_lt}
use lib.Dec.{eqb}
use lib.ListN.{length, get_or, take, drop, replicate, take-append-drop, length-append, length-drop, length-replicate, replicate-append-replicate}
use native.Mathlib.Numerals.{add-one}
use lib.Pow.{pow_mono}
use lib.Seq.{append_snoc, take-suc, take_all, take_at, drop_at, length-take-le}
use Rattle.nr.specs.Rows.{same, bit, msb_first, xor, xors, Bits}
use Rattle.nr.specs.Parity.{add_times, divide, generator, parity, mask_rnti, parity_matches}
use Rattle.nr.proofs.Zip.{cons, bits-append, bits-take, bits-replicate, bits-msb_first, length-msb_first, xors-comm, xors-zeros, xors-append}
use Rattle.nr.proofs.Words.{and_one, msb_first-xor, msb_first-mod, msb_first-more, msb_first-double, msb_first-longer, same-msb_first, xor_low}
use Rattle.nr.proofs.Parity.{low, length-add_times, bits-add_times, add_times-none, add_times-xors, ones_before, parity-is}
use Rattle.parity.specs.Register.{taken, Holds}

-- ---- the register is long division

-- after the bits of a row
pub taken_all : List ℕ → List ℕ → List ℕ
taken_all register [] = register
taken_all register (b ∷ bits) = taken_all (taken register b) bits

-- what is added to the front of a row that is longer than the coefficients
add_times-front : (c : ℕ) (gs a b : List ℕ) → length a ≡ length gs → add_times c gs (a ++ b) ≡ add_times c gs a ++ b
add_times-front c [] [] b e = refl
add_times-front c [] (x ∷ a) b e = absurd (suc-ne-zero (length a) e)
add_times-front c (g ∷ gs) [] b e = absurd (suc-ne-zero (length gs) (sym e))
add_times-front c (g ∷ gs) (x ∷ a) b e = cons refl (add_times-front c gs a b (suc_inj e))

add_times-once : (gs row : List ℕ) → length row ≡ length gs → add_times 1 gs row ≡ xors row gs
unfolding xors zip_with
add_times-once [] [] e = refl
add_times-once [] (x ∷ row) e = absurd (suc-ne-zero (length row) e)
add_times-once (g ∷ gs) [] e = refl
add_times-once (g ∷ gs) (x ∷ row) e = cons (omega arith) (add_times-once gs row (suc_inj e))

length_taken : (x b : ℕ) (rest : List ℕ) → length rest ≡ 23 → length (taken (x ∷ rest) b) ≡ 24
unfolding taken
length_taken x b rest e = length-add_times (xor x b) low (rest ++ 0 ∷ []) ∙ simp length-append (omega arith)

bits-taken : (x b : ℕ) (rest : List ℕ) → Bits rest → Bits (taken (x ∷ rest) b)
unfolding taken
bits-taken x b rest p = bits-add_times (xor x b) low (rest ++ 0 ∷ []) (bits-append rest (0 ∷ []) p (bits-replicate 1 0 (omega arith)))

-- one step of the division of such a row
one : (x b : ℕ) (rest bits : List ℕ) → length rest ≡ 23
    → add_times (xor x b) low (xors (rest ++ replicate (suc (length bits)) 0) (bits ++ replicate 24 0))
    ≡ xors (taken (x ∷ rest) b ++ replicate (length bits) 0) (bits ++ replicate 24 0)
unfolding taken
one x b rest bits e =
    let more : List ℕ = bits ++ replicate 24 0 in
    add_times-xors (xor x b) low (rest ++ replicate (suc (length bits)) 0) more (simp (length-append, length-replicate) (omega arith))
    ∙ ap (λ (r : List ℕ). xors (add_times (xor x b) low r) more) (sym (append_snoc rest 0 (replicate (length bits) 0)))
    ∙ ap (λ (r : List ℕ). xors r more) (add_times-front (xor x b) low (rest ++ 0 ∷ []) (replicate (length bits) 0) (simp length-append (omega arith)))

-- the register added to the front of what is left of the row
long-division : (register bits : List ℕ) → length register ≡ 24 → Bits register → Bits bits
    → divide (length bits) (xors (register ++ replicate (length bits) 0) (bits ++ replicate 24 0)) ≡ taken_all register bits
unfolding divide generator taken_all xors zip_with
long-division register [] e p q =
    ap (λ (r : List ℕ). xors r (replicate 24 0)) (append-nil register) ∙ xors-zeros 24 register e p
long-division [] (b ∷ bits) e p q = let z : ⊥ = omega arith in absurd z
long-division (x ∷ rest) (b ∷ bits) e p q =
    ap (divide (length bits)) (one x b rest bits (suc_inj e))
    ∙ long-division (taken (x ∷ rest) b) bits (length_taken x b rest (suc_inj e)) (bits-taken x b rest (λ k. p (suc k))) (λ k. q (suc k))

taken_all-append : (register a b : List ℕ) → taken_all register (a ++ b) ≡ taken_all (taken_all register a) b
unfolding taken_all
taken_all-append register [] b = refl
taken_all-append register (x ∷ a) b = taken_all-append (taken register x) a b

-- the register's start: what the 24 ones in front leave
pub started : List ℕ
started = msb_first 24 0x32E241

started-is : taken_all (replicate 24 0) (replicate 24 1) ≡ started
unfolding taken taken_all started
started-is = refl

pub parity-taken : (payload : List ℕ) → Bits payload → taken_all started payload ≡ parity payload
parity-taken payload b =
    ap (λ (r : List ℕ). taken_all r payload) (sym started-is)
    ∙ sym (taken_all-append (replicate 24 0) (replicate 24 1) payload)
    ∙ sym (long-division (replicate 24 0) ones refl (bits-replicate 24 0 (omega arith)) bits)
    ∙ ap (divide (length ones)) (xors-comm (replicate 24 0 ++ replicate (length ones) 0) (ones ++ replicate 24 0)
    ∙ ap (xors (ones ++ replicate 24 0)) (replicate-append-replicate 24 (length ones) 0)
    ∙ xors-zeros (24 + length ones) (ones ++ replicate 24 0) (simp (length-append, length-replicate) (omega arith))
    (bits-append ones (replicate 24 0) bits (bits-replicate 24 0 (omega arith))))
    ∙ ap (λ (k : ℕ). divide k (ones ++ replicate 24 0)) (length-append (replicate 24 1) payload)
    ∙ parity-is payload
  where
    ones : List ℕ
    ones = ones_before payload

    bits : Bits ones
    bits = bits-append (replicate 24 1) payload (bits-replicate 24 1 (omega arith)) b

-- one bit more
pub taken_all-more : (register payload : List ℕ) (i : ℕ) → i < length payload
    → taken_all register (take (i + 1) payload) ≡ taken (taken_all register (take i payload)) (get_or payload i 0)
unfolding taken_all
taken_all-more register payload i h =
    ap (λ (j : ℕ). taken_all register (take j payload)) (add-one i)
    ∙ ap (taken_all register) (take-suc payload i 0 h) ∙ taken_all-append register (take i payload) (get_or payload i 0 ∷ [])

-- ---- the register as a number

module _ (r b : ℕ) (small : r < 2 ^ 24) (is_bit : b ≤ 1) where
  -- the coefficient that leaves on top
  lead : bit_and (bit_xor (r / 2 ^ 23) b) 1 ≡ xor (bit 23 r) b
  lead =
      and_one (bit_xor (r / 2 ^ 23) b) ∙ xor_low (r / 2 ^ 23) b
      ∙ ap (xor (bit 23 r)) (mod-eq_of_lt (omega arith))

  shifted : bit_and (r * 2 % 2 ^ 32) 0xFFFFFF ≡ r * 2 % 2 ^ 24
  shifted =
      let fits : r * 2 % 2 ^ 32 ≡ r * 2 = omega arith in
      ap (λ (x : ℕ). bit_and x 0xFFFFFF) fits ∙ and_mask (r * 2) 24

  up : msb_first 24 (r * 2 % 2 ^ 24) ≡ msb_first 23 r ++ 0 ∷ []
  up = msb_first-mod 24 24 (r * 2) (omega arith) ∙ msb_first-double 23 r

  -- the generator, as often as the coefficient says
  pub added : (c : ℕ) → c ≤ 1 → msb_first 24 (bit_xor (r * 2 % 2 ^ 24) (c * 0xB2B117)) ≡ add_times c low (msb_first 23 r ++ 0 ∷ [])
  added zero h = ap (msb_first 24) (xor_zero_r (r * 2 % 2 ^ 24)) ∙ up ∙ sym (add_times-none low (msb_first 23 r ++ 0 ∷ []) (bits-append (msb_first 23 r) (0 ∷ []) (bits-msb_first 23 r) (bits-replicate 1 0 (omega arith))))
  added (suc zero) h = msb_first-xor 24 (r * 2 % 2 ^ 24) 0xB2B117 ∙ ap (λ (row : List ℕ). xors row low) up ∙ sym (add_times-once low (msb_first 23 r ++ 0 ∷ []) (simp (length-append, length-msb_first)))
  added (suc (suc c)) h = absurd (not-suc-le-zero (le_of_suc-le-suc h))

  -- what stands in the register then
  abbrev pub next : ℕ
  next = bit_xor (bit_and (r * 2 % 2 ^ 32) 0xFFFFFF) (bit_and (bit_xor (r / 2 ^ 23) b) 1 * 0xB2B117)

  pub next-lt : next < 2 ^ 24
  next-lt =
      xor_lt 24 (bit_and (r * 2 % 2 ^ 32) 0xFFFFFF) (bit_and (bit_xor (r / 2 ^ 23) b) 1 * 0xB2B117) (mask_lt (r * 2 % 2 ^ 32) 24)
      (omega (arith, and_le_r (bit_xor (r / 2 ^ 23) b) 1))

  pub fed : msb_first 24 next ≡ taken (msb_first 24 r) b
  unfolding taken
  fed =
      ap₂ (λ (x c : ℕ). msb_first 24 (bit_xor x (c * 0xB2B117))) shifted lead
      ∙ added (xor (bit 23 r) b) (omega arith)

-- ---- the register, before the payload, after each bit, and after all

pub holds-started : Holds (taken_all started []) 0x32E241
unfolding taken_all started
holds-started = record { small = omega arith; bits = refl }

pub holds_more : (i r r' : ℕ) (payload : List ℕ) → i < length payload → Holds (taken_all started (take i payload)) r
    → Holds (taken (msb_first 24 r) (get_or payload i 0)) r' → Holds (taken_all started (take (i + 1) payload)) r'
holds_more i r r' payload l h h' = record {
  small = h'.small;
  bits = h'.bits ∙ ap (λ (row : List ℕ). taken row (get_or payload i 0)) h.bits ∙ sym (taken_all-more started payload i l);
}

pub holds-parity : (i r : ℕ) (payload : List ℕ) → Bits payload → length payload ≤ i → Holds (taken_all started (take i payload)) r → Holds (parity payload) r
holds-parity i r payload b l h = record {
  small = h.small;
  bits = h.bits ∙ ap (taken_all started) (take_all i payload l) ∙ parity-taken payload b;
}

-- ---- a row read into a word

-- its first i bits
pub record Read (row : List ℕ) (i word : ℕ) : Type 0 where
  pub small : word < 2 ^ i
  pub bits : msb_first i word ≡ take i row

pub read_none : (row : List ℕ) → Read row 0 0
read_none row = record { small = omega arith; bits = refl }

module _ {row : List ℕ} {i word : ℕ} (r : Read row i word) (l : i < 24) where
  pub word_small : word < 2 ^ 23
  word_small = omega (arith, r.small, pow_mono {i = i} {j = 23} (omega arith))

  -- one more
  pub read_more : length row ≡ 24 → Bits row → Read row (i + 1) (word * 2 % 2 ^ 32 + get_or row i 0)
  read_more e p =
      let fits : word * 2 % 2 ^ 32 ≡ word * 2 = omega (arith, word_small) in
      rw (fits, add-one i) record {
        small = omega (arith, r.small, p i, pow-suc 2 i);
        bits = msb_first-more i word (get_or row i 0) (p i) ∙ ap (λ (s : List ℕ). s ++ get_or row i 0 ∷ []) r.bits ∙ sym (take-suc row i 0 (omega arith));
      }

pub read_all : {row : List ℕ} {i word : ℕ} → Read row i word → i ≡ 24 → length row ≡ 24 → Holds row word
read_all {row} {i} {word} r e l = record {
  small = subst (λ (k : ℕ). word < 2 ^ k) e r.small;
  bits = ap (λ (k : ℕ). msb_first k word) (sym e) ∙ r.bits ∙ take_all i row (omega arith);
}

-- ---- the RNTI

-- a row whose last 24 bits the word w holds
pub masked : (front back : List ℕ) (w rnti : ℕ) → Bits front → Holds back w → rnti < 2 ^ 16
    → front ++ msb_first 24 (bit_xor w rnti) ≡ mask_rnti rnti (front ++ back)
unfolding mask_rnti
masked front back w rnti b h l = sym (ap (xors (front ++ back)) mask ∙ joined ∙ ap₂ (λ (x y : List ℕ). x ++ y) (xors-zeros (length front) front refl b) ending)
  where
    mask : replicate (length (front ++ back) - 16) 0 ++ msb_first 16 rnti ≡ replicate (length front) 0 ++ msb_first 24 rnti
    mask =
        let e : length (front ++ back) - 16 ≡ length front + 8 = rw length-append (omega (arith, ap length h.bits, length-msb_first 24 w)) in
        ap (λ (k : ℕ). replicate k 0 ++ msb_first 16 rnti) e
        ∙ ap (λ (r : List ℕ). r ++ msb_first 16 rnti) (sym (replicate-append-replicate (length front) 8 0))
        ∙ append_assoc (replicate (length front) 0) (replicate 8 0) (msb_first 16 rnti)
        ∙ ap (λ (r : List ℕ). replicate (length front) 0 ++ r) (sym (msb_first-longer 8 16 rnti l))

    ending : xors back (msb_first 24 rnti) ≡ msb_first 24 (bit_xor w rnti)
    ending = ap (λ (r : List ℕ). xors r (msb_first 24 rnti)) (sym h.bits) ∙ sym (msb_first-xor 24 w rnti)

    joined : xors (front ++ back) (replicate (length front) 0 ++ msb_first 24 rnti)
        ≡ xors front (replicate (length front) 0) ++ xors back (msb_first 24 rnti)
    joined = xors-append front back (replicate (length front) 0) (msb_first 24 rnti) (sym (length-replicate (length front) 0))

-- all that follows the first A bits, as it is lent
pub rest : (A : ℕ) (row : List ℕ) → take (length row - A) (drop A row) ≡ drop A row
rest A row = take_all (length row - A) (drop A row) (omega (arith, length-drop A row))

-- the parity of the first A bits, and the RNTI taken off what follows them
pub matched : (A : ℕ) (row : List ℕ) (p w rnti : ℕ) → A ≤ length row → Bits row → Holds (parity (take A row)) p → Holds (drop A row) w → rnti < 2 ^ 16
    → eqb p (bit_xor w rnti) ≡ parity_matches A (mask_rnti rnti row)
unfolding parity_matches
matched A row p w rnti room bits h h' l =
    sym (same-msb_first 24 p (bit_xor w rnti) h.small (xor_lt 24 w rnti h'.small (omega arith)))
    ∙ ap (λ (r : List ℕ). same r ending) h.bits
    ∙ sym (ap₂ (λ (x y : List ℕ). same (parity x) y) (take_at (take A row) ending A size) (drop_at (take A row) ending A size))
    ∙ ap (parity_matches A) (masked (take A row) (drop A row) w rnti (bits-take A row bits) h' l ∙ ap (mask_rnti rnti) (take-append-drop A row))
  where
    ending : List ℕ
    ending = msb_first 24 (bit_xor w rnti)

    size : length (take A row) ≡ A
    size = length-take-le A row room
