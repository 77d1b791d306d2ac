-- A block whose second half is added to its first, entry by entry from the front: the loop of `combine`.
-- Assumes nothing.
use Prim.Native.Nat.{ℕ, suc, ◌+◌, ◌-◌, ◌*◌, ◌≤◌, ◌<◌}
use native.Mathlib.Nat.{add-sub_of_le}
use native.Mathlib.Numerals.{add-one}
use native.Mathlib.Omega.{arith}
use mathlib.Core.Path.{◌≡◌, sym, ap, ap₂, ◌∙◌}
use mathlib.Core.List.{List, ◌++◌}
use lib.Bits.{bit_xor}
use lib.ListN.{length, get_or, set, take, drop, length-append, length-drop}
use lib.Seq.{length-take-le, take-suc, drop-cons, append_snoc, set_at, get_or-take, get_or-drop, take_all}
use Rattle.nr.specs.Rows.{xor, xors, Bits}
use Rattle.nr.proofs.Rows.{get_or-behind}
use Rattle.nr.proofs.Words.{xor-bits}
use Rattle.nr.proofs.Zip.{bits-append, bits-drop, bits-xors, get_or-xors, length-xors}
use Rattle.polar.specs.Blocks.{joined}

-- the sums of the two halves
abbrev pub sums : ℕ → List ℕ → List ℕ
sums h u = xors (take h u) (drop h u)

-- a row whose first i entries have become those of s
abbrev pub filled : ℕ → List ℕ → List ℕ → List ℕ
filled i s u = take i s ++ drop i u

-- one entry more
fill-next : (s u : List ℕ) (i : ℕ) → i < length s → i < length u → set (filled i s u) i (get_or s i 0) ≡ filled (i + 1) s u
fill-next s u i ls lu =
    ap (λ (r : List ℕ). set (take i s ++ r) i (get_or s i 0)) (drop-cons u i 0 lu)
    ∙ set_at (take i s) (get_or u i 0) (drop (suc i) u) (get_or s i 0) i (length-take-le i s (omega arith))
    ∙ sym (append_snoc (take i s) (get_or s i 0) (drop (suc i) u))
    ∙ ap (λ (r : List ℕ). r ++ drop (suc i) u) (sym (take-suc s i 0 ls))
    ∙ ap (λ (k : ℕ). filled k s u) (sym (add-one i))

-- joined halves are bits
pub bits-joined : (u : List ℕ) (h : ℕ) → Bits u → Bits (joined h u)
bits-joined u h b = bits-append (sums h u) (drop h u) (bits-xors (take h u) (drop h u)) (bits-drop h u b)

-- and as many as there were
pub length-joined : (h : ℕ) (u : List ℕ) → length u ≡ 2 * h → length (joined h u) ≡ 2 * h
length-joined h u e =
    length-append (sums h u) (drop h u)
    ∙ omega (arith, length-xors h (take h u) (drop h u) (length-take-le h u (omega arith)) (length-drop h u ∙ omega arith), length-drop h u)

module _ (u : List ℕ) (h : ℕ) (e : length u ≡ 2 * h) where
  -- each half, and the row of sums, is h entries long
  length-fst : length (take h u) ≡ h
  length-fst = length-take-le h u (omega arith)

  length-snd : length (drop h u) ≡ h
  length-snd = length-drop h u ∙ omega arith

  length-sums : length (sums h u) ≡ h
  length-sums = length-xors h (take h u) (drop h u) length-fst length-snd

  -- what stands there when each entry of the first half is summed
  pub all-filled : filled h (sums h u) u ≡ joined h u
  all-filled = ap (λ (r : List ℕ). r ++ drop h u) (take_all h (sums h u) (omega (arith, length-sums)))

  module _ (b : Bits u) (x : List ℕ) (i : ℕ) (q : x ≡ filled i (sums h u) u) (l : i < h) where
    -- what is not passed yet is as it was
    kept : (k : ℕ) → i ≤ k → get_or x k 0 ≡ get_or u k 0
    kept k m =
        ap (λ (y : List ℕ). get_or y k 0) q
        ∙ get_or-behind (take i (sums h u)) (drop i u) i k 0 (length-take-le i (sums h u) (omega (arith, length-sums))) m
        ∙ get_or-drop i u (k - i) 0
        ∙ ap (λ (j : ℕ). get_or u j 0) (add-sub_of_le m)

    -- a sum by its place in the block
    sum-at : get_or (sums h u) i 0 ≡ xor (get_or u i 0) (get_or u (h + i) 0)
    sum-at =
        get_or-xors (take h u) (drop h u) i (omega (arith, length-fst)) (omega (arith, length-snd))
        ∙ ap₂ xor (get_or-take h u i 0 l) (get_or-drop h u i 0)

    -- a turn of the loop
    pub sum-next : set x i (bit_xor (get_or x i 0) (get_or x (h + i) 0)) ≡ filled (i + 1) (sums h u) u
    sum-next =
        ap₂ (λ (y : List ℕ) (v : ℕ). set y i v) q
        (ap₂ bit_xor (kept i (omega arith)) (kept (h + i) (omega arith))
        ∙ xor-bits (get_or u i 0) (get_or u (h + i) 0) (b i) (b (h + i))
        ∙ sym sum-at)
        ∙ fill-next (sums h u) u i (omega (arith, length-sums)) (omega arith)
