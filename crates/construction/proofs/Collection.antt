-- The loop that collects the marked positions, ascending, into a row of 164 that holds 0 past them.
-- Assumes nothing.
use Prim.Native.Nat.{ℕ, ◌+◌, ◌-◌, ◌≤◌, ◌<◌}
use native.Mathlib.Omega.{arith}
use mathlib.Core.Path.{◌≡◌, refl, sym, ap, ◌∙◌}
use mathlib.Core.Bool.{Bool, true, not}
use mathlib.Core.List.{List}
use lib.Dec.{eqb}
use lib.ListN.{length, get_or, set, drop, replicate, length-append, length-replicate, get_or-append}
use lib.Seq.{drop_at}
use borrow.Author.Tests.{eq-eqb, ne_eqb}
use Rattle.nr.specs.Rows.{count}
use Rattle.nr.proofs.Rows.{length-count, get_or-count}
use Rattle.nr.proofs.Sifting.{passed, passed-all, passed-hit, passed-miss, passed_entry, passed-lt}
use Rattle.rows.proofs.Parts.{drop-replicate}
use Rattle.rows.proofs.Filling.{Filling, filling, filling-more, filled-early}
use Rattle.construction.specs.Shapes.{marked, padded}

pub length-padded : (row : List ℕ) → length row ≤ 164 → length (padded row) ≡ 164
length-padded row h = length-append row (replicate (164 - length row) 0) ∙ simp length-replicate (omega arith)

-- the rest of a row of zeros is what stands past the end
past_end : (row : List ℕ) → drop (length row) (replicate 164 0) ≡ drop (length row) (padded row)
past_end row = drop-replicate (length row) 164 0 ∙ sym (drop_at row (replicate (164 - length row) 0) (length row) refl)

module _ (row : List ℕ) where
  -- the test, and how many pass before place p
  abbrev test : ℕ → Bool
  test p = not (eqb (get_or row p 0) 0)

  abbrev before : ℕ → ℕ
  before p = passed test (count 0 (length row)) p

  -- the marked positions below p are written, and j counts them
  pub record Collecting (positions : List ℕ) (j p : ℕ) : Type 0 where
    pub counted : j ≡ before p
    pub written : Filling (replicate 164 0) (padded (marked row)) positions j

  module _ (few : length (marked row) ≤ 164) where
    pub collecting : Collecting (replicate 164 0) 0 0
    collecting = record { counted = refl; written = filling _ _ (length-replicate {A = ℕ} 164 0 ∙ sym (length-padded (marked row) few)) }

    module _ (positions : List ℕ) (j p : ℕ) (c : Collecting positions j p) where
      module _ (l : p < length row) where
        inside : p < length (count 0 (length row))
        inside = omega (arith, length-count 0 (length row))

        here : get_or (count 0 (length row)) p 0 ≡ p
        here = get_or-count 0 (length row) p 0 l ∙ omega arith

        pub leave : get_or row p 0 ≡ 0 → Collecting positions j (p + 1)
        leave e = record {
          counted = c.counted ∙ sym (passed-miss test (count 0 (length row)) p inside (ap test here ∙ ap not (eq-eqb (get_or row p 0) 0 e)));
          written = c.written;
        }

        module _ (e : get_or row p 0 ≡ 0 → ⊥) where
          hit : test (get_or (count 0 (length row)) p 0) ≡ true
          hit = ap test here ∙ ap not (ne_eqb (get_or row p 0) 0 e)

          among : j < length (marked row)
          among = omega (arith, c.counted, passed-lt test (count 0 (length row)) p inside hit)

          pub room : j < 164
          room = omega (arith, among)

          pub store : Collecting (set positions j p) (j + 1) (p + 1)
          store = record {
            counted = ap (λ (i : ℕ). i + 1) c.counted ∙ sym (passed-hit test (count 0 (length row)) p inside hit);
            written = filling-more c.written p 0 (omega (arith, room, length-padded (marked row) few)) (sym entry);
          }
            where
              entry : get_or (padded (marked row)) j 0 ≡ p
              entry =
                  get_or-append (marked row) (replicate (164 - length (marked row)) 0) 0 j among
                  ∙ ap (λ (i : ℕ). get_or (marked row) i 0) c.counted
                  ∙ passed_entry test (count 0 (length row)) p inside hit ∙ here

      -- after the last
      pub collected : length row ≤ p → positions ≡ padded (marked row)
      collected h =
          let e : j ≡ length (marked row) = c.counted ∙ passed-all test (count 0 (length row)) p (omega (arith, length-count 0 (length row))) in
          filled-early c.written
          (ap (λ (m : ℕ). drop m (replicate 164 0)) e ∙ past_end (marked row) ∙ ap (λ (m : ℕ). drop m (padded (marked row))) (sym e))
