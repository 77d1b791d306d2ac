-- The rows of all levels in one array: a loop that makes the row of h values from the row of 2h, which stays.
-- Assumes nothing.
use Prim.Native.Nat.{ℕ, ◌+◌, ◌-◌, ◌*◌, ◌≤◌, ◌<◌, ◌^◌}
use native.Mathlib.Omega.{arith}
use Rattle.std.specs.Prelude.{◌≢◌}
use mathlib.Core.Path.{◌≡◌, sym, ap, ◌∙◌}
use mathlib.Core.List.{List}
use lib.IntN.{ℤ, pos}
use borrow.Author.Count.{below_more}
use lib.ListN.{length, get_or, set, take, drop, length-set, length-drop}
use Rattle.std.proofs.lemmas.List.{get_or-set_same, get_or-set_other, drop-set-lt}
use lib.Seq.{ext_get_or, length-take-le, get_or-take, get_or-drop}
use mir.Syntax.{w32}
use mir.Val.{SFits, to_z, of_z}
use mir.ValLaws.{to_z-of_z}
use Rattle.nr.specs.SuccessiveDecoder.{f, g, fs, gs}
use Rattle.nr.specs.Rows.{Within}
use Rattle.nr.proofs.SuccessiveDecoder.{length-fs, get_or-fs, length-gs, get_or-gs}
use Rattle.nodes.specs.Small.{Small}
use Rattle.nodes.proofs.Nodes.{passed₂, small-fits}
use Rattle.successive_decoder.specs.Levels.{row_of}

module _ (w : List ℤ) (h : ℕ) (fits : 4 * h ≤ length w) where
  -- the row of 2h values and its halves, by their places in the array
  length-row : length (row_of (2 * h) w) ≡ 2 * h
  length-row = length-take-le (2 * h) (drop (2 * h) w) (omega (arith, length-drop (2 * h) w))

  pub length-fst : length (take h (row_of (2 * h) w)) ≡ h
  length-fst = length-take-le h (row_of (2 * h) w) (omega (arith, length-row))

  pub length-snd : length (drop h (row_of (2 * h) w)) ≡ h
  length-snd = length-drop h (row_of (2 * h) w) ∙ omega (arith, length-row)

  pub fst-at : (i : ℕ) → i < h → get_or (take h (row_of (2 * h) w)) i (pos 0) ≡ get_or w (2 * h + i) (pos 0)
  fst-at i l =
      get_or-take h (row_of (2 * h) w) i (pos 0) l ∙ get_or-take (2 * h) (drop (2 * h) w) i (pos 0) (omega arith) ∙ get_or-drop (2 * h) w i (pos 0)

  pub snd-at : (i : ℕ) → i < h → get_or (drop h (row_of (2 * h) w)) i (pos 0) ≡ get_or w (3 * h + i) (pos 0)
  snd-at i l =
      let e : 2 * h + (h + i) ≡ 3 * h + i = omega arith in
      get_or-drop h (row_of (2 * h) w) i (pos 0) ∙ get_or-take (2 * h) (drop (2 * h) w) (h + i) (pos 0) (omega arith) ∙ get_or-drop (2 * h) w (h + i) (pos 0)
      ∙ ap (λ (k : ℕ). get_or w k (pos 0)) e

  module _ (small : Within (2 ^ 28) (row_of (2 * h) w)) where
    pub fst-small : (i : ℕ) → i < h → Small (get_or w (2 * h + i) (pos 0))
    fst-small i l = rw (← fst-at i l, get_or-take h (row_of (2 * h) w) i (pos 0) l) (small i)

    pub snd-small : (i : ℕ) → i < h → Small (get_or w (3 * h + i) (pos 0))
    snd-small i l = rw (← snd-at i l, get_or-drop h (row_of (2 * h) w) i (pos 0)) (small (h + i))

-- ---- two values as a call is passed them, by their bits

module _ (P : ℤ → ℤ → Type 0) (x y x' y' : ℤ) (s : SFits w32 x') (t : SFits w32 y') (e : x' ≡ x) (q : y' ≡ y) where
  pub handed : P x y → P (to_z w32 (of_z w32 x')) (to_z w32 (of_z w32 y'))
  handed p = rw (to_z-of_z w32 x' s, to_z-of_z w32 y' t, e, q) p

  pub taken : P (to_z w32 (of_z w32 x')) (to_z w32 (of_z w32 y')) → P x y
  taken p = rw (← e, ← q) (passed₂ P x' y' s t p)

-- ---- the row of h values that stands in an array y, by f and by g of the row of 2h values in w

module _ (w y : List ℤ) (h : ℕ) (fits : 4 * h ≤ length w) (kept : drop (2 * h) y ≡ drop (2 * h) w) (small : Within (2 ^ 28) (row_of (2 * h) w)) where
  abbrev a : List ℤ
  a = take h (row_of (2 * h) w)

  abbrev b : List ℤ
  b = drop h (row_of (2 * h) w)

  length-new : length (row_of h y) ≡ h
  length-new = length-take-le h (drop h y) (omega (arith, length-drop h y, ap length kept, length-drop (2 * h) y, length-drop (2 * h) w))

  new-at : (i : ℕ) → i < h → get_or (row_of h y) i (pos 0) ≡ get_or y (h + i) (pos 0)
  new-at i l = get_or-take h (drop h y) i (pos 0) l ∙ get_or-drop h y i (pos 0)

  -- what a call says of the values that it is passed
  said : (P : ℤ → ℤ → Type 0) (i : ℕ) → i < h → P (to_z w32 (of_z w32 (get_or w (2 * h + i) (pos 0)))) (to_z w32 (of_z w32 (get_or w (3 * h + i) (pos 0))))
      → P (get_or a i (pos 0)) (get_or b i (pos 0))
  said P i l =
      taken P _ _ (get_or w (2 * h + i) (pos 0)) (get_or w (3 * h + i) (pos 0)) (small-fits _ (fst-small w h fits small i l)) (small-fits _ (snd-small w h fits small i l))
      (sym (fst-at w h fits i l)) (sym (snd-at w h fits i l))

  pub row-f : ((i : ℕ) → i < h → get_or y (h + i) (pos 0) ≡ f (to_z w32 (of_z w32 (get_or w (2 * h + i) (pos 0)))) (to_z w32 (of_z w32 (get_or w (3 * h + i) (pos 0)))))
      → row_of h y ≡ fs a b
  row-f each =
      ext_get_or (pos 0) (row_of h y) (fs a b) (length-new ∙ sym (length-fs h a b (length-fst w h fits) (length-snd w h fits)))
      (λ i m.
      let l : i < h = omega (arith, length-new) in
      new-at i l ∙ said (λ (p q : ℤ). get_or y (h + i) (pos 0) ≡ f p q) i l (each i l)
      ∙ sym (get_or-fs a b i (omega (arith, length-fst w h fits)) (omega (arith, length-snd w h fits))))

  pub row-g : (v : List ℕ) → h ≤ length v
      → ((i : ℕ) → i < h → get_or y (h + i) (pos 0) ≡ g (get_or v i 0) (to_z w32 (of_z w32 (get_or w (2 * h + i) (pos 0)))) (to_z w32 (of_z w32 (get_or w (3 * h + i) (pos 0)))))
      → row_of h y ≡ gs (take h v) a b
  row-g v lv each =
      ext_get_or (pos 0) (row_of h y) (gs (take h v) a b)
      (length-new ∙ sym (length-gs h (take h v) a b (length-take-le h v lv) (length-fst w h fits) (length-snd w h fits)))
      (λ i m.
      let l : i < h = omega (arith, length-new) in
      new-at i l ∙ said (λ (p q : ℤ). get_or y (h + i) (pos 0) ≡ g (get_or v i 0) p q) i l (each i l)
      ∙ ap (λ (u : ℕ). g u (get_or a i (pos 0)) (get_or b i (pos 0))) (sym (get_or-take h v i 0 l))
      ∙ sym (get_or-gs (take h v) a b i (omega (arith, length-take-le h v lv)) (omega (arith, length-fst w h fits)) (omega (arith, length-snd w h fits))))

-- ---- the row of h values is being made, each by P of the two values above it

-- the first i of them stand in the array, and what stood behind the row stays
pub record Making (P : ℕ → ℤ → ℤ → ℤ → Type 0) (h : ℕ) (old work : List ℤ) (i : ℕ) : Type 0 where
  pub size : length work ≡ length old
  pub made : (k : ℕ) → k < i → P k (get_or old (2 * h + k) (pos 0)) (get_or old (3 * h + k) (pos 0)) (get_or work (h + k) (pos 0))
  pub kept : drop (2 * h) work ≡ drop (2 * h) old

module _ {P : ℕ → ℤ → ℤ → ℤ → Type 0} {h : ℕ} {old work : List ℤ} {i : ℕ} (m : Making P h old work i) where
  -- the row of 2h values is read where it stood
  pub kept_at : (k : ℕ) → 2 * h ≤ k → get_or work k (pos 0) ≡ get_or old k (pos 0)
  kept_at k l =
      let e : k ≡ 2 * h + (k - 2 * h) = omega arith in
      ap (λ (j : ℕ). get_or work j (pos 0)) e ∙ sym (get_or-drop (2 * h) work (k - 2 * h) (pos 0))
      ∙ ap (λ (y : List ℤ). get_or y (k - 2 * h) (pos 0)) m.kept
      ∙ get_or-drop (2 * h) old (k - 2 * h) (pos 0) ∙ ap (λ (j : ℕ). get_or old j (pos 0)) (sym e)

  -- a turn stores the next value
  pub making-more : 2 * h ≤ length old → i < h → (r : ℤ) → SFits w32 r → P i (get_or old (2 * h + i) (pos 0)) (get_or old (3 * h + i) (pos 0)) r
      → Making P h old (set work (h + i) (to_z w32 (of_z w32 r))) (i + 1)
  making-more fits l r s p = record {
    size = simp length-set m.size;
    made =
        below_more _ i
        (λ k b. let ne : h + k ≢ h + i = omega arith in rw get_or-set_other (m.made k b))
        (rw (get_or-set_same work (h + i) (to_z w32 (of_z w32 r)) (pos 0) (omega (arith, m.size)), to_z-of_z w32 r s) p);
    kept = drop-set-lt (2 * h) work (h + i) (to_z w32 (of_z w32 r)) (omega arith) ∙ m.kept;
  }
