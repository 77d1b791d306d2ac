-- The loop that places bits one after the other.
-- Assumes nothing.
use Prim.Native.Nat.{ℕ, suc, ◌+◌, ◌<◌}
use native.Mathlib.Nat.{suc_inj, suc-ne-zero}
use native.Mathlib.Numerals.{add-one}
use native.Mathlib.Omega.{arith}
use mathlib.Core.Path.{◌≡◌, refl, sym, subst, ap, ap₂, ◌∙◌}
use mathlib.Core.Bool.{Bool, true, false, not, cond, ◌||◌}
use mathlib.Core.List.{List, [], ◌∷◌, ◌++◌}
use lib.Dec.{T, eqb, not_T}
use lib.ListN.{length, get_or, set, take, replicate, length-set, length-replicate, get_or-replicate}
use lib.Seq.{ext_get_or, take-suc, length-take-le, get_or-set_same, get_or-set_other, get_or-take}
use borrow.Author.Tests.{eqb-true, eqb-false}
use Rattle.nr.specs.Rows.{has, place, ascending}
use Rattle.nr.specs.Coding.{placed}
use Rattle.nr.proofs.Tests.{isn't}
use Rattle.nr.proofs.Rows.{place-has, apart, ascending-distinct}
use Rattle.nr.proofs.RoundTrip.{length-placed, placed_at, placed_off}

-- the bit of a position, once a position and its bit stand at the end
look : (q p b : ℕ) (ps bs : List ℕ) → length bs ≡ length ps
    → get_or (bs ++ b ∷ []) (place q (ps ++ p ∷ [])) 0 ≡ cond (has q ps) (get_or bs (place q ps) 0) (cond (eqb q p) b 0)
look q p b [] [] e = go (eqb q p)
  where
    go : (c : Bool) → get_or (b ∷ []) (cond c 0 1) 0 ≡ cond c b 0
    go true = refl
    go false = refl
look q p b [] (z ∷ bs) e = absurd (suc-ne-zero (length bs) e)
look q p b (y ∷ ps) [] e = absurd (suc-ne-zero (length ps) (sym e))
look q p b (y ∷ ps) (z ∷ bs) e = go (eqb q y) (look q p b ps bs (suc_inj e))
  where
    go : (c : Bool) → get_or (bs ++ b ∷ []) (place q (ps ++ p ∷ [])) 0 ≡ cond (has q ps) (get_or bs (place q ps) 0) (cond (eqb q p) b 0)
        → get_or (z ∷ (bs ++ b ∷ [])) (cond c 0 (suc (place q (ps ++ p ∷ [])))) 0
        ≡ cond (c || has q ps) (get_or (z ∷ bs) (cond c 0 (suc (place q ps))) 0) (cond (eqb q p) b 0)
    go true r = refl
    go false r = r

module _ (N : ℕ) where
  -- none
  pub placed-none : replicate N 0 ≡ placed N [] []
  placed-none =
      ext_get_or 0 (replicate N 0) (placed N [] []) (length-replicate N 0 ∙ sym (length-placed N [] []))
      (λ i l. let h : i < N = omega (arith, length-replicate {A = ℕ} N 0) in get_or-replicate N i 0 0 h ∙ sym (placed_off N [] [] refl i h tt))

  -- one more
  module _ (ps bs : List ℕ) (p b : ℕ) (size : length bs ≡ length ps) (new : T (not (has p ps))) (l : p < N) where
    pub placed-more : set (placed N ps bs) p b ≡ placed N (ps ++ p ∷ []) (bs ++ b ∷ [])
    placed-more =
        ext_get_or 0 (set (placed N ps bs) p b) (placed N (ps ++ p ∷ []) (bs ++ b ∷ []))
        (length-set (placed N ps bs) p b ∙ length-placed N ps bs ∙ sym (length-placed N (ps ++ p ∷ []) (bs ++ b ∷ [])))
        (λ q h. let m : q < N = omega (arith, length-set (placed N ps bs) p b, length-placed N ps bs) in go q m (eqb q p) refl)
      where
        after : (q : ℕ) → q < N → get_or (placed N (ps ++ p ∷ []) (bs ++ b ∷ [])) q 0 ≡ cond (has q ps) (get_or bs (place q ps) 0) (cond (eqb q p) b 0)
        after q m = placed_at N (ps ++ p ∷ []) (bs ++ b ∷ []) q m ∙ look q p b ps bs size

        same : (q : ℕ) → q < N → (c : Bool) → has q ps ≡ c → get_or (placed N ps bs) q 0 ≡ cond c (get_or bs (place q ps) 0) 0
        same q m true e = placed_at N ps bs q m
        same q m false e = placed_off N ps bs size q m (subst (λ (c : Bool). T (not c)) (sym e) tt)

        go : (q : ℕ) → q < N → (c : Bool) → eqb q p ≡ c → get_or (set (placed N ps bs) p b) q 0 ≡ get_or (placed N (ps ++ p ∷ []) (bs ++ b ∷ [])) q 0
        go q m true e =
            ap (λ (j : ℕ). get_or (set (placed N ps bs) p b) j 0) (eqb-true q p e)
            ∙ get_or-set_same (placed N ps bs) p b 0 (omega (arith, length-placed N ps bs))
            ∙ sym (after q m ∙ ap₂ (λ (c d : Bool). cond c (get_or bs (place q ps) 0) (cond d b 0)) (ap (λ (j : ℕ). has j ps) (eqb-true q p e) ∙ isn't (has p ps) new) e)
        go q m false e =
            get_or-set_other (placed N ps bs) p q b 0 (eqb-false q p e)
            ∙ same q m (has q ps) refl
            ∙ sym (after q m ∙ ap (λ (d : Bool). cond (has q ps) (get_or bs (place q ps) 0) (cond d b 0)) e)

-- ---- after i turns

module _ (N : ℕ) (positions bits : List ℕ) (size : length bits ≡ length positions) (rising : T (ascending positions)) (i : ℕ) (l : i < length bits) where
  -- the position of a turn was not among those before it
  fresh : T (not (has (get_or positions i 0) (take i positions)))
  fresh = not_T (has x (take i positions)) (λ h.
      let s = place-has x (take i positions) h in
      let m : place x (take i positions) < i = omega (arith, length-take-le i positions (omega arith)) in
      apart positions (place x (take i positions)) i (ascending-distinct positions rising) m (omega arith) (sym (get_or-take i positions (place x (take i positions)) 0 m) ∙ s.1))
    where
      x : ℕ
      x = get_or positions i 0

  pub placed-next : get_or positions i 0 < N → set (placed N (take i positions) (take i bits)) (get_or positions i 0) (get_or bits i 0) ≡ placed N (take (i + 1) positions) (take (i + 1) bits)
  placed-next h =
      placed-more N (take i positions) (take i bits) (get_or positions i 0) (get_or bits i 0)
      (length-take-le i bits (omega arith) ∙ sym (length-take-le i positions (omega arith))) fresh h
      ∙ ap₂ (placed N) (sym (take-suc positions i 0 (omega arith))) (sym (take-suc bits i 0 l))
      ∙ ap (λ (j : ℕ). placed N (take j positions) (take j bits)) (sym (add-one i))
