-- What the marked positions come to: document 01's information positions.
-- Assumes nothing.
use Prim.Native.Nat.{ℕ, ◌^◌, ◌≤◌, ◌<◌}
use native.Mathlib.Omega.{arith}
use mathlib.Core.Path.{◌≡◌, refl, sym, subst, ap, ◌∙◌}
use mathlib.Core.Bool.{Bool, true, false, not, cond}
use mathlib.Core.List.{List}
use lib.Dec.{eqb}
use lib.ListN.{length, get_or, take}
use lib.Seq.{ext_get_or, get_or-take, length-take-le, take_at}
use lib.Pow.{pow_mono}
use Rattle.nr.specs.declared.RateMatching.{RateMatching}
use Rattle.nr.specs.Rows.{count, has, keep, last}
use Rattle.nr.specs.Numbers.{K}
use Rattle.nr.specs.Reliability.{reliability}
use Rattle.nr.specs.SuccessiveDecoder.{marks}
use Rattle.nr.specs.Construction.{N, n, rate_matching, free, chosen, layout}
use Rattle.nr.proofs.Rows.{keep-cong, ranged}
use Rattle.nr.proofs.Construction.{Sized, accepted, n-by-length, enough, positions, Positions as Placed}
use Rattle.nr.specs.Codes.{Positions}
use Rattle.construction.specs.declared.Shape.{Shape}
use Rattle.admission.specs.Window.{usable, admits}
use Rattle.construction.specs.Shapes.{marked, padded}
use Rattle.nr.proofs.RoundTrip.{length-marks, marks-at}

-- what stands in front of a row of marks
marks-front : (N M : ℕ) → N ≤ M → (ps : List ℕ) → take N (marks M ps) ≡ marks N ps
marks-front N M h ps =
    let size : length (take N (marks M ps)) ≡ N = length-take-le N (marks M ps) (omega (arith, length-marks M ps)) in
    ext_get_or 0 (take N (marks M ps)) (marks N ps) (size ∙ sym (length-marks N ps))
    (λ p l. let m : p < N = omega arith in get_or-take N (marks M ps) p 0 m ∙ marks-at M ps p (omega arith) ∙ sym (marks-at N ps p m))

-- the places that are marked
marked-marks : (N : ℕ) (ps : List ℕ) → marked (marks N ps) ≡ keep (λ p. has p ps) (count 0 N)
marked-marks N ps =
    ap (λ (m : ℕ). keep (λ p. not (eqb (get_or (marks N ps) p 0) 0)) (count 0 m)) (length-marks N ps)
    ∙ keep-cong _ _ (count 0 N) (λ p h. ap (λ (x : ℕ). not (eqb x 0)) (marks-at N ps p (let r = ranged 0 N p h in omega arith)) ∙ bool (has p ps))
  where
    bool : (b : Bool) → not (eqb (cond b 1 0) 0) ≡ b
    bool true = refl
    bool false = refl

module _ (shape : Shape) where
  abbrev A : ℕ
  A = shape.sizes.a

  abbrev E : ℕ
  E = shape.sizes.e

  abbrev kind : RateMatching
  kind = rate_matching (K A) E

  abbrev admitted : ℕ → Bool
  admitted = admits shape.length.n shape.window

  -- the k most reliable of the positions that the window admits
  abbrev pub best : List ℕ
  best = last shape.k (keep admitted reliability)

  pub sized : Sized (K A) E
  sized = accepted A E shape.sizes.accepted

  pub room : 2 ^ shape.length.n ≤ 512
  room = pow_mono {i = shape.length.n} {j = 9} shape.length.within.1

  -- the entries below N of a row of marks
  pub lent : (N : ℕ) → N ≡ 2 ^ shape.length.n → (row : List ℕ) → row ≡ marks 512 best → take N row ≡ marks (2 ^ shape.length.n) best
  lent N e row e' = rw (e, e') (marks-front (2 ^ shape.length.n) 512 room best)

  pub exponent-is : shape.length.n ≡ n (K A) E
  exponent-is = shape.n_is ∙ sym (n-by-length (K A) E sized)

  -- the window admits what is not barred
  pub window-is : (p : ℕ) → admitted p ≡ usable kind (N (K A) E) E p
  window-is p =
      shape.window_is p
      ∙ ap (λ (c : RateMatching). usable c (2 ^ shape.length.n) E p) shape.kind_is
      ∙ ap (λ (m : ℕ). usable kind (2 ^ m) E p) exponent-is

  free-are : keep admitted reliability ≡ free kind (N (K A) E) E
  unfolding free
  free-are = keep-cong admitted (usable kind (N (K A) E) E) reliability (λ p h. window-is p)

  pub wanted : shape.k ≤ length (keep admitted reliability)
  wanted = let e = enough (K A) E sized in omega (arith, ap length free-are)

  pub best-are : best ≡ last (K A) (free kind (N (K A) E) E)
  best-are = ap (λ (k : ℕ). last k (keep admitted reliability)) shape.k_is ∙ ap (last (K A)) free-are

  pub positions-are : marked (marks (2 ^ shape.length.n) best) ≡ (layout (K A) E).positions
  unfolding layout chosen
  positions-are =
      marked-marks (2 ^ shape.length.n) best
      ∙ ap (λ (r : List ℕ). keep (λ p. has p r) (count 0 (2 ^ shape.length.n))) best-are
      ∙ ap (λ (m : ℕ). keep (λ p. has p (last (K A) (free kind (N (K A) E) E))) (count 0 (2 ^ m))) exponent-is

  laid : Placed (K A) E
  laid = positions (K A) E sized

  pub many : shape.k ≡ length (layout (K A) E).positions
  many = shape.k_is ∙ sym laid.size

  pub few : length (layout (K A) E).positions ≤ 164
  few = omega (arith, laid.size, sized.high)

  -- what the code finds in the entries below N
  pub found : (N : ℕ) → N ≡ 2 ^ shape.length.n → (row : List ℕ) → row ≡ marks 512 best → marked (take N row) ≡ (layout (K A) E).positions
  found N e row e' = ap marked (lent N e row e') ∙ positions-are

  -- in a row of 164 the first k are the information positions
  module _ (row : List ℕ) (e : row ≡ padded (layout (K A) E).positions) where
    taken : take shape.k row ≡ (layout (K A) E).positions
    taken = ap (take shape.k) e ∙ take_at (layout (K A) E).positions _ shape.k (sym many)

    pub placed : Positions (2 ^ shape.length.n) (take shape.k row)
    placed =
        subst (Positions (2 ^ shape.length.n)) (sym taken) (record {
          few = few;
          rising = laid.rising;
          below = λ p h. subst (λ (m : ℕ). p < 2 ^ m) (sym exponent-is) (laid.below p h);
        })
