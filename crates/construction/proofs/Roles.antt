-- What each position is for: the window and the marks say what the definition says.
-- Assumes nothing.
use Prim.Native.Nat.{ℕ, ◌^◌, ◌<◌}
use native.Mathlib.Omega.{arith}
use mathlib.Core.Path.{◌≡◌, refl, sym, ap, ◌∙◌}
use mathlib.Core.Bool.{Bool, true, false, cond, not, ◌&&◌}
use mathlib.Core.List.{List, map}
use lib.Dec.{leb, ltb}
use lib.ListN.{length, get_or}
use lib.Seq.{ext_get_or}
use borrow.Author.Tests.{lt-ltb, leb-false}
use Rattle.nr.specs.declared.RateMatching.{RateMatching}
use Rattle.nr.specs.Numbers.{K}
use Rattle.nr.specs.Rows.{count, has, keep, last}
use Rattle.nr.specs.SuccessiveDecoder.{marks}
use Rattle.nr.specs.Construction.{N, rate_matching, barred, free, chosen}
use Rattle.nr.specs.Describing.{barred_as, roles}
use Rattle.nr.proofs.Tests.{alike, has-count}
use Rattle.nr.proofs.Rows.{kept, keeps, length-table, get_or-table}
use Rattle.nr.proofs.Describing.{length-roles, roles-at, role}
use Rattle.nr.proofs.RoundTrip.{length-marks, marks-at}
use Rattle.construction.specs.declared.Shape.{Shape}
use Rattle.admission.specs.Window.{admits}
use Rattle.construction.specs.Shapes.{role_of}
use Rattle.construction.proofs.Layouts.{exponent-is, window-is, best, best-are}

-- ---- the definition's roles

-- what is kept of a range
has_kept : (f : ℕ → Bool) (k p : ℕ) → p < k → f p ≡ has p (keep f (count 0 k))
has_kept f k p h = alike _ _ (λ t. keeps f (count 0 k) p (has-count 0 k p (omega arith) (omega arith)) t) (λ t. (kept f (count 0 k) p t).1)

module _ (shape : Shape) where
  abbrev A : ℕ
  A = shape.sizes.a

  abbrev E : ℕ
  E = shape.sizes.e

  abbrev kind : RateMatching
  kind = rate_matching (K A) E

  abbrev bars : List ℕ
  bars = barred kind (N (K A) E) E

  abbrev information : List ℕ
  information = chosen kind (N (K A) E) (K A) E

  abbrev row : List ℕ
  row = marks (2 ^ shape.length.n) (best shape)

  -- N
  size : length row ≡ N (K A) E
  size = length-marks (2 ^ shape.length.n) _ ∙ ap (λ (m : ℕ). 2 ^ m) (exponent-is shape)

  -- below N, the mark of a position is 1 exactly if it is chosen
  marked : (p : ℕ) → p < N (K A) E → get_or row p 0 ≡ cond (has p information) 1 0
  unfolding chosen
  marked p h =
      marks-at (2 ^ shape.length.n) _ p (rw (exponent-is shape) h)
      ∙ ap (λ (r : List ℕ). cond (has p r) 1 0) (best-are shape)
      ∙ ap (λ (b : Bool). cond b 1 0) (has_kept (λ q. has q (last (K A) (free kind (N (K A) E) E))) (N (K A) E) p h)

  one : (p : ℕ) → role_of shape.length.n shape.window (barred_as kind) row p ≡ role (K A) E p
  one p =
      ap (λ (m : ℕ). cond (leb m p) 4 (cond (admits shape.length.n shape.window p) (get_or row p 0) (barred_as kind))) size
      ∙ go (leb (N (K A) E) p) refl
    where
      usable : ltb p (N (K A) E) ≡ true → admits shape.length.n shape.window p ≡ not (has p bars)
      usable e = window-is shape p ∙ ap (λ (b : Bool). b && not (has p bars)) e

      flip : (b : Bool) (x y : ℕ) → cond (not b) x y ≡ cond b y x
      flip true x y = refl
      flip false x y = refl

      go : (b : Bool) → leb (N (K A) E) p ≡ b
          → cond b 4 (cond (admits shape.length.n shape.window p) (get_or row p 0) (barred_as kind))
          ≡ cond b 4 (cond (has p bars) (barred_as kind) (cond (has p information) 1 0))
      go true e = refl
      go false e =
          let h : p < N (K A) E = leb-false (N (K A) E) p e in
          ap (λ (b : Bool). cond b (get_or row p 0) (barred_as kind)) (usable (lt-ltb p (N (K A) E) h))
          ∙ flip (has p bars) (get_or row p 0) (barred_as kind)
          ∙ ap (λ (x : ℕ). cond (has p bars) (barred_as kind) x) (marked p h)

  roles-are : map (role_of shape.length.n shape.window (barred_as kind) row) (count 0 512) ≡ roles (K A) E
  roles-are =
      ext_get_or 0 _ (roles (K A) E) (length-table here 0 512 ∙ sym (length-roles (K A) E))
      (λ p h. let m : p < 512 = omega (arith, length-table here 0 512) in get_or-table here 512 p 0 m ∙ one p ∙ sym (roles-at (K A) E p m))
    where
      here : ℕ → ℕ
      here = role_of shape.length.n shape.window (barred_as kind) row

  -- from what the steps of the code give
  pub described : (b : ℕ) → b ≡ barred_as shape.kind → (made : List ℕ) → made ≡ row → (m : ℕ) → m ≡ 512
      → map (role_of shape.length.n shape.window b made) (count 0 m) ≡ roles (K A) E
  described b e made e' m e'' =
      let bar : b ≡ barred_as kind = e ∙ ap barred_as shape.kind_is in
      rw (bar, e', e'') roles-are
