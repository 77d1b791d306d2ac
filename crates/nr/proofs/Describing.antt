-- The call that describes a code: 512 numbers, 1 exactly at the information positions, of which there are K; when 0 is given.
-- Assumes nothing.
use Prim.Native.Nat.{ℕ, zero, suc, ◌≤◌, ◌<◌}
use native.Mathlib.Omega.{arith}
use mathlib.Core.Path.{◌≡◌, refl, sym, ap, ◌∙◌}
use mathlib.Core.Logic.{◌↔◌}
use mathlib.Core.Bool.{Bool, true, false, cond, not}
use mathlib.Core.List.{List}
use lib.Dec.{eqb, leb}
use lib.ListN.{length, get_or}
use lib.Pow.{pow_mono}
use borrow.Author.Tests.{leb-true}
use Rattle.nr.specs.declared.RateMatching.{RateMatching}
use Rattle.nr.specs.declared.RateMatching.TheVariants.{Repetition, Puncturing, Shortening}
use Rattle.nr.specs.Rows.{count, has, keep}
use Rattle.nr.specs.Numbers.{K}
use Rattle.nr.specs.Answer.{refusal, outcome}
use Rattle.nr.specs.Construction.{N, rate_matching, barred, chosen, layout, exponent}
use Rattle.nr.specs.Describing.{barred_as, roles, describing}
use Rattle.nr.proofs.Tests.{isn't, holds, clash}
use Rattle.nr.proofs.Rows.{length-table, get_or-table, keep-cong, ranged, members, ascending-distinct}
use Rattle.nr.proofs.Construction.{Sized, n-by-length, positions}
use Rattle.nr.proofs.Refusals.{InTurn, in-turn, in-turn-none, carried, length-is}
use Rattle.nr.proofs.Promise1.{Untouched, untouched, outcome-number}

-- ---- the roles

short : (K E : ℕ) → Sized K E → N K E ≤ 512
short K E s = rw (n-by-length K E s) (pow_mono {i = exponent E} {j = 9} (omega arith))

module _ (K E : ℕ) where
  -- the role of one position
  abbrev pub role : ℕ → ℕ
  role p =
      cond (leb (N K E) p) 4
      (cond (has p (barred (rate_matching K E) (N K E) E)) (barred_as (rate_matching K E))
      (cond (has p (chosen (rate_matching K E) (N K E) K E)) 1 0))

  pub length-roles : length (roles K E) ≡ 512
  unfolding roles
  length-roles = length-table role 0 512

  pub roles-at : (p : ℕ) → p < 512 → get_or (roles K E) p 0 ≡ role p
  unfolding roles
  roles-at p h = get_or-table role 512 p 0 h

  -- 4 exactly from N on
  pub past_end : (p : ℕ) → p < 512 → eqb (get_or (roles K E) p 0) 4 ≡ leb (N K E) p
  unfolding barred_as
  past_end p h =
      ap (λ (x : ℕ). eqb x 4) (roles-at p h)
      ∙ go (leb (N K E) p) (has p (barred (rate_matching K E) (N K E) E)) (rate_matching K E) (has p (chosen (rate_matching K E) (N K E) K E))
    where
      go : (a b : Bool) (kind : RateMatching) (c : Bool) → eqb (cond a 4 (cond b (barred_as kind) (cond c 1 0))) 4 ≡ a
      go true b kind c = refl
      go false true Repetition c = refl
      go false true Puncturing c = refl
      go false true Shortening c = refl
      go false false kind true = refl
      go false false kind false = refl

  -- and below it a barred position has the role of its kind
  pub barred-role : (p : ℕ) → p < 512 → leb (N K E) p ≡ false → has p (barred (rate_matching K E) (N K E) E) ≡ true
      → get_or (roles K E) p 0 ≡ barred_as (rate_matching K E)
  barred-role p h a b = roles-at p h ∙ rw (a, b)

  module _ (s : Sized K E) where
    -- 1 exactly at the information positions
    pub information : (p : ℕ) → p < 512 → eqb (get_or (roles K E) p 0) 1 ≡ has p (layout K E).positions
    unfolding layout barred_as
    information p h =
        ap (λ (x : ℕ). eqb x 1) (roles-at p h)
        ∙ go (leb (N K E) p) refl (has p (barred (rate_matching K E) (N K E) E)) refl (rate_matching K E) (has p (layout K E).positions) refl
      where
        go : (a : Bool) → leb (N K E) p ≡ a → (b : Bool) → has p (barred (rate_matching K E) (N K E) E) ≡ b → (kind : RateMatching)
            → (c : Bool) → has p (layout K E).positions ≡ c → eqb (cond a 4 (cond b (barred_as kind) (cond c 1 0))) 1 ≡ c
        go true e b e' kind true q = let l = (positions K E s).below p (holds q) in let z : ⊥ = omega (arith, leb-true (N K E) p e) in absurd z
        go true e b e' kind false q = refl
        go false e true e' kind true q = clash e' (isn't (has p (barred (rate_matching K E) (N K E) E)) ((positions K E s).unbarred p (holds q)))
        go false e true e' Repetition false q = refl
        go false e true e' Puncturing false q = refl
        go false e true e' Shortening false q = refl
        go false e false e' kind true q = refl
        go false e false e' kind false q = refl

    -- of which there are K
    pub count-information : length (keep (λ p. eqb (get_or (roles K E) p 0) 1) (count 0 512)) ≡ K
    count-information =
        ap length (keep-cong _ (λ p. has p (layout K E).positions) (count 0 512) (λ p h. information p (let r = ranged 0 512 p h in omega arith)))
        ∙ members 0 512 (layout K E).positions (λ p h. let l = (positions K E s).below p h in let m = short K E s in omega arith)
        (ascending-distinct (layout K E).positions (positions K E s).rising)
        ∙ (positions K E s).size

-- ---- the outcome

pub placeless : (i : ℕ) (new old : List ℕ) → (outcome i 0 new old).place ≡ 0
unfolding outcome
placeless zero new old = refl
placeless (suc i) new old = same (eqb (suc i) 6)
  where
    same : (b : Bool) → ◌≡◌ {A = ℕ} (cond b 0 0) 0
    same true = refl
    same false = refl

-- a test that never applies
never : (false ≡ false) ↔ Unit {0}
never = (λ e. tt, λ u. refl)

module _ (A E : ℕ) (out : List ℕ) where
  pub describing-untouched : Untouched out (describing A E out)
  unfolding describing
  describing-untouched = untouched _ _ _ out

  -- no number carries a place
  pub describing-place : (describing A E out).place ≡ 0
  unfolding describing
  describing-place = placeless _ (roles (K A) E) out

  -- each of 1 to 5 is given exactly where its test applies and none before it; 4 and 6 never
  pub describing-in-turn : InTurn A E (Unit {0}) (length out ≡ 512) (Unit {0}) (describing A E out).number
  unfolding describing
  describing-in-turn =
      carried (λ k l. (λ e. sym (outcome-number _ 0 (roles (K A) E) out) ∙ e, λ e. outcome-number _ 0 (roles (K A) E) out ∙ e))
      (in-turn A E false (not (eqb (length out) 512)) false never (length-is (length out) 512) never)

  -- 0 exactly where A and E are accepted and the output has 512 bytes
  pub describing-done : ((describing A E out).number ≡ 0) ↔ ((refusal A E ≡ 0) × (length out ≡ 512))
  unfolding describing
  describing-done =
      let n = in-turn-none A E false (not (eqb (length out) 512)) false never (length-is (length out) 512) never in (
        λ e. let z = n.0 (sym (outcome-number _ 0 (roles (K A) E) out) ∙ e) in (z.0, z.1.1.0),
        λ h. outcome-number _ 0 (roles (K A) E) out ∙ n.1 (h.0, (tt, (h.1, tt))),
      )
