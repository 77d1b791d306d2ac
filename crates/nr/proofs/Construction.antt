-- Code length and positions, for every accepted pair: N by the length alone, exactly K information positions, ascending, below N, none barred.
-- Assumes nothing.
use Prim.Native.Nat.{ℕ, ◌+◌, ◌-◌, ◌*◌, ◌/◌, ◌^◌, ◌≤◌, ◌<◌, min}
use native.Mathlib.Omega.{arith}
use mathlib.Core.Path.{◌≡◌, ◌∙◌}
use mathlib.Core.Bool.{Bool, true, false, not, ◌&&◌, ◌||◌}
use mathlib.Core.List.{List, []}
use lib.Dec.{T, ltb, leb, eqb, eqb→eq, leb→le, ltb→lt}
use lib.ListN.{length, drop, length-drop}
use borrow.Author.Tests.{le-ltb, ltb-false, not-false}
use Rattle.nr.specs.declared.RateMatching.{RateMatching}
use Rattle.nr.specs.declared.RateMatching.TheVariants.{Repetition, Puncturing, Shortening}
use Rattle.nr.specs.Rows.{count, has, all, ascending}
use Rattle.nr.specs.Numbers.{K}
use Rattle.nr.specs.Answer.{lengths, outside, tests, refusal}
use Rattle.nr.specs.Reliability.{reliability}
use Rattle.nr.specs.Construction.{log2up, n1, n2, n, N, low_rate, rate_matching, P, J, unsent, front, barred, free, chosen, layout, exponent}
use Rattle.nr.proofs.Tests.{distinct, left, right, holds, neither, all-has, all-count}
use Rattle.nr.proofs.Chains.{none}
use Rattle.nr.proofs.Rows.{kept, distinct-keep, dropped, distinct-drop, members, ascends}

-- ---- accepted pairs

-- the tests of 1 to 3 do not apply
pub record Clear (A E : ℕ) : Type 0 where
  pub size : outside A ≡ false
  pub length : has E lengths ≡ true
  pub room : ltb E (K A) ≡ false

pub clear : (A E : ℕ) → refusal A E ≡ 0 → Clear A E
unfolding refusal
clear A E e =
    let t = none 0 (tests A E []) e in
    record { size = t.0; length = not-false (has E lengths) t.1.0; room = t.1.1.0 }

-- the same in the terms of K
pub record Sized (K E : ℕ) : Type 0 where
  pub low : 36 ≤ K
  pub high : K ≤ 164
  pub length : T (has E lengths)
  pub fits : K ≤ E

pub accepted : (A E : ℕ) → refusal A E ≡ 0 → Sized (K A) E
accepted A E e =
    let c = clear A E e in
    let b = (neither (ltb A 12) (ltb 140 A)).0 c.size in
    record { low = omega (arith, ltb-false A 12 b.0); high = omega (arith, ltb-false 140 A b.1); length = holds c.length; fits = ltb-false E (K A) c.room }

-- a test that every accepted pair passes
abbrev every_pair : (ℕ → ℕ → Bool) → Bool
every_pair f = all (λ E. all (λ K. ltb E K || f K E) (count 36 129)) lengths

at : (f : ℕ → ℕ → Bool) → T (every_pair f) → (K E : ℕ) → Sized K E → T (f K E)
at f t K E c =
    let u : T (ltb E K || f K E) =
    all-count (λ B. ltb E B || f B E) 36 129
    (all-has (λ F. all (λ B. ltb F B || f B F) (count 36 129)) lengths t E c.length) K c.low (omega (arith, c.high)) in
    rw (le-ltb E K c.fits) at u

-- ---- the code length

n-test : T (every_pair (λ K E. eqb (n K E) (exponent E)))
unfolding log2up n1 n2 n
n-test = tt

pub n-by-length : (K E : ℕ) → Sized K E → n K E ≡ exponent E
n-by-length K E c = eqb→eq (n K E) (exponent E) (at (λ B F. eqb (n B F) (exponent F)) n-test K E c)

-- ---- room for K positions

-- how many positions are not barred
abbrev room : RateMatching → ℕ → ℕ
room kind E = length (free kind (2 ^ exponent E) E)

-- at least this many, which is less to compute for each pair
abbrev least : RateMatching → ℕ → ℕ
least Repetition E = 2 ^ exponent E
least Puncturing E = 2 ^ exponent E - (3 * 2 ^ exponent E - 2 * E + 3) / 4
least Shortening E = min E (2 ^ exponent E)

room-test : (kind : RateMatching) → T (all (λ E. leb (least kind E) (room kind E)) lengths)
unfolding log2up P J unsent front barred free reliability
room-test Repetition = tt
room-test Puncturing = tt
room-test Shortening = tt

least-test : T (every_pair (λ K E. leb K (least (rate_matching K E) E)))
unfolding log2up n1 n2 n low_rate rate_matching
least-test = tt

pub enough : (K E : ℕ) → Sized K E → K ≤ length (free (rate_matching K E) (N K E) E)
enough K E c =
    let kind : RateMatching = rate_matching K E in
    let l : K ≤ least kind E = leb→le K (least kind E) (at (λ B F. leb B (least (rate_matching B F) F)) least-test K E c) in
    let r : least kind E ≤ room kind E =
    leb→le (least kind E) (room kind E) (all-has (λ F. leb (least kind F) (room kind F)) lengths (room-test kind) E c.length) in
    rw (n-by-length K E c) (omega arith)

-- ---- the information positions

pub record Positions (K E : ℕ) : Type 0 where
  pub rising : T (ascending (layout K E).positions)
  pub size : length (layout K E).positions ≡ K
  pub below : (p : ℕ) → T (has p (layout K E).positions) → p < N K E
  pub unbarred : (p : ℕ) → T (has p (layout K E).positions) → T (not (has p (barred (rate_matching K E) (N K E) E)))

once : T (distinct reliability)
unfolding reliability
once = tt

pub positions : (K E : ℕ) → Sized K E → Positions K E
unfolding layout chosen free
positions K E c = record {
  rising = ascends (λ p. has p best) 0 (N K E);
  size =
      members 0 (N K E) best (λ p h. let l : p < N K E = low p h in omega arith)
      (distinct-drop (length able - K) able (distinct-keep usable reliability once))
      ∙ simp length-drop (let h = enough K E c in omega arith);
  below = λ p h. low p (kept (λ q. has q best) (count 0 (N K E)) p h).1;
  unbarred = λ p h. right (ltb p (N K E)) (not (has p (barred kind (N K E) E))) (passes p (kept (λ q. has q best) (count 0 (N K E)) p h).1);
}
  where
    kind : RateMatching
    kind = rate_matching K E

    usable : ℕ → Bool
    usable p = ltb p (N K E) && not (has p (barred kind (N K E) E))

    able : List ℕ
    able = free kind (N K E) E

    best : List ℕ
    best = drop (length able - K) able

    passes : (p : ℕ) → T (has p best) → T (usable p)
    passes p h = (kept usable reliability p (dropped (length able - K) able p h)).1

    low : (p : ℕ) → T (has p best) → p < N K E
    low p h = ltb→lt p (N K E) (left (ltb p (N K E)) (not (has p (barred kind (N K E) E))) (passes p h))

-- the same for A and E that none of 1 to 3 refuses
pub accepted-positions : (A E : ℕ) → refusal A E ≡ 0 → Positions (K A) E
accepted-positions A E e = positions (K A) E (accepted A E e)
