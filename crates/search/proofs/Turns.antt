-- The search, candidate by candidate: what its two loops keep, and what each way out of a turn shows.
-- Assumes nothing.
use Prim.Native.Nat.{ℕ, ◌+◌, ◌*◌, ◌/◌, ◌≤◌, ◌<◌}
use native.Mathlib.Decide.{dec_le}
use native.Mathlib.Nat.{lt_of_not-le}
use native.Mathlib.Omega.{arith}
use mathlib.Core.Path.{◌≡◌, sym, subst, ap, ap₂, ◌∙◌}
use mathlib.Core.Logic.{◌≢◌}
use mathlib.Core.Bool.{Bool, true, false}
use mathlib.Core.List.{List, ◌++◌}
use lib.IntN.{ℤ, pos, negsuc, nat_abs}
use lib.ListN.{length, get_or, take, drop, take-append-drop}
use mir.Syntax.{w32}
use mir.Val.{SFits, to_z, of_z}
use mir.ValLaws.{to_z-of_z}
use borrow.Author.Tests.{ltb-true}
use Rattle.std.specs.Prelude.{Result, Ok, Err}
use Rattle.nr.specs.declared.Numbers.{Numbers}
use Rattle.nr.specs.declared.Refusal.{Refusal}
use Rattle.nr.specs.declared.Candidate.{Candidate}
use Rattle.nr.specs.Rows.{Within}
use Rattle.nr.specs.Answer.{refusal, number, given, Reading}
use Rattle.nr.specs.Scrambling.{c_init}
use Rattle.nr.specs.Decoding.{bad_soft}
use Rattle.nr.specs.Searching.{candidate_at, stretch_of, numbers_of, tried, decodes, Found, found, unfound, accepted, search_refusal, searching, start_of}
use Rattle.nr.proofs.Tests.{fails}
use Rattle.nr.proofs.Construction.{accepted as sized}
use Rattle.nr.proofs.Refusals.{longest, first-none}
use Rattle.nr.proofs.Promise1.{decoding-untouched}
use Rattle.nr.proofs.Searching.{refused-is, fits-exactly, stretch-length, sixteen-exactly, decodes-exactly, bad-undecoded, unrefused, first-named, none_named, searching-nameless}
use Rattle.checks.specs.Checks.{beyond, Says}
use Rattle.checks.proofs.Refusing.{refused, done, passed_on}
use Rattle.dci.specs.Judged.{counted, told}
use Rattle.dci.proofs.Ranges.{soft-beyond}
use Rattle.dci.proofs.Outcomes.{soft-within}
use Rattle.candidates.specs.Tryable.{tryable}
use Rattle.candidates.proofs.Checked.{Able, able, unable}
use Rattle.search.specs.declared.kept.Terms.{Terms}
use Rattle.search.specs.Tries.{Tries, attempted, named}

-- ---- the loop over the values: `row` is the candidate's, and none before k is bad

pub record Passed (region : List ℤ) (c : Candidate) (row : List ℤ) (k : ℕ) : Type 0 where
  pub is : row ≡ stretch_of region c
  pub within : k ≤ length row
  pub so_far : (j : ℕ) → j < k → bad_soft (get_or row j (pos 0)) ≡ false

-- a turn: the value, which stands by its bits, was judged
module _ {region : List ℤ} {c : Candidate} {row : List ℤ} {k : ℕ} (p : Passed region c row k) (l : k < length row)
    (bad : Bool) (says : bad ≡ beyond (negsuc 126) (pos 127) (to_z w32 (of_z w32 (get_or row k (pos 0))))) (f : SFits w32 (get_or row k (pos 0))) where
  value-is : bad_soft (get_or row k (pos 0)) ≡ bad
  value-is = sym (says ∙ ap (beyond (negsuc 126) (pos 127)) (to_z-of_z w32 (get_or row k (pos 0)) f) ∙ soft-beyond (get_or row k (pos 0)))

  pub bad-row : (n : ℕ) (out : List ℕ) → tryable (length region / 108) c ≡ true → bad ≡ true → decodes n region out c ≡ false
  unfolding bad_soft
  bad-row n out t e =
      let size = ap length p.is ∙ stretch-length region c (able (length region / 108) c t).fits in
      bad-undecoded n region out c k (omega arith) (subst (λ (r : List ℤ). 127 < nat_abs (get_or r k (pos 0))) p.is (ltb-true 127 _ (value-is ∙ e)))

  pub one_more : bad ≡ false → Passed region c row (k + 1)
  one_more e = record {
    is = p.is;
    within = omega arith;
    so_far = λ j h. elim (dec_le k j) [
      | yes m ↦ let same : k ≡ j = omega arith in subst (λ (i : ℕ). bad_soft (get_or row i (pos 0)) ≡ false) same (value-is ∙ e)
      | no m ↦ p.so_far j (lt_of_not-le m)
    ];
  }

pub all-passed : {region : List ℤ} {c : Candidate} {row : List ℤ} {k : ℕ} → Passed region c row k → length row ≤ k → Within 127 row
all-passed {row = row} p l =
    let e = first-none bad_soft row (pos 0) (λ j h. p.so_far j (omega arith)) in
    soft-within row (omega arith)

-- ---- the loop over the candidates: the output is as it was, and none before candidate i decodes

pub record Passed_over (n : ℕ) (region : List ℤ) (list out₀ out : List ℕ) (i : ℕ) : Type 0 where
  pub within : i ≤ length list / 5
  pub same : out ≡ out₀
  pub none : (j : ℕ) → j < i → decodes n region out₀ (candidate_at list j) ≡ false

-- a turn, with candidate i
pub record Turn (n : ℕ) (region : List ℤ) (list out₀ out : List ℕ) (i : ℕ) (c : Candidate) : Type 0 where
  pub kept : Passed_over n region list out₀ out i
  pub below : i < length list / 5
  pub is : c ≡ candidate_at list i

module _ {n : ℕ} {region : List ℤ} {list out₀ out : List ℕ} {i : ℕ} {c : Candidate} (t : Turn n region list out₀ out i c) where
  pub skip : (out' : List ℕ) → out' ≡ out₀ → decodes n region out₀ c ≡ false → Passed_over n region list out₀ out' (i + 1)
  skip out' e d = record {
    within = omega (arith, t.below);
    same = e;
    none = λ j h. elim (dec_le i j) [
      | yes m ↦
          let same : i ≡ j = omega arith in
          subst (λ (k : ℕ). decodes n region out₀ (candidate_at list k) ≡ false) same (subst (λ (d : Candidate). decodes n region out₀ d ≡ false) t.is d)
      | no m ↦ t.kept.none j (lt_of_not-le m)
    ];
  }

  pub skip-unable : tryable (length region / 108) c ≡ false → Passed_over n region list out₀ out (i + 1)
  skip-unable e = skip out t.kept.same (unable n region out₀ c e)

  -- it was tried
  module _ (a : tryable (length region / 108) c ≡ true) {row : List ℤ} (row_is : row ≡ stretch_of region c) {s : Numbers} (s-is : s ≡ numbers_of n c)
      (r : Result ℕ Refusal) (new : List ℕ) (says : told r new ≡ attempted s row out) where
    said : told r new ≡ attempted (numbers_of n c) (stretch_of region c) out₀
    said = says ∙ ap (λ (u : Numbers). attempted u row out) s-is ∙ ap₂ (attempted (numbers_of n c)) row_is t.kept.same

    number_is : number r ≡ (tried n region out₀ c).number
    unfolding given tried
    number_is = ap (λ (o : Reading). o.number) said

    buffer-is : new ≡ (tried n region out₀ c).buffer ++ drop c.a out₀
    unfolding given tried
    buffer-is = ap (λ (o : Reading). o.buffer) said

    noise-is : counted r ≡ (tried n region out₀ c).noise
    unfolding given tried
    noise-is = ap (λ (o : Reading). o.noise) said

    -- a number other than 0 puts the buffer back
    put_back : number r ≢ 0 → new ≡ out₀
    unfolding tried
    put_back z =
        buffer-is
        ∙ ap (λ (front : List ℕ). front ++ drop c.a out₀)
        ((decoding-untouched (numbers_of n c) (stretch_of region c) (take c.a out₀)).buffer (λ e. z (number_is ∙ e)))
        ∙ take-append-drop c.a out₀

    pub skip-refused : number r ≢ 0 → Passed_over n region list out₀ new (i + 1)
    skip-refused z = skip new (put_back z) (fails _ (λ e. z (number_is ∙ ((decodes-exactly n region out₀ c).0 e).1.1)))

    pub found_it : (noise : ℕ) → r ≡ Ok noise → 0 ≡ search_refusal (length region) (length list) (length out₀)
        → found 0 i row new noise ≡ searching n region list out₀
    unfolding accepted counted
    found_it noise q s =
        let z : number r ≡ 0 = ap number q ∙ done noise in
        let u = unrefused n region list out₀ (sym s) in
        let g = able (length region / 108) c a in
        let d : decodes n region out₀ c ≡ true = (decodes-exactly n region out₀ c).1 (g.fits, ((sixteen-exactly c).0 g.sixteen, sym number_is ∙ z)) in
        ap₂ (λ (stretch : List ℤ) (buffer : List ℕ). found 0 i stretch buffer noise) row_is buffer-is
        ∙ ap (found 0 i (stretch_of region c) ((tried n region out₀ c).buffer ++ drop c.a out₀)) (sym (ap counted q) ∙ noise-is)
        ∙ ap (λ (d : Candidate). found 0 i (stretch_of region d) ((tried n region out₀ d).buffer ++ drop d.a out₀) (tried n region out₀ d).noise) t.is
        ∙ sym (first-named n region list out₀ u.0 u.1
        (record { below = t.below; itself = subst (λ (d : Candidate). decodes n region out₀ d ≡ true) t.is d; before = t.kept.none }))

pub found_none : {n : ℕ} {region : List ℤ} {list out₀ out : List ℕ} {i : ℕ} → Passed_over n region list out₀ out i → length list / 5 ≤ i
    → 0 ≡ search_refusal (length region) (length list) (length out₀) → unfound 8 out ≡ searching n region list out₀
found_none {n = n} {region = region} {list = list} {out₀ = out₀} k l s =
    let u = unrefused n region list out₀ (sym s) in
    ap (unfound 8) k.same ∙ sym (none_named n region list out₀ u.0 u.1 (λ j h. k.none j (omega arith)))

-- the lengths are refused
pub size-refused : (n : ℕ) (region : List ℤ) (list out : List ℕ) {Y : Type 0} (r : Refusal)
    → Says {X = Y} (search_refusal (length region) (length list) (length out)) (Err r) → named (Err r) out ≡ searching n region list out
unfolding named
size-refused n region list out r y =
    let s : Says {X = ℕ} (search_refusal (length region) (length list) (length out)) (Err r) = passed_on y in
    refused-is n region list out (number {X = ℕ} (Err r)) (refused ℕ r) (sym s.number)

-- ---- where the part starts

pub start-at : {n : ℕ} {region : List ℤ} {list out₀ out : List ℕ} {i : ℕ} {c : Candidate} → Turn n region list out₀ out i c
    → (f : Found) (part : List ℤ) (new : List ℕ) (noise : ℕ) → found 0 i part new noise ≡ f → 108 * c.first * 4 ≡ start_of list f * 4
unfolding start_of
start-at {list = list} t f part new noise e =
    ap (λ (d : Candidate). 108 * d.first * 4) t.is ∙ ap (λ (g : Found). start_of list g * 4) e

-- that of a refusal, which is empty, starts where the region does
pub no_start : (n : ℕ) (region : List ℤ) (list out : List ℕ) (r : Refusal) (buffer : List ℕ)
    → named (Err r) buffer ≡ searching n region list out → start_of list (searching n region list out) ≡ 0
unfolding named
no_start n region list out r buffer e = (searching-nameless n region list out (λ z. refused ℕ r (ap (λ (f : Found). f.number) e ∙ z))).start

-- a candidate that can be tried lies within the region
pub room : (region : List ℤ) (c : Candidate) → Able (length region / 108) c → 108 * c.first + 108 * c.level ≤ length region
room region c a = omega (arith, ((fits-exactly (length region / 108) c.first c.level).0 a.fits).1.1)

-- ---- what trying it asks

-- the row has E values
pub row-size : {region : List ℤ} {c : Candidate} {row : List ℤ} {k : ℕ} → Passed region c row k → Able (length region / 108) c → length row ≡ 108 * c.level
row-size {region = region} {c = c} p a = ap length p.is ∙ stretch-length region c a.fits

-- its numbers are accepted
pub numbers-sizes : {cces n : ℕ} {c : Candidate} {s : Numbers} → Able cces c → s ≡ numbers_of n c → refusal s.a s.e ≡ 0
numbers-sizes a s-is = ap (λ (u : Numbers). refusal u.a u.e) s-is ∙ a.sizes

pub row_fits : {region : List ℤ} {c : Candidate} {row : List ℤ} {k : ℕ} → Passed region c row k → Able (length region / 108) c → length row ≤ 1728
row_fits {c = c} p a = omega (arith, row-size p a, longest (108 * c.level) (sized c.a (108 * c.level) a.sizes).length)

module _ {n : ℕ} {region : List ℤ} {list out₀ out : List ℕ} {i : ℕ} {c : Candidate} {row : List ℤ} {k : ℕ} (t : Turn n region list out₀ out i c)
    (a : Able (length region / 108) c) (p : Passed region c row k) {s : Numbers} (s-is : s ≡ numbers_of n c) where
  pub tries : length row ≤ k → 0 ≡ search_refusal (length region) (length list) (length out₀) → (terms : Terms)
      → terms.start.bits ≡ c_init s → length row ≤ terms.ready → Tries s terms row out
  tries l u terms start ready =
      let size : length row ≡ s.e = row-size p a ∙ ap (λ (u : Numbers). u.e) (sym s-is) in
      record {
        sizes = numbers-sizes a s-is;
        size = size;
        range = all-passed p l;
        start = start;
        ready = omega (arith, size, ready);
        output = ap length t.kept.same ∙ (unrefused n region list out₀ (sym u)).1;
      }
