-- The search: when each number is given; what 0 names, and what it leaves in the buffer; that every other number leaves all as it
-- was; where a candidate may lie, and which never decode; and that a noiseless row is found.
-- Assumes nothing.
use Prim.Native.Nat.{ℕ, zero, suc, ◌+◌, ◌*◌, ◌/◌, ◌%◌, ◌≤◌, ◌<◌}
use native.Mathlib.Omega.{arith}
use mathlib.Core.Path.{◌≡◌, refl, sym, subst, ap, ap₂, ◌∙◌}
use mathlib.Core.Logic.{◌≢◌, ◌⊎◌, inl, inr, ◌↔◌}
use mathlib.Core.Bool.{Bool, true, false, cond, not, ◌||◌}
use mathlib.Core.List.{List, [], ◌∷◌, ◌++◌, map}
use lib.Dec.{eqb, ltb}
use lib.IntN.{ℤ, pos, nat_abs}
use lib.ListN.{length, get_or, take, drop, length-drop}
use lib.Seq.{length-take-le, length_front, take_at, drop_at, get_or-take, get_or-drop}
use borrow.Author.Tests.{lt-ltb, ltb-true, ltb-false, le-leb, leb-true, eq-eqb, eqb-true, not-false}
use Rattle.nr.specs.declared.Candidate.{Candidate}
use Rattle.nr.specs.Rows.{count, has, first, Bits}
use Rattle.nr.specs.Answer.{lengths, refusal, first_number, Reading}
use Rattle.nr.specs.Coding.{coding}
use Rattle.nr.specs.Decoding.{decoding}
use Rattle.nr.specs.Promise3.{Accepted, Payload, Noiseless}
use Rattle.nr.specs.Searching.{levels, fits, candidate_at, stretch_of, numbers_of, tried, sixteen_bits, decodes, Found, found, unfound, accepted, searched, whole, search_refusal, or_refused, searching, start_of}
use Rattle.nr.proofs.Tests.{is, holds, clash, both-pass, both-fail, fails, one_of, has_one}
use Rattle.nr.proofs.Rows.{mapped}
use Rattle.nr.proofs.Chains.{none, nothing, given_by}
use Rattle.nr.proofs.Refusals.{Listed, FirstBelow, first-unique, first_below, none_below, denied, length-is, accepted-exactly}
use Rattle.nr.proofs.Promise1.{Whole as WholeBits, plain, DecodingRuns, decoding-done, decoding-untouched, decoding-whole}
use Rattle.nr.proofs.Promise3.{promise3}
use Rattle.nr.proofs.Recoding.{decoding-noise-small}

-- ---- where a candidate may lie

-- the aggregation levels, written out
abbrev pub Level : ℕ → Type 0
Level l = (l ≡ 1) ⊎ ((l ≡ 2) ⊎ ((l ≡ 4) ⊎ ((l ≡ 8) ⊎ (l ≡ 16))))

pub fits-exactly : (cces first level : ℕ) → (fits cces first level ≡ true) ↔ (Level level × ((first % level ≡ 0) × (first + level ≤ cces)))
unfolding fits
fits-exactly cces first level = (
  λ e.
      let p = (both-pass (has level levels) _).0 e in
      let q = (both-pass _ _).0 p.1 in
      (one_of level levels (holds p.0), (eqb-true (first % level) 0 q.0, leb-true (first + level) cces q.1)),
  λ h. (both-pass (has level levels) _).1 (is _ (has_one level levels h.0), (both-pass _ _).1 (eq-eqb (first % level) 0 h.1.0, le-leb (first + level) cces h.1.1)),
)

-- the coded lengths are those of the levels
pub level-lengths : map (λ l. 108 * l) levels ≡ lengths
level-lengths = refl

-- so that a candidate that fits has one of them
pub fits-listed : (cces first level : ℕ) → fits cces first level ≡ true → Listed (108 * level)
fits-listed cces first level e =
    one_of (108 * level) lengths (mapped (λ l. 108 * l) levels level (has_one level levels ((fits-exactly cces first level).0 e).0))

-- a candidate's CCEs lie in the region as a message may
abbrev pub Fits : List ℤ → Candidate → Type 0
Fits region c = fits (length region / 108) c.first c.level ≡ true

-- its row is then E values of the region, those from its first CCE on
pub stretch-length : (region : List ℤ) (c : Candidate) → Fits region c → length (stretch_of region c) ≡ 108 * c.level
stretch-length region c e =
    let room = ((fits-exactly (length region / 108) c.first c.level).0 e).1.1 in
    length-take-le (108 * c.level) (drop (108 * c.first) region) (omega (arith, length-drop (108 * c.first) region))

pub stretch-at : (region : List ℤ) (c : Candidate) (k : ℕ) → k < 108 * c.level
    → get_or (stretch_of region c) k (pos 0) ≡ get_or region (108 * c.first + k) (pos 0)
stretch-at region c k l = get_or-take (108 * c.level) (drop (108 * c.first) region) k (pos 0) l ∙ get_or-drop (108 * c.first) region k (pos 0)

-- ---- which candidates decode

-- its RNTI and its n_RNTI have 16 bits
abbrev pub SixteenBits : Candidate → Type 0
SixteenBits c = (c.rnti < 65536) × (c.n_rnti < 65536)

pub sixteen-exactly : (c : Candidate) → (sixteen_bits c ≡ true) ↔ SixteenBits c
sixteen-exactly c = (
  λ e. let p = (both-pass _ _).0 e in (ltb-true c.rnti 65536 p.0, ltb-true c.n_rnti 65536 p.1),
  λ h. (both-pass _ _).1 (lt-ltb c.rnti 65536 h.0, lt-ltb c.n_rnti 65536 h.1),
)

module _ (n : ℕ) (region : List ℤ) (out : List ℕ) (c : Candidate) where
  pub decodes-exactly : (decodes n region out c ≡ true) ↔ (Fits region c × (SixteenBits c × ((tried n region out c).number ≡ 0)))
  unfolding decodes
  decodes-exactly = (
    λ e.
        let p = (both-pass _ _).0 e in
        let q = (both-pass _ _).0 p.1 in
        (p.0, ((sixteen-exactly c).0 q.0, eqb-true (tried n region out c).number 0 q.1)),
    λ h. (both-pass _ _).1 (h.0, (both-pass _ _).1 ((sixteen-exactly c).1 h.1.0, eq-eqb (tried n region out c).number 0 h.1.1)),
  )

  pub runs : decodes n region out c ≡ true → DecodingRuns (numbers_of n c) (stretch_of region c) (take c.a out)
  unfolding tried
  runs e = ((decoding-done (numbers_of n c) (stretch_of region c) (take c.a out)).0 (decodes-exactly.0 e).1.1).0

  -- one that does not fit does not
  pub unfit-undecoded : (Fits region c → ⊥) → decodes n region out c ≡ false
  unfit-undecoded f = fails _ (λ e. f (decodes-exactly.0 e).0)

  -- nor one whose RNTI or n_RNTI has more than 16 bits
  pub rnti-undecoded : 65535 < c.rnti → decodes n region out c ≡ false
  rnti-undecoded l = fails _ (λ e. let h = (decodes-exactly.0 e).1.0.0 in omega arith)

  pub n-rnti-undecoded : 65535 < c.n_rnti → decodes n region out c ≡ false
  n-rnti-undecoded l = fails _ (λ e. let h = (decodes-exactly.0 e).1.0.1 in omega arith)

  -- nor one to whose A and E one of 1 to 3 applies
  pub refused-undecoded : refusal c.a (108 * c.level) ≢ 0 → decodes n region out c ≡ false
  refused-undecoded r = fails _ (λ e. r (runs e).numbers)

  -- nor one with a value outside -127..127 in its row
  pub bad-undecoded : (k : ℕ) → k < 108 * c.level → 127 < nat_abs (get_or (stretch_of region c) k (pos 0)) → decodes n region out c ≡ false
  bad-undecoded k l b = fails _ (λ e. let h = (runs e).range k l in omega arith)

-- ---- when each number is given

-- so many entries are 0 to `most` whole groups of `size`
abbrev pub Whole : ℕ → ℕ → ℕ → Type 0
Whole size most entries = (entries % size ≡ 0) × (entries / size ≤ most)

whole_is : (size most entries : ℕ) → (not (whole size most entries) ≡ false) ↔ Whole size most entries
whole_is size most entries = (
  λ e. let p = (both-pass _ _).0 (not-false (whole size most entries) e) in (eqb-true (entries % size) 0 p.0, leb-true (entries / size) most p.1),
  λ h. ap not ((both-pass _ _).1 (eq-eqb (entries % size) 0 h.0, le-leb (entries / size) most h.1)),
)

module _ (n : ℕ) (region : List ℤ) (list out : List ℕ) where
  abbrev pub answer : Found
  answer = searching n region list out

  -- the region is 0 to 64 whole CCEs and the list 0 to 44 whole candidates
  abbrev pub Sizes : Type 0
  Sizes = Whole 108 64 (length region) × Whole 5 44 (length list)

  abbrev pub decodes_at : ℕ → Bool
  decodes_at i = decodes n region out (candidate_at list i)

  abbrev pub NoneDecodes : Type 0
  NoneDecodes = (i : ℕ) → i < length list / 5 → decodes_at i ≡ false

  -- i is the first candidate that decodes
  abbrev pub First : ℕ → Type 0
  First = FirstBelow decodes_at (length list / 5)

  -- the four ways in which a search ends
  pub data Ending : Found → Type 0 where
    wrong-sizes : (Sizes → ⊥) → Ending (unfound 4 out)
    wrong-buffer : Sizes → length out ≢ 140 → Ending (unfound 5 out)
    none-decodes : Sizes → length out ≡ 140 → NoneDecodes → Ending (unfound 8 out)
    first-decodes : Sizes → length out ≡ 140 → (i : ℕ) → First i → Ending (accepted n region list out i)

  -- ---- that it ends in one of them

  abbrev bad_sizes : Bool
  bad_sizes = not (whole 108 64 (length region)) || not (whole 5 44 (length list))

  abbrev bad_buffer : Bool
  bad_buffer = not (eqb (length out) 140)

  abbrev refused : ℕ
  refused = first_number 4 (bad_sizes ∷ bad_buffer ∷ [])

  abbrev place : ℕ
  place = first decodes_at (count 0 (length list / 5))

  sizes-are : (bad_sizes ≡ false) ↔ Sizes
  sizes-are = both-fail (whole_is 108 64 (length region)) (whole_is 5 44 (length list))

  -- neither 4 nor 5
  pub unrefused : search_refusal (length region) (length list) (length out) ≡ 0 → Sizes × (length out ≡ 140)
  unfolding search_refusal
  unrefused e = let p = none 3 (bad_sizes ∷ bad_buffer ∷ []) e in (sizes-are.0 p.0, (length-is (length out) 140).0 p.1.0)

  -- 4 or 5
  pub refused-is : (i : ℕ) → i ≢ 0 → search_refusal (length region) (length list) (length out) ≡ i → unfound i out ≡ answer
  unfolding searching or_refused
  refused-is zero z e = absurd (z refl)
  refused-is (suc i) z e = ap (λ (r : ℕ). or_refused r out (searched n region list out)) (sym e)

  let-pass : refused ≡ 0 → (d : Bool) → ltb place (length list / 5) ≡ d → cond d (accepted n region list out place) (unfound 8 out) ≡ answer
  unfolding searching search_refusal or_refused searched
  let-pass e d e' = ap₂ (λ (r : ℕ) (t : Bool). or_refused r out (cond t (accepted n region list out place) (unfound 8 out))) (sym e) (sym e')

  pub searching-ends : Ending answer
  unfolding search_refusal
  searching-ends = go bad_sizes refl bad_buffer refl (ltb place (length list / 5)) refl
    where
      row : List Bool
      row = bad_sizes ∷ bad_buffer ∷ []

      buffer-is : (bad_buffer ≡ false) ↔ (length out ≡ 140)
      buffer-is = length-is (length out) 140

      go : (s : Bool) → bad_sizes ≡ s → (b : Bool) → bad_buffer ≡ b → (d : Bool) → ltb place (length list / 5) ≡ d → Ending answer
      go true s b b' d d' = subst Ending (refused-is 4 (λ z. omega arith) (given_by 3 0 row s)) (wrong-sizes ((denied bad_sizes sizes-are).0 s))
      go false s true b d d' =
          subst Ending (refused-is 5 (λ z. omega arith) (given_by 3 1 row (s, b))) (wrong-buffer (sizes-are.0 s) ((denied bad_buffer buffer-is).0 b))
      go false s false b true d =
          subst Ending (let-pass (nothing 4 row (s, (b, tt))) true d)
          (first-decodes (sizes-are.0 s) (buffer-is.0 b) place (first_below decodes_at (length list / 5) (ltb-true place (length list / 5) d)))
      go false s false b false d =
          subst Ending (let-pass (nothing 4 row (s, (b, tt))) false d)
          (none-decodes (sizes-are.0 s) (buffer-is.0 b) (none_below decodes_at (length list / 5) (ltb-false place (length list / 5) d)))

  -- ---- and so when each number is given

  pub record Numbered (f : Found) : Type 0 where
    pub four : (f.number ≡ 4) ↔ (Sizes → ⊥)
    pub five : (f.number ≡ 5) ↔ (Sizes × (length out ≢ 140))
    pub eight : (f.number ≡ 8) ↔ ((Sizes × (length out ≡ 140)) × NoneDecodes)
    pub done : (f.number ≡ 0) ↔ ((Sizes × (length out ≡ 140)) × ((i : ℕ) × ((i < length list / 5) × (decodes_at i ≡ true))))
    pub no_other : (f.number ≡ 0) ⊎ ((f.number ≡ 4) ⊎ ((f.number ≡ 5) ⊎ (f.number ≡ 8)))

  numbered : (f : Found) → Ending f → Numbered f
  unfolding accepted
  numbered f (wrong-sizes s) = record {
    four = (λ e. s, λ h. refl);
    five = (λ e. absurd (omega arith), λ h. absurd (s h.0));
    eight = (λ e. absurd (omega arith), λ h. absurd (s h.0.0));
    done = (λ e. absurd (omega arith), λ h. absurd (s h.0.0));
    no_other = inr (inl refl);
  }
  numbered f (wrong-buffer s b) = record {
    four = (λ e. absurd (omega arith), λ h. absurd (h s));
    five = (λ e. (s, b), λ h. refl);
    eight = (λ e. absurd (omega arith), λ h. absurd (b h.0.1));
    done = (λ e. absurd (omega arith), λ h. absurd (b h.0.1));
    no_other = inr (inr (inl refl));
  }
  numbered f (none-decodes s b h) = record {
    four = (λ e. absurd (omega arith), λ n. absurd (n s));
    five = (λ e. absurd (omega arith), λ w. absurd (w.1 b));
    eight = (λ e. ((s, b), h), λ w. refl);
    done = (λ e. absurd (omega arith), λ w. clash w.1.1.1 (h w.1.0 w.1.1.0));
    no_other = inr (inr (inr refl));
  }
  numbered f (first-decodes s b i g) = record {
    four = (λ e. absurd (omega arith), λ n. absurd (n s));
    five = (λ e. absurd (omega arith), λ w. absurd (w.1 b));
    eight = (λ e. absurd (omega arith), λ w. clash g.itself (w.1 i g.below));
    done = (λ e. ((s, b), (i, (g.below, g.itself))), λ w. refl);
    no_other = inl refl;
  }

  pub searching-numbered : Numbered answer
  searching-numbered = numbered answer searching-ends

  -- ---- on 0

  -- the candidate is the first that decodes; the stretch is its row, of E values, and what decoding makes of it is the front of the
  -- buffer, A bits, with its noise count; the rest of the buffer is as it was
  pub record Names (f : Found) (c : Candidate) : Type 0 where
    pub is-first : First f.candidate
    pub stretch-is : f.stretch ≡ stretch_of region c
    pub values : length f.stretch ≡ 108 * c.level
    pub decoded : decoding (numbers_of n c) f.stretch (take c.a out) ≡ record { number = 0; place = 0; buffer = take c.a f.buffer; noise = f.noise }
    pub front : length (take c.a f.buffer) ≡ c.a
    pub bits : Bits (take c.a f.buffer)
    pub rest : drop c.a f.buffer ≡ drop c.a out
    pub size : length f.buffer ≡ length out
    pub start : start_of list f ≡ 108 * c.first

  names : (i : ℕ) → First i → Names (accepted n region list out i) (candidate_at list i)
  unfolding accepted tried start_of
  names i g = record {
    is-first = g;
    stretch-is = refl;
    values = r.size;
    decoded = ap₂ (λ (k p : ℕ). taken k p new) done placeless ∙ ap (taken 0 0) (sym front-is);
    front = ap length front-is ∙ a-long;
    bits = subst Bits (sym front-is) (w.bits done);
    rest = drop_at new (drop c.a out) c.a a-long;
    size = length_front out new c.a (a-long ∙ sym r.output);
    start = refl;
  }
    where
      c : Candidate
      c = candidate_at list i

      new : List ℕ
      new = (tried n region out c).buffer

      taken : ℕ → ℕ → List ℕ → Reading
      taken k p buffer = record { number = k; place = p; buffer = buffer; noise = (tried n region out c).noise }

      r : DecodingRuns (numbers_of n c) (stretch_of region c) (take c.a out)
      r = runs n region out c g.itself

      done : (tried n region out c).number ≡ 0
      done = ((decodes-exactly n region out c).0 g.itself).1.1

      placeless : (tried n region out c).place ≡ 0
      placeless = (decoding-untouched (numbers_of n c) (stretch_of region c) (take c.a out)).place (λ e. omega (arith, done))

      w : WholeBits c.a (plain (tried n region out c))
      w = decoding-whole (numbers_of n c) (stretch_of region c) (take c.a out)

      a-long : length new ≡ c.a
      a-long = w.length-is done

      front-is : take c.a (new ++ drop c.a out) ≡ new
      front-is = take_at new (drop c.a out) c.a a-long

  pub searching-names : answer.number ≡ 0 → Names answer (candidate_at list answer.candidate)
  unfolding accepted
  searching-names = go answer searching-ends
    where
      go : (f : Found) → Ending f → f.number ≡ 0 → Names f (candidate_at list f.candidate)
      go f (wrong-sizes s) e = absurd (omega arith)
      go f (wrong-buffer s b) e = absurd (omega arith)
      go f (none-decodes s b h) e = absurd (omega arith)
      go f (first-decodes s b i g) e = names i g

  -- ---- on every other number

  -- nothing is named or counted, and the buffer is as it was
  pub record Nameless (f : Found) : Type 0 where
    pub candidate : f.candidate ≡ 0
    pub stretch : f.stretch ≡ []
    pub buffer : f.buffer ≡ out
    pub noise : f.noise ≡ 0
    pub start : start_of list f ≡ 0

  pub searching-nameless : answer.number ≢ 0 → Nameless answer
  unfolding accepted start_of
  searching-nameless = go answer searching-ends
    where
      go : (f : Found) → Ending f → f.number ≢ 0 → Nameless f
      go f (wrong-sizes s) e = record { candidate = refl; stretch = refl; buffer = refl; noise = refl; start = refl }
      go f (wrong-buffer s b) e = record { candidate = refl; stretch = refl; buffer = refl; noise = refl; start = refl }
      go f (none-decodes s b h) e = record { candidate = refl; stretch = refl; buffer = refl; noise = refl; start = refl }
      go f (first-decodes s b i g) e = absurd (e refl)

  -- the number, the candidate and the noise count are small
  pub record Small (f : Found) : Type 0 where
    pub number : f.number ≤ 8
    pub candidate : f.candidate < 44
    pub noise : f.noise ≤ 1728

  pub searching-small : Small answer
  unfolding accepted tried
  searching-small = go answer searching-ends
    where
      none : (i : ℕ) → i ≤ 8 → Small (unfound i out)
      none i l = record { number = l; candidate = omega arith; noise = omega arith }

      go : (f : Found) → Ending f → Small f
      go f (wrong-sizes s) = none 4 (omega arith)
      go f (wrong-buffer s b) = none 5 (omega arith)
      go f (none-decodes s b h) = none 8 (omega arith)
      go f (first-decodes s b i g) = record {
        number = omega arith;
        candidate = omega (arith, g.below, s.1.1);
        noise = decoding-noise-small (numbers_of n (candidate_at list i)) (stretch_of region (candidate_at list i)) (take (candidate_at list i).a out);
      }

  -- ---- what it is for

  -- the first candidate that decodes is the one that is named
  pub first-named : Sizes → length out ≡ 140 → {i : ℕ} → First i → answer ≡ accepted n region list out i
  first-named s b {i} g = go answer searching-ends
    where
      go : (f : Found) → Ending f → f ≡ accepted n region list out i
      go f (wrong-sizes s') = absurd (s' s)
      go f (wrong-buffer s' b') = absurd (b' b)
      go f (none-decodes s' b' h) = clash g.itself (h i g.below)
      go f (first-decodes s' b' j g') = ap (accepted n region list out) (first-unique g' g)

  -- and where none does, none is
  pub none_named : Sizes → length out ≡ 140 → NoneDecodes → answer ≡ unfound 8 out
  none_named s b h = go answer searching-ends
    where
      go : (f : Found) → Ending f → f ≡ unfound 8 out
      go f (wrong-sizes s') = absurd (s' s)
      go f (wrong-buffer s' b') = absurd (b' b)
      go f (none-decodes s' b' h') = refl
      go f (first-decodes s' b' j g) = clash g.itself (h j g.below)

  -- candidate i, decoded under its numbers, would give the payload: its row is noiseless for it
  pub record Carries (i : ℕ) (payload out' : List ℕ) : Type 0 where
    pub below : i < length list / 5
    pub fit : Fits region (candidate_at list i)
    pub sixteen : SixteenBits (candidate_at list i)
    pub numbers : Accepted (numbers_of n (candidate_at list i))
    pub input : Payload (numbers_of n (candidate_at list i)) payload
    pub output : length out' ≡ 108 * (candidate_at list i).level
    pub clean : Noiseless (numbers_of n (candidate_at list i)) (coding (numbers_of n (candidate_at list i)) payload out').buffer (stretch_of region (candidate_at list i))

  -- if none before it decodes, it is found, with that payload and the noise count 0
  pub searching-finds : Sizes → length out ≡ 140 → (i : ℕ) (payload out' : List ℕ) → Carries i payload out' → ((j : ℕ) → j < i → decodes_at j ≡ false)
      → answer ≡ found 0 i (stretch_of region (candidate_at list i)) (payload ++ drop (candidate_at list i).a out) 0
  unfolding accepted tried
  searching-finds s b i payload out' h before =
      first-named s b (record { below = h.below; itself = (decodes-exactly n region out c).1 (h.fit, (h.sixteen, ap (λ (o : Reading). o.number) gives)); before = before })
      ∙ ap (λ (o : Reading). found 0 i (stretch_of region c) (o.buffer ++ drop c.a out) o.noise) gives
    where
      c : Candidate
      c = candidate_at list i

      front-size : length (take c.a out) ≡ c.a
      front-size = length-take-le c.a out (omega (arith, ((accepted-exactly c.a (108 * c.level)).0 h.numbers).high))

      gives : tried n region out c ≡ record { number = 0; place = 0; buffer = payload; noise = 0 }
      gives = promise3.decodes (numbers_of n c) payload out' h.numbers h.input h.output (stretch_of region c) (take c.a out) h.clean front-size
