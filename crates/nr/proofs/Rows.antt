-- Laws of the vocabulary of specs/Rows.antt.
-- Assumes nothing.
use Prim.Native.Nat.{ℕ, zero, suc, ◌+◌, ◌-◌, ◌≤◌, ◌<◌}
use native.Mathlib.Nat.{not-suc-le-zero, le_of_suc-le-suc}
use native.Mathlib.Omega.{arith}
use mathlib.Core.Logic.{◌⊎◌, inl, inr}
use mathlib.Core.Path.{◌≡◌, refl, sym, subst, ap, ◌∙◌}
use mathlib.Core.Bool.{Bool, true, false, cond, not, ◌||◌}
use mathlib.Core.List.{List, [], ◌∷◌, ◌++◌, map}
use lib.Dec.{T, ltb, eqb, eqb→eq, lt→ltb, ltb→lt, T_not}
use lib.ListN.{length, get_or, drop, length-map}
use lib.Seq.{get_or-append-add}
use borrow.Author.Tests.{eqb-false, ne_eqb, eq-eqb}
use Rattle.nr.specs.Rows.{count, has, keep, place, entries, same, all, ascending}
use Rattle.nr.proofs.Tests.{distinct, left, right, pair, is, isn't, off, holds, here, there, cases, all-has, all_from}

-- ---- ranges, and rows that are a function of the place

pub length-count : (a k : ℕ) → length (count a k) ≡ k
length-count a zero = refl
length-count a (suc k) = ap suc (length-count (suc a) k)

pub get_or-count : (a k i d : ℕ) → i < k → get_or (count a k) i d ≡ a + i
get_or-count a zero i d h = absurd (not-suc-le-zero h)
get_or-count a (suc k) zero d h = omega arith
get_or-count a (suc k) (suc i) d h = get_or-count (suc a) k i d (le_of_suc-le-suc h) ∙ omega arith

module _ {A B : Type 0} (h : A → B) where
  pub get_d_map : (xs : List A) (i : ℕ) (d : A) (z : B) → i < length xs → get_or (map h xs) i z ≡ h (get_or xs i d)
  get_d_map [] i d z l = absurd (not-suc-le-zero l)
  get_d_map (x ∷ xs) zero d z l = refl
  get_d_map (x ∷ xs) (suc i) d z l = get_d_map xs i d z (le_of_suc-le-suc l)

module _ {B : Type 0} (h : ℕ → B) where
  pub length-table : (a k : ℕ) → length (map h (count a k)) ≡ k
  length-table a k = length-map (count a k) h ∙ length-count a k

  pub get_or-table : (k i : ℕ) (z : B) → i < k → get_or (map h (count 0 k)) i z ≡ h i
  get_or-table k i z l =
      get_d_map h (count 0 k) i 0 z (subst (λ (m : ℕ). i < m) (sym (length-count 0 k)) l)
      ∙ ap h (get_or-count 0 k i 0 l ∙ omega arith)

-- the second of two joined rows
pub get_or-behind : {A : Type 0} (a b : List A) (m i : ℕ) (z : A) → length a ≡ m → m ≤ i → get_or (a ++ b) i z ≡ get_or b (i - m) z
get_or-behind a b m i z e l =
    let q : i ≡ length a + (i - m) = omega arith in
    ap (λ (j : ℕ). get_or (a ++ b) j z) q ∙ get_or-append-add a b (i - m) z

pub length-entries : (places row : List ℕ) → length (entries places row) ≡ length places
length-entries places row = length-map places (λ i. get_or row i 0)

pub get_or-entries : (places row : List ℕ) (k : ℕ) → k < length places → get_or (entries places row) k 0 ≡ get_or row (get_or places k 0) 0
get_or-entries places row k h = get_d_map (λ i. get_or row i 0) places k 0 0 h

-- entries whose places are a function of their own
module _ (f : ℕ → ℕ) (k : ℕ) (row : List ℕ) where
  pub length-picked : length (entries (map f (count 0 k)) row) ≡ k
  length-picked = length-entries (map f (count 0 k)) row ∙ length-table f 0 k

  pub get_d_picked : (i : ℕ) → i < k → get_or (entries (map f (count 0 k)) row) i 0 ≡ get_or row (f i) 0
  get_d_picked i h =
      get_or-entries (map f (count 0 k)) row i (subst (λ (m : ℕ). i < m) (sym (length-table f 0 k)) h)
      ∙ ap (λ (j : ℕ). get_or row j 0) (get_or-table f k i 0 h)

-- ---- what passes

module _ (f : ℕ → Bool) where
  -- an entry of `keep f xs` is an entry of xs that passes
  pub kept : (xs : List ℕ) (x : ℕ) → T (has x (keep f xs)) → T (has x xs) × T (f x)
  kept [] x h = absurd h
  kept (y ∷ ys) x h = go (f y) refl h (kept ys x)
    where
      go : (c : Bool) → f y ≡ c → T (has x (cond c (y ∷ keep f ys) (keep f ys))) → (T (has x (keep f ys)) → T (has x ys) × T (f x)) → T (has x (y ∷ ys)) × T (f x)
      go true q h r = elim (cases x y (keep f ys) h) [
        | inl e ↦ (subst (λ (z : ℕ). T (has z (y ∷ ys))) (sym e) (here y ys), subst (λ (z : ℕ). T (f z)) (sym e) (holds q))
        | inr u ↦ (there x y ys (r u).0, (r u).1)
      ]
      go false q h r = (there x y ys (r h).0, (r h).1)

  pub keeps : (xs : List ℕ) (x : ℕ) → T (has x xs) → T (f x) → T (has x (keep f xs))
  keeps [] x h p = absurd h
  keeps (y ∷ ys) x h p = go (f y) refl (λ u. keeps ys x u p)
    where
      go : (c : Bool) → f y ≡ c → (T (has x ys) → T (has x (keep f ys))) → T (has x (cond c (y ∷ keep f ys) (keep f ys)))
      go true q r = elim (cases x y ys h) [
        | inl e ↦ subst (λ (z : ℕ). T (has z (y ∷ keep f ys))) (sym e) (here y (keep f ys))
        | inr u ↦ there x y (keep f ys) (r u)
      ]
      go false q r = elim (cases x y ys h) [
        | inl e ↦ absurd (subst T q (subst (λ (z : ℕ). T (f z)) e p))
        | inr u ↦ r u
      ]

  pub distinct-keep : (xs : List ℕ) → T (distinct xs) → T (distinct (keep f xs))
  distinct-keep [] t = tt
  distinct-keep (y ∷ ys) t = go (f y) (distinct-keep ys (right (not (has y ys)) (distinct ys) t))
    where
      go : (c : Bool) → T (distinct (keep f ys)) → T (distinct (cond c (y ∷ keep f ys) (keep f ys)))
      go true d = pair (not (has y (keep f ys))) (distinct (keep f ys)) (off (has y ys) (has y (keep f ys)) (left (not (has y ys)) (distinct ys) t) (λ h. (kept ys y h).0)) d
      go false d = d

  pub keep_all : (xs : List ℕ) → ((x : ℕ) → T (has x xs) → T (f x)) → keep f xs ≡ xs
  keep_all [] e = refl
  keep_all (x ∷ xs) e = rw (is (f x) (e x (here x xs)), keep_all xs (λ p h. e p (there p x xs h)))

  pub keep-none : (xs : List ℕ) → ((x : ℕ) → T (has x xs) → f x ≡ false) → keep f xs ≡ []
  keep-none [] e = refl
  keep-none (x ∷ xs) e = rw (e x (here x xs), keep-none xs (λ p h. e p (there p x xs h)))

  pub length-keep : (xs : List ℕ) → length (keep f xs) ≤ length xs
  length-keep [] = omega arith
  length-keep (x ∷ xs) = go (f x) (length-keep xs)
    where
      go : (c : Bool) → length (keep f xs) ≤ length xs → length (cond c (x ∷ keep f xs) (keep f xs)) ≤ suc (length xs)
      go true l = omega arith
      go false l = omega arith

pub keep-cong : (f g : ℕ → Bool) (xs : List ℕ) → ((p : ℕ) → T (has p xs) → f p ≡ g p) → keep f xs ≡ keep g xs
keep-cong f g [] e = refl
keep-cong f g (x ∷ xs) e = rw (e x (here x xs), keep-cong f g xs (λ p h. e p (there p x xs h)))

module _ (g : ℕ → ℕ) where
  pub mapped : (xs : List ℕ) (x : ℕ) → T (has x xs) → T (has (g x) (map g xs))
  mapped [] x h = absurd h
  mapped (y ∷ ys) x h = elim (cases x y ys h) [
    | inl e ↦ subst (λ (z : ℕ). T (has (g z) (g y ∷ map g ys))) (sym e) (here (g y) (map g ys))
    | inr u ↦ there (g x) (g y) (map g ys) (mapped ys x u)
  ]

  pub source : (xs : List ℕ) (z : ℕ) → T (has z (map g xs)) → (x : ℕ) × T (has x xs) × (z ≡ g x)
  source [] z h = absurd h
  source (y ∷ ys) z h = elim (cases z (g y) (map g ys) h) [
    | inl e ↦ (y, here y ys, e)
    | inr u ↦ let s = source ys z u in (s.0, there s.0 y ys s.1, s.2)
  ]

-- an entry of two joined rows is an entry of one of them
pub has_left : (x : ℕ) (a b : List ℕ) → T (has x a) → T (has x (a ++ b))
has_left x [] b h = absurd h
has_left x (y ∷ a) b h = elim (cases x y a h) [
  | inl e ↦ subst (λ (z : ℕ). T (has x (z ∷ (a ++ b)))) e (here x (a ++ b))
  | inr u ↦ there x y (a ++ b) (has_left x a b u)
]

pub has_right : (x : ℕ) (a b : List ℕ) → T (has x b) → T (has x (a ++ b))
has_right x [] b h = h
has_right x (y ∷ a) b h = there x y (a ++ b) (has_right x a b h)

pub has_either : (x : ℕ) (a b : List ℕ) → T (has x (a ++ b)) → T (has x a) ⊎ T (has x b)
has_either x [] b h = inr h
has_either x (y ∷ a) b h = elim (cases x y (a ++ b) h) [
  | inl e ↦ inl (subst (λ (z : ℕ). T (has x (z ∷ a))) e (here x a))
  | inr u ↦ elim (has_either x a b u) [ inl v ↦ inl (there x y a v) | inr v ↦ inr v ]
]

-- what is not in two joined rows is not in the first
pub not-has-left : (x : ℕ) (a b : List ℕ) → T (not (has x (a ++ b))) → T (not (has x a))
not-has-left x [] b t = tt
not-has-left x (y ∷ a) b t = go (eqb x y) t (not-has-left x a b)
  where
    go : (c : Bool) → T (not (c || has x (a ++ b))) → (T (not (has x (a ++ b))) → T (not (has x a))) → T (not (c || has x a))
    go true t r = absurd t
    go false t r = r t

pub ranged : (a k x : ℕ) → T (has x (count a k)) → (a ≤ x) × (x < a + k)
ranged a zero x h = absurd h
ranged a (suc k) x h = elim (cases x a (count (suc a) k) h) [
  | inl e ↦ omega arith
  | inr u ↦ let r = ranged (suc a) k x u in omega arith
]

pub dropped : (i : ℕ) (xs : List ℕ) (x : ℕ) → T (has x (drop i xs)) → T (has x xs)
dropped zero xs x h = h
dropped (suc i) [] x h = absurd h
dropped (suc i) (y ∷ ys) x h = there x y ys (dropped i ys x h)

pub distinct-drop : (i : ℕ) (xs : List ℕ) → T (distinct xs) → T (distinct (drop i xs))
distinct-drop zero xs d = d
distinct-drop (suc i) [] d = tt
distinct-drop (suc i) (y ∷ ys) d = distinct-drop i ys (right (not (has y ys)) (distinct ys) d)

-- what is kept of a range ascends
pub ascends : (f : ℕ → Bool) (a k : ℕ) → T (ascending (keep f (count a k)))
ascends f a zero = tt
ascends f a (suc k) = go (f a) (ascends f (suc a) k)
  where
    rest : List ℕ
    rest = keep f (count (suc a) k)

    go : (c : Bool) → T (ascending rest) → T (ascending (cond c (a ∷ rest) rest))
    go true d =
        pair (all (λ y. ltb a y) rest) (ascending rest)
        (all_from (λ y. ltb a y) rest (λ x h. lt→ltb a x (ranged (suc a) k x (kept f (count (suc a) k) x h).0).0)) d
    go false d = d

-- ---- how many numbers of a range are entries of a row

either : (d : Bool) (a : ℕ) (u v : List ℕ) → length u ≡ suc (length v) → length (cond d (a ∷ u) u) ≡ suc (length (cond d (a ∷ v) v))
either true a u v e = ap suc e
either false a u v e = e

one_more : (f : ℕ → Bool) (a k x : ℕ) → a ≤ x → x < a + k → f x ≡ false
    → length (keep (λ p. eqb p x || f p) (count a k)) ≡ suc (length (keep f (count a k)))
one_more f a zero x l h z = let w : ⊥ = omega arith in absurd w
one_more f a (suc k) x l h z = go (eqb a x) refl (λ m. one_more f (suc a) k x m (omega arith) z)
  where
    rest : List ℕ
    rest = count (suc a) k

    go : (c : Bool) → eqb a x ≡ c
        → (suc a ≤ x → length (keep (λ p. eqb p x || f p) rest) ≡ suc (length (keep f rest)))
        → length (cond (c || f a) (a ∷ keep (λ p. eqb p x || f p) rest) (keep (λ p. eqb p x || f p) rest)) ≡ suc (length (cond (f a) (a ∷ keep f rest) (keep f rest)))
    go true q r =
        let e : a ≡ x = eqb→eq a x (holds q) in
        rw (ap f e ∙ z) (ap (λ (l : List ℕ). suc (length l))
        (keep-cong (λ p. eqb p x || f p) f rest
        (λ p u. let v = ranged (suc a) k p u in rw (ne_eqb p x (λ (w : p ≡ x). omega arith)))))
    go false q r =
        let ne : a ≡ x → ⊥ = eqb-false a x q in
        either (f a) a (keep (λ p. eqb p x || f p) rest) (keep f rest) (r (omega (arith, ne)))

-- as many as the row has, if its entries differ and lie in the range
pub members : (a k : ℕ) (xs : List ℕ) → ((x : ℕ) → T (has x xs) → (a ≤ x) × (x < a + k)) → T (distinct xs)
    → length (keep (λ p. has p xs) (count a k)) ≡ length xs
members a k [] r d = none (count a k)
  where
    none : (l : List ℕ) → length (keep (λ p. false) l) ≡ 0
    none [] = refl
    none (x ∷ l) = none l
members a k (x ∷ xs) r d =
    one_more (λ p. has p xs) a k x (r x (here x xs)).0 (r x (here x xs)).1 (isn't (has x xs) (left (not (has x xs)) (distinct xs) d))
    ∙ ap suc (members a k xs (λ y h. r y (there y x xs h)) (right (not (has x xs)) (distinct xs) d))

-- ---- entries by place

pub has_get_d : (xs : List ℕ) (i d : ℕ) → i < length xs → T (has (get_or xs i d) xs)
has_get_d [] i d h = absurd (not-suc-le-zero h)
has_get_d (x ∷ xs) zero d h = here x xs
has_get_d (x ∷ xs) (suc i) d h = there (get_or xs i d) x xs (has_get_d xs i d (le_of_suc-le-suc h))

-- where an entry stands
pub place-has : (x : ℕ) (xs : List ℕ) → T (has x xs) → (place x xs < length xs) × (get_or xs (place x xs) 0 ≡ x)
place-has x [] h = absurd h
place-has x (y ∷ ys) h = go (eqb x y) refl h (place-has x ys)
  where
    go : (c : Bool) → eqb x y ≡ c → T (c || has x ys) → (T (has x ys) → (place x ys < length ys) × (get_or ys (place x ys) 0 ≡ x))
        → (cond c 0 (suc (place x ys)) < suc (length ys)) × (get_or (y ∷ ys) (cond c 0 (suc (place x ys))) 0 ≡ x)
    go true q h r = (omega arith, sym (eqb→eq x y (holds q)))
    go false q h r = let u = r h in (omega arith, u.1)

-- the place that has the entry, if none before it has
pub place-first : (x : ℕ) (xs : List ℕ) (i : ℕ) → i < length xs → get_or xs i 0 ≡ x → ((j : ℕ) → j < i → get_or xs j 0 ≡ x → ⊥) → place x xs ≡ i
place-first x [] i h e u = absurd (not-suc-le-zero h)
place-first x (y ∷ ys) zero h e u = rw (eq-eqb x y (sym e))
place-first x (y ∷ ys) (suc i) h e u =
    rw (ne_eqb x y (λ q. u 0 (omega arith) (sym q)))
    (ap suc (place-first x ys i (le_of_suc-le-suc h) e (λ j l q. u (suc j) (omega arith) q)))

-- an entry that does not stand there
pub place-absent : (x : ℕ) (xs : List ℕ) → T (not (has x xs)) → place x xs ≡ length xs
place-absent x [] h = refl
place-absent x (y ∷ ys) h = go (eqb x y) h (place-absent x ys)
  where
    go : (c : Bool) → T (not (c || has x ys)) → (T (not (has x ys)) → place x ys ≡ length ys) → cond c 0 (suc (place x ys)) ≡ suc (length ys)
    go true h r = absurd h
    go false h r = ap suc (r h)

-- in a row whose entries differ, entry i stands at i
-- different entries differ at any two places
pub apart : (xs : List ℕ) (j i : ℕ) → T (distinct xs) → j < i → i < length xs → get_or xs j 0 ≡ get_or xs i 0 → ⊥
apart [] j i d l h e = not-suc-le-zero h
apart (x ∷ xs) j zero d l h e = not-suc-le-zero l
apart (x ∷ xs) zero (suc i) d l h e =
    T_not (has x xs) (left (not (has x xs)) (distinct xs) d)
    (subst (λ (y : ℕ). T (has y xs)) (sym e) (has_get_d xs i 0 (le_of_suc-le-suc h)))
apart (x ∷ xs) (suc j) (suc i) d l h e = apart xs j i (right (not (has x xs)) (distinct xs) d) (le_of_suc-le-suc l) (le_of_suc-le-suc h) e

pub place-get_or : (xs : List ℕ) (i : ℕ) → T (distinct xs) → i < length xs → place (get_or xs i 0) xs ≡ i
place-get_or xs i d h = place-first (get_or xs i 0) xs i h refl (λ j l e. apart xs j i d l h e)

-- entries that ascend differ
pub ascending-distinct : (xs : List ℕ) → T (ascending xs) → T (distinct xs)
ascending-distinct [] t = tt
ascending-distinct (x ∷ xs) t =
    pair (not (has x xs)) (distinct xs) (no (has x xs) refl) (ascending-distinct xs (right (all (λ y. ltb x y) xs) (ascending xs) t))
  where
    no : (b : Bool) → has x xs ≡ b → T (not b)
    no true e =
        let l : x < x = ltb→lt x x (all-has (λ y. ltb x y) xs (left (all (λ y. ltb x y) xs) (ascending xs) t) x (holds e)) in
        let w : ⊥ = omega arith in absurd w
    no false e = tt

-- ---- two rows that hold the same

pub same_refl : (xs : List ℕ) → T (same xs xs)
same_refl [] = tt
same_refl (x ∷ xs) = pair (eqb x x) (same xs xs) (holds (eq-eqb x x refl)) (same_refl xs)

pub same-eq : (xs ys : List ℕ) → T (same xs ys) → xs ≡ ys
same-eq [] [] t = refl
same-eq [] (y ∷ ys) t = absurd t
same-eq (x ∷ xs) [] t = absurd t
same-eq (x ∷ xs) (y ∷ ys) t =
    rw (eqb→eq x y (left (eqb x y) (same xs ys) t), same-eq xs ys (right (eqb x y) (same xs ys) t))
