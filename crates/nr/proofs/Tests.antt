-- Tests that the checker computes over a row, and what a passed test says of each entry.
-- Assumes nothing.
use Prim.Native.Nat.{ℕ, zero, suc, ◌+◌, ◌≤◌, ◌<◌}
use native.Mathlib.Omega.{arith}
use mathlib.Core.Path.{◌≡◌, refl, sym, subst}
use mathlib.Core.Logic.{◌⊎◌, inl, inr, ◌↔◌}
use mathlib.Core.Bool.{Bool, true, false, not, ◌&&◌, ◌||◌}
use mathlib.Core.List.{List, [], ◌∷◌}
use lib.Dec.{T, eqb, eqb→eq, eqb_refl}
use borrow.Author.Tests.{eqb-false}
use Rattle.nr.specs.Rows.{count, has, all}

-- no entry stands twice
abbrev pub distinct : List ℕ → Bool
distinct [] = true
distinct (x ∷ xs) = not (has x xs) && distinct xs

-- ---- truth of a test

pub left : (a b : Bool) → T (a && b) → T a
left true b t = tt
left false b t = t

pub right : (a b : Bool) → T (a && b) → T b
right true b t = t
right false b t = absurd t

pub pair : (a b : Bool) → T a → T b → T (a && b)
pair true b t u = u
pair false b t u = t

pub or_left : (a b : Bool) → T a → T (a || b)
or_left true b t = tt
or_left false b t = absurd t

pub or_right : (a b : Bool) → T b → T (a || b)
or_right true b t = tt
or_right false b t = t

pub is : (b : Bool) → T b → b ≡ true
is true t = refl
is false t = absurd t

pub isn't : (b : Bool) → T (not b) → b ≡ false
isn't true t = absurd t
isn't false t = refl

-- what does not follow from a test that fails, fails
pub off : (b c : Bool) → T (not b) → (T c → T b) → T (not c)
off true c t r = absurd t
off false true t r = r tt
off false false t r = tt

pub holds : {b : Bool} → b ≡ true → T b
holds e = subst T (sym e) tt

-- two tests that pass alike
pub alike : (a b : Bool) → (T a → T b) → (T b → T a) → a ≡ b
alike true true f g = refl
alike true false f g = absurd (f tt)
alike false true f g = absurd (g tt)
alike false false f g = refl

pub clash : {X : Type 0} {b : Bool} → b ≡ true → b ≡ false → X
clash {X} {b} e e' = absurd (subst T e' (holds e))

pub either : (a b : Bool) → a || b ≡ true → (a ≡ true) ⊎ (b ≡ true)
either true b e = inl refl
either false b e = inr e

pub neither : (a b : Bool) → (a || b ≡ false) ↔ ((a ≡ false) × (b ≡ false))
neither true b = (λ e. clash refl e, λ n. n.0)
neither false b = (λ e. (refl, e), λ n. n.1)

-- both of two tests pass exactly where each does
pub both-pass : (a b : Bool) → (a && b ≡ true) ↔ ((a ≡ true) × (b ≡ true))
both-pass true b = (λ e. (refl, e), λ p. p.1)
both-pass false b = (λ e. clash e refl, λ p. p.0)

-- and both fail exactly where each says so
pub both-fail : {a b : Bool} {P Q : Type 0} → ((a ≡ false) ↔ P) → ((b ≡ false) ↔ Q) → (a || b ≡ false) ↔ (P × Q)
both-fail {a} {b} p q = (λ e. let n = (neither a b).0 e in (p.0 n.0, q.0 n.1), λ h. (neither a b).1 (p.1 h.0, q.1 h.1))

-- a test that cannot pass fails
pub fails : (b : Bool) → (b ≡ true → ⊥) → b ≡ false
fails true n = absurd (n refl)
fails false n = refl

-- ---- entries

pub here : (x : ℕ) (xs : List ℕ) → T (has x (x ∷ xs))
here x xs = or_left (eqb x x) (has x xs) (eqb_refl x)

pub there : (x y : ℕ) (xs : List ℕ) → T (has x xs) → T (has x (y ∷ xs))
there x y xs h = or_right (eqb x y) (has x xs) h

pub cases : (x y : ℕ) (xs : List ℕ) → T (has x (y ∷ xs)) → (x ≡ y) ⊎ T (has x xs)
cases x y xs h = go (eqb x y) refl h
  where
    go : (c : Bool) → eqb x y ≡ c → T (c || has x xs) → (x ≡ y) ⊎ T (has x xs)
    go true q h = inl (eqb→eq x y (holds q))
    go false q h = inr h

-- x is one of them, written out
abbrev pub OneOf : ℕ → List ℕ → Type 0
OneOf x [] = ⊥
OneOf x (y ∷ []) = x ≡ y
OneOf x (y ∷ z ∷ zs) = (x ≡ y) ⊎ OneOf x (z ∷ zs)

pub one_of : (x : ℕ) (xs : List ℕ) → T (has x xs) → OneOf x xs
one_of x [] h = absurd h
one_of x (y ∷ []) h = elim (cases x y [] h) [ inl e ↦ e | inr u ↦ absurd u ]
one_of x (y ∷ z ∷ zs) h = elim (cases x y (z ∷ zs) h) [ inl e ↦ inl e | inr u ↦ inr (one_of x (z ∷ zs) u) ]

pub has_one : (x : ℕ) (xs : List ℕ) → OneOf x xs → T (has x xs)
has_one x [] h = absurd h
has_one x (y ∷ []) e = subst (λ (z : ℕ). T (has x (z ∷ []))) e (here x [])
has_one x (y ∷ z ∷ zs) (inl e) = subst (λ (w : ℕ). T (has x (w ∷ z ∷ zs))) e (here x (z ∷ zs))
has_one x (y ∷ z ∷ zs) (inr u) = there x y (z ∷ zs) (has_one x (z ∷ zs) u)

-- what a passed test says of an entry
pub all-has : (f : ℕ → Bool) (xs : List ℕ) → T (all f xs) → (x : ℕ) → T (has x xs) → T (f x)
all-has f [] t x h = absurd h
all-has f (y ∷ ys) t x h = elim (cases x y ys h) [
  | inl e ↦ subst (λ (z : ℕ). T (f z)) (sym e) (left (f y) (all f ys) t)
  | inr u ↦ all-has f ys (right (f y) (all f ys) t) x u
]

pub all_from : (f : ℕ → Bool) (xs : List ℕ) → ((x : ℕ) → T (has x xs) → T (f x)) → T (all f xs)
all_from f [] e = tt
all_from f (x ∷ xs) e = pair (f x) (all f xs) (e x (here x xs)) (all_from f xs (λ p h. e p (there p x xs h)))

pub has-count : (a k x : ℕ) → a ≤ x → x < a + k → T (has x (count a k))
has-count a zero x l h = let z : ⊥ = omega arith in absurd z
has-count a (suc k) x l h = go (eqb x a) refl (λ (m : suc a ≤ x). has-count (suc a) k x m (omega arith))
  where
    go : (c : Bool) → eqb x a ≡ c → (suc a ≤ x → T (has x (count (suc a) k))) → T (c || has x (count (suc a) k))
    go true q r = tt
    go false q r = let ne : x ≡ a → ⊥ = eqb-false x a q in r (omega (arith, ne))

-- what a test that all of a range passes says of a number in it
pub all-count : (f : ℕ → Bool) (a k : ℕ) → T (all f (count a k)) → (x : ℕ) → a ≤ x → x < a + k → T (f x)
all-count f a k t x l h = all-has f (count a k) t x (has-count a k x l h)
