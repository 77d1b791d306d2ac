-- The window of each kind of rate matching admits the positions below N that are not barred.
-- Assumes nothing.
use Prim.Native.Nat.{ℕ, ◌+◌, ◌-◌, ◌*◌, ◌/◌, ◌^◌, ◌≤◌, ◌<◌}
use native.Mathlib.Nat.{lt_of_not-le, not-suc-le-zero}
use native.Mathlib.Decide.{dec_le}
use native.Mathlib.Omega.{arith}
use mathlib.Core.Path.{◌≡◌, sym, subst, ap, ◌∙◌}
use mathlib.Core.Logic.{inl, inr}
use mathlib.Core.Bool.{Bool, not, cond, ◌&&◌}
use mathlib.Core.List.{List, [], ◌++◌, map}
use lib.Dec.{T, leb, ltb, ltb→lt, lt→ltb, leb→le, le→leb, T_not, not_T}
use borrow.Author.Tests.{le-leb}
use Rattle.nr.specs.declared.RateMatching.TheVariants.{Repetition, Puncturing, Shortening}
use Rattle.nr.specs.Rows.{count, has}
use Rattle.nr.specs.Construction.{J, unsent, front, barred, rank}
use Rattle.nr.proofs.Tests.{left, right, pair, alike, has-count}
use Rattle.nr.proofs.Rows.{ranged, has_left, has_right, has_either}
use Rattle.nr.proofs.SubBlocks.{rank_lt, found, finds}
use Rattle.admission.specs.declared.Window.{Window}
use Rattle.admission.specs.Window.{usable, admits}

unless : {a b : ℕ} → (a < b → ⊥) → b ≤ a
unless {a} {b} f = elim (dec_le b a) [ yes m ↦ m | no m ↦ absurd (f (lt_of_not-le m)) ]

unless' : {a b : ℕ} → (b ≤ a → ⊥) → a < b
unless' f = lt_of_not-le f

module _ (n : ℕ) (h : 5 ≤ n) where
  whole : n - 5 + 5 ≡ n
  whole = omega arith

  -- the laws of the sub-block order, for N = 2 ^ n
  below : (p : ℕ) → p < 2 ^ n → rank (n - 5) p < 2 ^ n
  below = subst (λ (m : ℕ). (p : ℕ) → p < 2 ^ m → rank (n - 5) p < 2 ^ m) whole (rank_lt (n - 5))

  inside : (a l : ℕ) → a + l ≤ 2 ^ n → (p : ℕ) → T (has p (map (J (2 ^ n)) (count a l))) → (a ≤ rank (n - 5) p) × (rank (n - 5) p < a + l)
  inside = subst (λ (m : ℕ). (a l : ℕ) → a + l ≤ 2 ^ m → (p : ℕ) → T (has p (map (J (2 ^ m)) (count a l))) → (a ≤ rank (n - 5) p) × (rank (n - 5) p < a + l)) whole (found (n - 5))

  there : (a l p : ℕ) → p < 2 ^ n → a ≤ rank (n - 5) p → rank (n - 5) p < a + l → T (has p (map (J (2 ^ n)) (count a l)))
  there = subst (λ (m : ℕ). (a l p : ℕ) → p < 2 ^ m → a ≤ rank (n - 5) p → rank (n - 5) p < a + l → T (has p (map (J (2 ^ m)) (count a l)))) whole (finds (n - 5))

  -- a window and a row of barred positions that say the same of each position below N
  record Same (w : Window) (bars : List ℕ) : Type 0 where
    early : (p : ℕ) → p < 2 ^ n → p < w.front → T (has p bars)
    low : (p : ℕ) → p < 2 ^ n → rank (n - 5) p < w.lo → T (has p bars)
    high : (p : ℕ) → p < 2 ^ n → w.hi ≤ rank (n - 5) p → T (has p bars)
    free : (p : ℕ) → w.front ≤ p → w.lo ≤ rank (n - 5) p → rank (n - 5) p < w.hi → T (has p bars) → ⊥

  module _ (w : Window) (bars : List ℕ) (s : Same w bars) (p : ℕ) where
    abbrev r : ℕ
    r = rank (n - 5) p

    -- the tests of `admits`: below N, and in the window, by its front and by its ranks
    abbrev in_n : Bool
    in_n = ltb p (2 ^ n)

    abbrev in_ranks : Bool
    in_ranks = leb w.lo r && ltb r w.hi

    abbrev in_window : Bool
    in_window = leb w.front p && in_ranks

    abbrev clear : Bool
    clear = not (has p bars)

    -- what the window lets through is not barred
    kept : T (in_n && in_window) → T (in_n && clear)
    kept t =
        let t₁ = right in_n in_window t in
        let t₂ = right (leb w.front p) in_ranks t₁ in
        pair in_n clear (left in_n in_window t)
        (not_T (has p bars)
        (s.free p (leb→le w.front p (left (leb w.front p) in_ranks t₁))
        (leb→le w.lo r (left (leb w.lo r) (ltb r w.hi) t₂)) (ltb→lt r w.hi (right (leb w.lo r) (ltb r w.hi) t₂))))

    -- what is not barred goes through
    through : T (in_n && clear) → T (in_n && in_window)
    through t =
        let l : p < 2 ^ n = ltb→lt p (2 ^ n) (left in_n clear t) in
        let u : T (has p bars) → ⊥ = T_not (has p bars) (right in_n clear t) in
        pair in_n in_window (left in_n clear t)
        (pair (leb w.front p) in_ranks (le→leb w.front p (unless (λ x. u (s.early p l x))))
        (pair (leb w.lo r) (ltb r w.hi) (le→leb w.lo r (unless (λ x. u (s.low p l x)))) (lt→ltb r w.hi (unless' (λ x. u (s.high p l x))))))

    same : admits n w p ≡ (in_n && clear)
    unfolding admits
    same = alike _ _ kept through

  -- ---- the three kinds

  module _ (E : ℕ) where
    abbrev N : ℕ
    N = 2 ^ n

    pub repetition : (p : ℕ) → admits n (record { front = 0; lo = 0; hi = N }) p ≡ usable Repetition N E p
    unfolding barred unsent front
    repetition = same (record { front = 0; lo = 0; hi = N }) [] (record {
      early = λ p l x. absurd (not-suc-le-zero x);
      low = λ p l x. absurd (not-suc-le-zero x);
      high = λ p l x. let b = below p l in let z : ⊥ = omega arith in absurd z;
      free = λ p a b c t. t;
    })

    pub puncturing : E ≤ N → 3 * N ≤ 4 * E → (p : ℕ) → admits n (record { front = (3 * N - 2 * E + 3) / 4; lo = N - E; hi = N }) p ≡ usable Puncturing N E p
    unfolding barred unsent front
    puncturing l q p =
        same (record { front = f; lo = N - E; hi = N }) bars (record {
          early = λ p m x. has_right p sent (count 0 f) (has-count 0 f p (omega arith) (omega arith));
          low = λ p m x. has_left p sent (count 0 f) (there 0 (N - E) p m (omega arith) (omega arith));
          high = λ p m x. let b = below p m in let z : ⊥ = omega arith in absurd z;
          free = λ p a b c t. elim (has_either p sent (count 0 f) t) [
            | inl u ↦ let i = inside 0 (N - E) (omega arith) p u in omega arith
            | inr u ↦ let i = ranged 0 f p u in omega arith
          ];
        }) p
        ∙ ap (λ (b : Bool). ltb p N && not (has p (sent ++ count 0 (cond b f ((9 * N - 4 * E + 15) / 16))))) (sym (le-leb (3 * N) (4 * E) q))
      where
        f : ℕ
        f = (3 * N - 2 * E + 3) / 4

        sent : List ℕ
        sent = map (J N) (count 0 (N - E))

        bars : List ℕ
        bars = sent ++ count 0 f

    pub shortening : E ≤ N → (p : ℕ) → admits n (record { front = 0; lo = 0; hi = E }) p ≡ usable Shortening N E p
    unfolding barred unsent front
    shortening l = same (record { front = 0; lo = 0; hi = E }) (map (J N) (count E (N - E)) ++ []) (record {
      early = λ p m x. absurd (not-suc-le-zero x);
      low = λ p m x. absurd (not-suc-le-zero x);
      high = λ p m x. has_left p (map (J N) (count E (N - E))) [] (there E (N - E) p m x (let b = below p m in omega arith));
      free = λ p a b c t. elim (has_either p (map (J N) (count E (N - E))) [] t) [
        | inl u ↦ let i = inside E (N - E) (omega arith) p u in omega arith
        | inr u ↦ u
      ];
    })
