-- The bits that each kind of rate matching sends, as parts of y.
-- Assumes nothing.
use Prim.Native.Nat.{ℕ, ◌+◌, ◌-◌, ◌≤◌, ◌<◌}
use native.Mathlib.Omega.{arith}
use mathlib.Core.Path.{◌≡◌, sym, subst, ap, ◌∙◌}
use mathlib.Core.List.{List, map}
use lib.ListN.{length, get_or, take, drop, length-drop}
use lib.Seq.{length-take-le, get_or-take, get_or-drop, ext_get_or}
use Rattle.nr.specs.declared.RateMatching.{RateMatching}
use Rattle.nr.specs.declared.RateMatching.TheVariants.{Repetition, Puncturing, Shortening}
use Rattle.nr.specs.Rows.{count, entries}
use Rattle.nr.specs.RateMatching.{sub_blocks, selected, select, Fits}
use Rattle.nr.proofs.Rows.{length-picked, get_d_picked}
use Rattle.nr.proofs.Matching.{length-sub_blocks}
use Rattle.rate_matching.proofs.Pieces.{cycle}

-- E entries from place a on are a part
picked-part : (f : ℕ → ℕ) (a E : ℕ) (y : List ℕ) → a + E ≤ length y → ((k : ℕ) → k < E → f k ≡ a + k) → entries (map f (count 0 E)) y ≡ take E (drop a y)
picked-part f a E y h e =
    ext_get_or 0 (entries (map f (count 0 E)) y) (take E (drop a y))
    (length-picked f E y ∙ sym (length-take-le E (drop a y) (rw length-drop (omega arith))))
    (λ k l.
    let m : k < E = subst (λ (n : ℕ). k < n) (length-picked f E y) l in
    get_d_picked f E y k m ∙ ap (λ (j : ℕ). get_or y j 0) (e k m) ∙ sym (get_or-take E (drop a y) k 0 m ∙ get_or-drop a y k 0))

-- what is asked of the lengths, at the kind that the match found
pub fitting : (N E : ℕ) {kind found : RateMatching} → kind ≡ found → Fits kind N E → Fits found N E
fitting N E e s = subst (λ (k : RateMatching). Fits k N E) e s

module _ (y : List ℕ) (E : ℕ) where
  -- the sent bits
  abbrev pub sent : RateMatching → List ℕ
  sent kind = entries (map (selected kind (length y) E) (count 0 E)) y

  module _ {kind : RateMatching} where
    -- repetition: y over and over
    pub sent-repetition : kind ≡ Repetition → sent kind ≡ cycle y E
    unfolding selected
    sent-repetition e = ap sent e

    -- puncturing: y's end
    pub sent-puncturing : kind ≡ Puncturing → E ≤ length y → sent kind ≡ take (length y - (length y - E)) (drop (length y - E) y)
    unfolding selected
    sent-puncturing e l =
        let n : E ≡ length y - (length y - E) = omega arith in
        ap sent e ∙ picked-part (selected Puncturing (length y) E) (length y - E) E y (omega arith) (λ k m. omega arith)
        ∙ ap (λ (k : ℕ). take k (drop (length y - E) y)) n

    -- shortening: y's front
    pub sent-shortening : kind ≡ Shortening → E ≤ length y → sent kind ≡ take E y
    unfolding selected
    sent-shortening e l = ap sent e ∙ picked-part (selected Shortening (length y) E) 0 E y (omega arith) (λ k m. omega arith)

-- ---- the code word in sub-block order

module _ (N : ℕ) (d : List ℕ) {y : List ℕ} (is : y ≡ sub_blocks N d) where
  -- it has N bits
  pub ordered-length : length y ≡ N
  ordered-length = ap length is ∙ length-sub_blocks N d

  -- the sent ones
  pub selects : (kind : RateMatching) (E : ℕ) → sent y E kind ≡ select kind N E d
  unfolding select
  selects kind E =
      ap (λ (y : List ℕ). sent y E kind) is
      ∙ ap (λ (n : ℕ). entries (map (selected kind n E) (count 0 E)) (sub_blocks N d)) (length-sub_blocks N d)
