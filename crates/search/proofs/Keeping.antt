-- What a search keeps between candidates: the code, and the terms of the scrambling sequence.
-- Assumes nothing.
use Prim.Native.Nat.{ℕ, ◌≤◌}
use mathlib.Core.Path.{◌≡◌, subst, ap, ◌∙◌}
use mathlib.Core.List.{List, ◌++◌}
use lib.ListN.{length, take, drop}
use lib.Seq.{take_at, length-take-le}
use Rattle.nr.specs.Numbers.{K}
use Rattle.nr.specs.Construction.{layout}
use Rattle.nr.specs.Scrambling.{gold}
use Rattle.nr.proofs.Scrambling.{length-gold}
use Rattle.rows.proofs.Parts.{front-room}
use Rattle.construction.specs.Shapes.{Lays}
use Rattle.search.specs.declared.kept.Kept.{Kept}

-- the code that was kept is that of A and E, where they are the same
pub same_code : (made : Kept) (A E : ℕ) → made.sizes.a ≡ A → made.sizes.e ≡ E → Lays (layout (K A) E) made.code
same_code made A E a e =
    subst (λ (A : ℕ). Lays (layout (K A) E) made.code) a (subst (λ (E : ℕ). Lays (layout (K made.sizes.a) E) made.code) e made.lays)

-- the terms made anew at the front of a row
pub made-ready : (start e : ℕ) (row : List ℕ) → e ≤ length row → (new : List ℕ) → new ≡ gold start (length (take e row))
    → (e ≤ length (new ++ drop e row)) × (take e (new ++ drop e row) ≡ gold start e)
made-ready start e row l new is =
    let g : new ≡ gold start e = is ∙ ap (gold start) (length-take-le e row l) in
    let size : length new ≡ e = ap length g ∙ length-gold start e in
    (front-room new (drop e row) e size, take_at new (drop e row) e size ∙ g)
