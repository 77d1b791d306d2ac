-- The registers some terms on.
-- Assumes nothing.
use Prim.Native.Nat.{ℕ, ◌+◌}
use mathlib.Core.Path.{◌≡◌, ap, ◌∙◌}
use Rattle.nr.specs.Scrambling.{step1, step2, after}
use Rattle.nr.proofs.Scrambling.{after-after}
use Rattle.scrambling.specs.declared.Registers.{Registers}

-- r is m terms on from s
abbrev pub On : ℕ → Registers → Registers → Type 0
On m s r = (r.x1 ≡ after step1 m s.x1) × (r.x2 ≡ after step2 m s.x2)

-- and what is k terms on from there
pub further : (m k n : ℕ) (s r t : Registers) → m + k ≡ n → On m s r → On k r t → On n s t
further m k n s r t e p q = (
  q.0 ∙ ap (after step1 k) p.0 ∙ after-after step1 m k s.x1 ∙ ap (λ (i : ℕ). after step1 i s.x1) e,
  q.1 ∙ ap (after step2 k) p.1 ∙ after-after step2 m k s.x2 ∙ ap (λ (i : ℕ). after step2 i s.x2) e,
)
