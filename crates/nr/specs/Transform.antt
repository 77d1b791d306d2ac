-- Document 01, "Transform, selection, scrambling": d is u times the n-fold Kronecker power of rows (1 0), (1 1).
-- Assumes nothing.
use Rattle.std.specs.Prelude.{ℕ, zero, suc, ◌^◌, List, ◌++◌, take, drop}
use Rattle.nr.specs.Rows.{xors}

-- With u = (u₁, u₂) and F the (n-1)-fold power, the n-fold power has rows (F 0), (F F), so that u times it is
-- (u₁ F + u₂ F, u₂ F). No bit reversal.
unfoldable pub transform : ℕ → List ℕ → List ℕ
transform zero u = u
transform (suc n) u =
    let p : List ℕ = transform n (take (2 ^ n) u) in
    let q : List ℕ = transform n (drop (2 ^ n) u) in
    xors p q ++ q
