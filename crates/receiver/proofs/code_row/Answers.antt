-- `receiver::code_row` meets its contract.
-- Assumes nothing.
use Prim.Native.Nat.{ℕ, ◌≤◌, ◌^◌}
use mathlib.Core.Path.{sym, subst, ap, ◌∙◌}
use lib.IntN.{pos}
use lib.ListN.{length}
use Rattle.nr.specs.RateMatching.{Fits}
use Rattle.nr.specs.Rows.{Within}
use Rattle.nr.proofs.SoftRows.{descramble-within}
use Rattle.rows.proofs.Parts.{front-back, front-size}
use Rattle.receiver.proofs.code_row.Goals as goal

-- the descrambled values come back in the part of the row that is lent
pub gather-requires : goal.gather-requires
gather-requires c =
    let code = c.args.code.now in
    let soft = c.args.soft.now in
    let fits = c.requires.fits in
    let back-size = c.negate.auto.out ∙ front-size (length soft) 1728 (pos 0) fits.1 in
    let lent = front-back c.negate.new.out _ (length soft) back-size in
    let size = ap length lent ∙ back-size in (
      subst (Fits code.kind (2 ^ code.length.n)) (sym size) fits.0,
      c.requires.lengths.1,
      subst (λ (e : ℕ). e ≤ 1728) (sym size) fits.1,
      subst (Within 127) (sym (lent ∙ c.negate.ensures)) (descramble-within 127 c.args.sequence.now soft fits.2),
    )
