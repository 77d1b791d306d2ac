-- `parity::attach` meets its contract.
-- Assumes nothing.
use Prim.Native.Nat.{ℕ}
use mathlib.Core.Path.{ap, ap₂, ◌∙◌}
use mathlib.Core.List.{List, ◌++◌}
use lib.ListN.{length}
use Rattle.nr.specs.Parity.{parity, attach}
use Rattle.rows.proofs.Parts.{two-parts}
use Rattle.parity.proofs.Register.{masked}
use Rattle.parity.proofs.attach.Goals as goal

pub returns : goal.returns
unfolding attach
returns c =
    let payload = c.args.payload.now in
    two-parts c.copy.new.to _ c.write_bits.new.row (length payload) (ap length c.copy.ensures)
    ∙ ap₂ (λ (x y : List ℕ). x ++ y) c.copy.ensures c.write_bits.ensures
    ∙ (rw c.from.ensures (masked payload (parity payload) c.parity.result c.args.rnti c.requires.1 c.parity.ensures c.ranges.rnti.fits))
