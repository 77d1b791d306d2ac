-- `parity::matches` meets its contract.
-- Assumes nothing.
use Prim.Native.Nat.{ℕ, ◌-◌}
use native.Mathlib.Omega.{arith}
use mathlib.Core.Path.{subst}
use mathlib.Core.List.{List}
use lib.ListN.{length}
use Rattle.parity.specs.Register.{Holds}
use Rattle.parity.proofs.Register.{rest, matched}
use Rattle.parity.proofs.matches.Goals as goal

pub returns : goal.returns
returns c =
    let row = c.args.row.now in
    let A = length row - 24 in
    rw c.from.ensures (matched A row c.parity.result c.read_bits-last.result c.args.rnti (omega arith) c.requires.1 c.parity.ensures
    (subst (λ (r : List ℕ). Holds r c.read_bits-last.result) (rest A row) c.read_bits-last.ensures) c.ranges.rnti.fits)
