-- `admission::exponent` meets its contract.
-- Assumes nothing.
use native.Mathlib.Omega.{arith}
use Rattle.std.proofs.lemmas.Bool.Decides.{nat_tests}
use Rattle.admission.proofs.Sizes.{listed-is}
use Rattle.admission.proofs.exponent.Goals as goal

pub returns : goal.returns
returns c =
    let h = listed-is c.args.e c.requires in
    grind (arith, nat_tests, h)
