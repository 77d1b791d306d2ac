-- `speltfeather::spelt_describe` meets its contract.
-- Assumes nothing.
use native.Mathlib.Omega.{arith}
use Rattle.nr.proofs.Describing.{describing-place}
use Rattle.speltfeather.proofs.Packing.{done-returned, refused-returned, refused-small}
use Rattle.speltfeather.proofs.spelt_describe.Goals as goal

pub returns-in-Ok : goal.returns-in-Ok
returns-in-Ok c = done-returned _ c.in-Ok.ensures

pub returns-in-Err : goal.returns-in-Err
returns-in-Err c = refused-returned _ _ _ c.in-Err.ensures c.pack.result c.pack.ensures

pub pack-requires : goal.pack-requires
pack-requires c =
    refused-small _ c.in-Err.refusal c.describe.new.out c.in-Err.ensures (omega (arith, describing-place c.args.a c.args.e c.args.out.now))
