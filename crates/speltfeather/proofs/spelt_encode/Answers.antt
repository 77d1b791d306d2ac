-- `speltfeather::spelt_encode` meets its contract.
-- Assumes nothing.
use native.Mathlib.Omega.{arith}
use mathlib.Core.Path.{◌≡◌, ap, ◌∙◌}
use Rattle.nr.specs.declared.Numbers.{Numbers}
use Rattle.nr.specs.Coding.{coding}
use Rattle.nr.proofs.Promise1.{coding-place}
use Rattle.speltfeather.specs.Packed.{numbers}
use Rattle.speltfeather.proofs.Packing.{done-returned, refused-returned, refused-small}
use Rattle.speltfeather.proofs.spelt_encode.Goals as goal
use Rattle.speltfeather.proofs.spelt_encode.Goals.{After-encode}

-- the numbers are those that C passes, in their order
asked : (c : After-encode) → let a = c.args in
    coding c.as_numbers.result a.payload.now a.out.now ≡ coding (numbers a.a a.e a.rnti a.n_id a.n_rnti) a.payload.now a.out.now
asked c = ap (λ (s : Numbers). coding s c.args.payload.now c.args.out.now) c.as_numbers.ensures

pub returns-in-Ok : goal.returns-in-Ok
returns-in-Ok c = done-returned _ (c.in-Ok.ensures ∙ asked (goal.at.returns-in-Ok c).After-encode)

pub returns-in-Err : goal.returns-in-Err
returns-in-Err c =
    refused-returned _ _ _ (c.in-Err.ensures ∙ asked (goal.at.returns-in-Err c).After-encode) c.pack.result c.pack.ensures

pub pack-requires : goal.pack-requires
pack-requires c =
    refused-small _ c.in-Err.refusal c.encode.new.out c.in-Err.ensures
    (omega (arith, coding-place c.as_numbers.result c.args.payload.now c.args.out.now))
