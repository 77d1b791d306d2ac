-- `speltfeather::spelt_loopback` meets its contract.
-- Assumes nothing.
use mathlib.Core.Path.{ap, ◌∙◌}
use Rattle.nr.specs.declared.Numbers.{Numbers}
use Rattle.nr.specs.Loopback.{looped}
use Rattle.nr.proofs.Loopback.{looped-place}
use Rattle.speltfeather.proofs.Packing.{counted-returned, counted-small}
use Rattle.speltfeather.proofs.spelt_loopback.Goals as goal

pub returns : goal.returns
returns c =
    let a = c.args in
    counted-returned c.loopback-looped.result c.loopback-looped.new.out
    (c.loopback-looped.ensures ∙ ap (λ (s : Numbers). looped s a.payload.now a.strengths.now a.out.now) c.as_numbers.ensures) c.pack_counted.result c.pack_counted.ensures

pub pack_counted-requires : goal.pack_counted-requires
pack_counted-requires c =
    let a = c.args in
    counted-small c.loopback-looped.result c.loopback-looped.new.out c.loopback-looped.ensures
    (looped-place c.as_numbers.result a.payload.now a.strengths.now a.out.now)
