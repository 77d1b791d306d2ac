-- `speltfeather::spelt_decode` meets its contract.
-- Assumes nothing.
use native.Mathlib.Omega.{arith}
use mathlib.Core.Path.{ap, ◌∙◌}
use Rattle.nr.specs.declared.Numbers.{Numbers}
use Rattle.nr.specs.Decoding.{decoding}
use Rattle.nr.proofs.Promise1.{decoding-place}
use Rattle.speltfeather.proofs.Packing.{counted-returned, counted-small}
use Rattle.speltfeather.proofs.spelt_decode.Goals as goal

pub returns : goal.returns
returns c =
    let a = c.args in
    counted-returned c.decode-decoded.result c.decode-decoded.new.out
    (c.decode-decoded.ensures ∙ ap (λ (s : Numbers). decoding s a.soft.now a.out.now) c.as_numbers.ensures) c.pack_counted.result c.pack_counted.ensures

pub pack_counted-requires : goal.pack_counted-requires
pack_counted-requires c =
    let a = c.args in
    counted-small c.decode-decoded.result c.decode-decoded.new.out c.decode-decoded.ensures
    (omega (arith, decoding-place c.as_numbers.result a.soft.now a.out.now))
