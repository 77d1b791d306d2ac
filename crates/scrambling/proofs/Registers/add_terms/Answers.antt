-- `Registers::add_terms` meets its contract. The loop's invariant: the first i entries have their terms added.
-- Assumes nothing.
use lib.Bits.{bit_xor}
use Rattle.std.proofs.Common.{◌≡◌, length, arith, ap, ◌∙◌}
use Rattle.scrambling.proofs.Added.{added, added_none, added-one, added-all}
use Rattle.scrambling.proofs.Nibbles.{read-bit}
use Rattle.scrambling.proofs.Registers.add_terms.Goals as goal

pub loop-i-init : goal.loop-i-init
loop-i-init c =
    let a = c.args in
    added_none a.row.now a.self.x1 a.self.x2

pub loop-i-preserved : goal.loop-i-preserved
loop-i-preserved c =
    let t = c.loop-i in
    let a = c.args in
    added-one a.row.now a.self.x1 a.self.x2 t.i _ t.row c.requires.bits (omega arith) (omega arith) t.invariant
    (read-bit (bit_xor a.self.x1 a.self.x2) t.i)

pub returns : goal.returns
returns c =
    let a = c.args in
    let e : c.loop-i.i ≡ length a.row.now = omega arith in
    c.loop-i.invariant ∙ ap (added a.row.now a.self.x1 a.self.x2) e ∙ added-all a.row.now a.self.x1 a.self.x2
