-- `Registers::add_sequence` meets its contract. The loop's invariant: the entries of the blocks before have their terms added, and
-- the registers are as many terms on.
-- Assumes nothing.
use Rattle.std.proofs.Common.{ℕ, ◌≡◌, subst, ◌+◌, ◌-◌, ◌*◌, ◌/◌, length, arith, refl, ◌∙◌}
use Rattle.nr.specs.Scrambling.{after}
use Rattle.scrambling.proofs.Ahead.{On, further}
use Rattle.scrambling.proofs.Added.{added, added_none, added-all, part-bits, part-added}
use Rattle.scrambling.proofs.Registers.add_sequence.Goals as goal

pub loop-block-init : goal.loop-block-init
unfolding after
loop-block-init c =
    let a = c.args in
    (added_none a.row.now a.self.x1 a.self.x2, (refl, refl))

pub loop-block-preserved : goal.loop-block-preserved
loop-block-preserved c =
    let t = c.loop-block in
    let a = c.args in
    let at = 16 * t.block in (
      part-added a.row.now a.self.x1 a.self.x2 at (at + 16 - at) (16 * (t.block + 1)) t.row
          (omega arith) (omega arith) t.invariant.0 c.add_terms.new.row t.invariant.1.0 t.invariant.1.1 c.add_terms.ensures,
      further at 16 (16 * (t.block + 1)) a.self t.state c.ahead-state.result (omega arith) t.invariant.1 c.ahead-state.ensures,
    )

pub add_terms-requires-clause-bits : goal.add_terms-requires-clause-bits
add_terms-requires-clause-bits c =
    let a = c.args in
    let t = c.loop-block in
    part-bits a.row.now a.self.x1 a.self.x2 (16 * t.block) _ _ t.row t.invariant.0 c.requires

pub add_terms-requires-2-clause-bits : goal.add_terms-requires-2-clause-bits
add_terms-requires-2-clause-bits c =
    let a = c.args in
    let t = c.loop-block in
    part-bits a.row.now a.self.x1 a.self.x2 (16 * t.block) _ _ t.row t.invariant.0 c.requires

pub returns : goal.returns
returns c =
    let a = c.args in
    let t = c.loop-block in
    let m = 16 * (length a.row.now / 16) in
    let last : t.block ≡ length a.row.now / 16 = omega arith in
    let i = subst (λ (k : ℕ). (t.row ≡ added a.row.now a.self.x1 a.self.x2 (16 * k)) × On (16 * k) a.self t.state) last t.invariant in
    part-added a.row.now a.self.x1 a.self.x2 m (length t.row - m) (length a.row.now) t.row
    (omega arith) (omega arith) i.0 c.add_terms-2.new.row i.1.0 i.1.1 c.add_terms-2.ensures
    ∙ added-all a.row.now a.self.x1 a.self.x2
