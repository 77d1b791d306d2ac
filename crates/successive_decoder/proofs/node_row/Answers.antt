-- `successive_decoder::node_row` meets its contract.
-- Assumes nothing.
use Prim.Native.Nat.{ℕ, ◌+◌, ◌*◌}
use native.Mathlib.Omega.{arith}
use borrow.Author.Rules.{rules}
use mathlib.Core.Path.{◌≡◌, ap}
use mir.Syntax.{w32}
use mir.Val.{SFits}
use lib.IntN.{pos}
use lib.ListN.{get_or}
use Rattle.successive_decoder.proofs.Levels.{handed, taken, kept_at, making-more}
use Rattle.successive_decoder.proofs.node_row.Goals as goal

pub loop-i-preserved : goal.loop-i-preserved
loop-i-preserved g c =
    let l = c.loop-i in
    let m = l.invariant in
    let h = c.args.half in
    let a : SFits w32 (get_or l.work (2 * h + l.i) (pos 0)) = search rules in
    let b : SFits w32 (get_or l.work (3 * h + l.i) (pos 0)) = search rules in
    making-more m (omega arith) (omega arith) c.node-in-loop-i.result (search rules)
    (taken (λ x y. goal.F-post g c.args.node l.i x y c.node-in-loop-i.result) _ _ _ _ a b (kept_at m (2 * h + l.i) (omega arith)) (kept_at m (3 * h + l.i) (omega arith)) c.node-in-loop-i.ensures)

pub node-requires : goal.node-requires
node-requires g c =
    let w = c.args.work.now in
    let h = c.args.half in
    let a : SFits w32 (get_or w 2 (pos 0)) = search rules in
    let b : SFits w32 (get_or w 3 (pos 0)) = search rules in
    let second : 2 ≡ 2 * h + 0 = omega arith in
    let third : 3 ≡ 3 * h + 0 = omega arith in
    handed (λ x y. goal.F-pre g c.args.node 0 x y) _ _ _ _ a b (ap (λ (k : ℕ). get_or w k (pos 0)) second) (ap (λ (k : ℕ). get_or w k (pos 0)) third)
    (c.requires.callable 0 (omega arith))

pub node-requires-in-loop-i : goal.node-requires-in-loop-i
node-requires-in-loop-i g c =
    let l = c.loop-i in
    let m = l.invariant in
    let h = c.args.half in
    let a : SFits w32 (get_or l.work (2 * h + l.i) (pos 0)) = search rules in
    let b : SFits w32 (get_or l.work (3 * h + l.i) (pos 0)) = search rules in
    handed (λ x y. goal.F-pre g c.args.node l.i x y) _ _ _ _ a b (kept_at m (2 * h + l.i) (omega arith)) (kept_at m (3 * h + l.i) (omega arith))
    (c.requires.callable l.i (omega arith))
