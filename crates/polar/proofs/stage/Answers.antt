-- `polar::stage` meets its contract. The loop's invariant: the first b blocks are joined, the rest is as it was.
-- Assumes nothing.
use native.Mathlib.Nat.{mul_comm}
use native.Mathlib.Omega.{arith}
use Prim.Native.Nat.{ℕ, ◌+◌, ◌*◌, ◌-◌, ◌/◌, ◌≤◌}
use mathlib.Core.Path.{◌≡◌, ap, ◌∙◌, subst, sym}
use lib.ListN.{length}
use borrow.Author.Rules.{rules}
use Rattle.nr.specs.Rows.{Bits}
use Rattle.nr.proofs.Zip.{bits-take, bits-drop}
use Rattle.polar.specs.Blocks.{joined, each}
use Rattle.polar.proofs.Halves.{length-joined, bits-joined}
use Rattle.polar.proofs.Blocks.{each-next, bits_each, count, room}
use Rattle.polar.proofs.stage.Goals as goal
use Rattle.polar.proofs.stage.Goals.{In-loop-b}

in-turn : (c : In-loop-b) → 2 * c.args.half * c.loop-b.b + 2 * c.args.half ≤ length c.args.row.now
in-turn c = room (length c.args.row.now) c.args.half c.loop-b.b c.loop-b-test.true

pub slice_bounds-combine-end : goal.slice_bounds-combine-end
slice_bounds-combine-end c =
    let fits = in-turn (goal.at.slice_bounds-combine-end c).In-loop-b in
    search rules

pub combine-requires-clause-bits : goal.combine-requires-clause-bits
combine-requires-clause-bits c =
    let row = c.args.row.now in
    let half = c.args.half in
    let b : Bits c.loop-b.row = subst Bits (sym c.loop-b.invariant) (bits_each (joined half) (2 * half) (λ v p. bits-joined v half p) c.loop-b.b row c.requires.bits) in
    search (bits-take, bits-drop)

pub loop-b-preserved : goal.loop-b-preserved
loop-b-preserved c =
    let half = c.args.half in
    each-next (joined half) (2 * half) (length-joined half) c.loop-b.b c.args.row.now c.loop-b.row c.combine.new.block (2 * half * c.loop-b.b)
    (2 * half * c.loop-b.b + 2 * half - 2 * half * c.loop-b.b) c.loop-b.invariant (mul_comm (2 * half) c.loop-b.b) (omega arith)
    (in-turn (goal.at.loop-b-preserved c).In-loop-b) c.combine.ensures

pub returns : goal.returns
returns c =
    let row = c.args.row.now in
    let half = c.args.half in
    let all : c.loop-b.b ≡ length row / (2 * half) = omega (arith, count (length row) half) in
    c.loop-b.invariant ∙ ap (λ (b : ℕ). each (joined half) (2 * half) b row) all
