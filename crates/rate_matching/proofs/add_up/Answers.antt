-- `rate_matching::add_up` meets its contract.
-- Assumes nothing.
use Prim.Native.Nat.{ℕ}
use mathlib.Core.Path.{refl, ap, ◌∙◌}
use lib.ListN.{length}
use Rattle.std.specs.Prelude.{min}
use Rattle.std.specs.Slice.Iter.{chunks_rest, chunks_size}
use Rattle.rate_matching.proofs.Summing.{summing, summing-more, summed}
use Rattle.rate_matching.proofs.Undoing.{undo-repetition}
use Rattle.rate_matching.proofs.add_up.Goals as goal

pub loop-piece-init : goal.loop-piece-init
loop-piece-init c =
    let asks = c.requires.y_nonzero in
    let given = c.into_iter-piece-iterator.ensures.into_iter_gives in (
      summing _ c.args.soft.now c.args.y.now _ asks.0 asks.1 refl c.requires.y_value asks.3 (ap chunks_rest given ∙ c.chunks-piece-items.ensures.rest),
      ap chunks_size given ∙ c.chunks-piece-items.ensures.size,
    )

pub loop-piece-preserved : goal.loop-piece-preserved
loop-piece-preserved c =
    let asks = c.requires.y_nonzero in
    let l = c.loop-piece in
    let turn = c.in-Some.ensures.steps in (
      summing-more l.invariant.0 asks.2 c.in-Some.piece.now _ turn.1.0
          (turn.1.1 ∙ ap (λ (n : ℕ). min n (length (chunks_rest l.piece-iterator))) l.invariant.1) asks.0 turn.1.2 _ c.add.ensures,
      turn.0 ∙ l.invariant.1,
    )

pub returns : goal.returns
returns c =
    summed c.loop-piece.invariant.0 c.requires.y_nonzero.0 c.in-None.ensures.steps.1.0 ∙ undo-repetition (length c.args.y.now) c.args.soft.now
