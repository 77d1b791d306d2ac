-- `dci::fresh` meets its contract.
-- Assumes nothing.
use Prim.Native.Nat.{ℕ, ◌≤◌}
use native.Mathlib.Omega.{arith}
use mathlib.Core.Path.{◌≡◌, sym, ap, ap₂, ◌∙◌}
use mathlib.Core.List.{◌++◌}
use lib.ListN.{length, take, drop, replicate}
use Rattle.nr.specs.Answer.{refusal}
use Rattle.nr.specs.Scrambling.{gold}
use Rattle.nr.proofs.Construction.{accepted}
use Rattle.nr.proofs.Refusals.{longest}
use Rattle.rows.proofs.Parts.{front-back, front-room, front-size}
use Rattle.dci.proofs.Made.{taken, lays-for}
use Rattle.dci.proofs.fresh.Goals as goal
use Rattle.dci.proofs.fresh.Goals.{Start, After-sequence}

-- the sizes are accepted
ok : (c : Start) → refusal c.args.numbers.a c.args.numbers.e ≡ 0
ok c = taken c.args.numbers c.args.sizes c.requires.sizes

-- ---- the sequence, in the part of an array that was lent for it

room : (c : Start) → length c.args.soft.now ≤ 1728
room c = let n = c.args.numbers in omega (arith, c.requires.fits.0, longest n.e (accepted n.a n.e (ok c)).length)

pub slice_bounds-terms-end : goal.slice_bounds-terms-end
slice_bounds-terms-end c = room (goal.at.slice_bounds-terms-end c).Start

size : (e : ℕ) → e ≤ 1728 → length {A = ℕ} (take e (replicate 1728 0)) ≡ e
size e h = front-size e 1728 0 h

module _ (c : After-sequence) (h : length c.args.soft.now ≤ 1728) where
  back-size : length c.sequence.new.row ≡ length c.args.soft.now
  back-size = c.sequence.auto.row ∙ size (length c.args.soft.now) h

  lent : let e = length c.args.soft.now in take e (c.sequence.new.row ++ drop e (replicate 1728 0)) ≡ c.sequence.new.row
  lent = front-back c.sequence.new.row _ (length c.args.soft.now) back-size

pub slice_bounds-sequence-end : goal.slice_bounds-sequence-end
slice_bounds-sequence-end c = sym (size (length c.args.soft.now) (room (goal.at.slice_bounds-sequence-end c).Start))

pub slice_bounds-terms-end-2 : goal.slice_bounds-terms-end-2
slice_bounds-terms-end-2 c =
    let at = goal.at.slice_bounds-terms-end-2 c in
    front-room c.sequence.new.row _ _ (back-size at.After-sequence (room at.Start))

pub slice_bounds-accept-end : goal.slice_bounds-accept-end
slice_bounds-accept-end c =
    let q = (goal.at.slice_bounds-accept-end c).After-sequence in
    let h = room (goal.at.slice_bounds-accept-end c).Start in
    sym (ap length (lent q h) ∙ back-size q h)

pub accept-requires-clause-e_value : goal.accept-requires-clause-e_value
accept-requires-clause-e_value c =
    let f = c.requires.fits in (ok (goal.at.accept-requires-clause-e_value c).Start, f.0, f.1, f.2)

pub accept-requires-clause-lays : goal.accept-requires-clause-lays
accept-requires-clause-lays c =
    let h = room (goal.at.accept-requires-clause-lays c).Start in (
      lays-for c.args.numbers c.args.sizes c.construct-code.result c.requires.sizes c.construct-code.ensures,
      lent (goal.at.accept-requires-clause-lays c).After-sequence h ∙ c.sequence.ensures
          ∙ ap₂ gold c.c_init-start.ensures (size (length c.args.soft.now) h ∙ c.requires.fits.0),
    )

pub returns : goal.returns
returns c = c.accept.ensures
