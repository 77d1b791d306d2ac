-- `successive_decoder::decode` meets its contract: what stands after each stage of a level, and the lemmas of `Step` on it.
-- Assumes nothing.
use Prim.Native.Nat.{ℕ, ◌/◌, ◌*◌, ◌+◌, ◌<◌}
use native.Mathlib.Omega.{arith}
use mathlib.Core.Path.{◌≡◌}
use mathlib.Core.List.{◌++◌}
use borrow.Author.Rules.{rules}
use lib.IntN.{ℤ, pos}
use lib.ListN.{get_or, length, drop}
use Rattle.nr.specs.SuccessiveDecoder.{f, g, decide}
use Rattle.nodes.specs.Small.{Small}
use Rattle.nodes.proofs.Nodes.{passed, small-passed}
use Rattle.successive_decoder.proofs.Levels.{fst-small, snd-small, row-f, row-g}
use Rattle.successive_decoder.proofs.Step.{ByF, ByG, Given, Split, First, Again, Both, f-asks, ready-first, g-asks, ready-second, combine-asks, est-is, sums-are, work-kept, one-est, one-sums, one-fits}
use Rattle.successive_decoder.proofs.+decode.Goals as goal
use Rattle.successive_decoder.proofs.+decode.Goals.{After-decision-u, After-node_row, After-decode, After-node_row-else-n-eq0, After-decode-else-n-eq0}

-- ---- the rows that f and g make, and what stands after each stage

by-f : (t : ℕ) (c : After-node_row t) → ByF c.args.n c.args.work.now c.args.marks.now c.args.est.now c.args.sums.now c.node_row.new.work
by-f t c =
    let asked = f-asks c.if-n-eq0.false c.requires in
    let made = c.node_row.ensures in
    row-f c.args.work.now c.node_row.new.work (length c.args.marks.now / 2) (omega arith) made.work_unchanged asked.2 (λ i l. let z = made.work_after i l in search rules)

abbrev split : (t : ℕ) (c : After-node_row t) → ByF c.args.n c.args.work.now c.args.marks.now c.args.est.now c.args.sums.now c.node_row.new.work → Split c.args.n c.args.work.now c.args.marks.now c.args.est.now c.args.sums.now
split t c f = record { w₁ = c.node_row.new.work; row₁ = f; kept₁ = c.node_row.ensures.work_unchanged }

abbrev first : (t : ℕ) (c : After-decode t) → ByF c.args.n c.args.work.now c.args.marks.now c.args.est.now c.args.sums.now c.node_row.new.work → First c.args.n c.args.work.now c.args.marks.now c.args.est.now c.args.sums.now
first t c f = record {
  split = record { w₁ = c.node_row.new.work; row₁ = f; kept₁ = c.node_row.ensures.work_unchanged };
  w₂ = c.decode.new.work;
  e₁ = c.decode.new.est;
  s₁ = c.decode.new.sums;
  est-size₁ = c.decode.auto.est;
  sums-size₁ = c.decode.auto.sums;
  est₁ = c.decode.ensures.est_after;
  sums₁ = c.decode.ensures.sums_after;
  kept₂ = c.decode.ensures.work_unchanged;
}

by-g : (t : ℕ) (c : After-node_row-else-n-eq0 t) → Given c.args.n c.args.work.now c.args.marks.now c.args.est.now c.args.sums.now c.decode.new.work (c.decode.new.sums ++ drop (length c.args.marks.now / 2) c.args.sums.now) → ByG c.args.n c.args.work.now c.args.marks.now c.args.est.now c.args.sums.now (c.decode.new.sums ++ drop (length c.args.marks.now / 2) c.args.sums.now) c.decode.new.work c.node_row-else-n-eq0.new.work
by-g t c asked =
    let h = length c.args.marks.now / 2 in
    let made = c.node_row-else-n-eq0.ensures in
    row-g c.decode.new.work c.node_row-else-n-eq0.new.work h (omega arith) made.work_unchanged asked.2 (c.decode.new.sums ++ drop (length c.args.marks.now / 2) c.args.sums.now) asked.3 (λ i l. let z = made.work_after i l in search rules)

abbrev again : (t : ℕ) (c : After-node_row-else-n-eq0 t) → ByF c.args.n c.args.work.now c.args.marks.now c.args.est.now c.args.sums.now c.node_row.new.work → ByG c.args.n c.args.work.now c.args.marks.now c.args.est.now c.args.sums.now (c.decode.new.sums ++ drop (length c.args.marks.now / 2) c.args.sums.now) c.decode.new.work c.node_row-else-n-eq0.new.work → Again c.args.n c.args.work.now c.args.marks.now c.args.est.now c.args.sums.now
again t c f g = record {
  first = record {
    split = record { w₁ = c.node_row.new.work; row₁ = f; kept₁ = c.node_row.ensures.work_unchanged };
    w₂ = c.decode.new.work;
    e₁ = c.decode.new.est;
    s₁ = c.decode.new.sums;
    est-size₁ = c.decode.auto.est;
    sums-size₁ = c.decode.auto.sums;
    est₁ = c.decode.ensures.est_after;
    sums₁ = c.decode.ensures.sums_after;
    kept₂ = c.decode.ensures.work_unchanged;
  };
  w₃ = c.node_row-else-n-eq0.new.work;
  row₃ = g;
  kept₃ = c.node_row-else-n-eq0.ensures.work_unchanged;
}

abbrev both : (t : ℕ) (c : After-decode-else-n-eq0 t) → ByF c.args.n c.args.work.now c.args.marks.now c.args.est.now c.args.sums.now c.node_row.new.work → ByG c.args.n c.args.work.now c.args.marks.now c.args.est.now c.args.sums.now (c.decode.new.sums ++ drop (length c.args.marks.now / 2) c.args.sums.now) c.decode.new.work c.node_row-else-n-eq0.new.work → Both c.args.n c.args.work.now c.args.marks.now c.args.est.now c.args.sums.now
both t c f g = record {
  again = record {
    first = record {
      split = record { w₁ = c.node_row.new.work; row₁ = f; kept₁ = c.node_row.ensures.work_unchanged };
      w₂ = c.decode.new.work;
      e₁ = c.decode.new.est;
      s₁ = c.decode.new.sums;
      est-size₁ = c.decode.auto.est;
      sums-size₁ = c.decode.auto.sums;
      est₁ = c.decode.ensures.est_after;
      sums₁ = c.decode.ensures.sums_after;
      kept₂ = c.decode.ensures.work_unchanged;
    };
    w₃ = c.node_row-else-n-eq0.new.work;
    row₃ = g;
    kept₃ = c.node_row-else-n-eq0.ensures.work_unchanged;
  };
  w₄ = c.decode-else-n-eq0.new.work;
  e₂ = c.decode-else-n-eq0.new.est;
  s₂ = c.decode-else-n-eq0.new.sums;
  sums-size₂ = c.decode-else-n-eq0.auto.sums;
  est₂ = c.decode-else-n-eq0.ensures.est_after;
  sums₂ = c.decode-else-n-eq0.ensures.sums_after;
  kept₄ = c.decode-else-n-eq0.ensures.work_unchanged;
}

-- ---- two halves

pub returns-else-n-eq0 : goal.returns-else-n-eq0
returns-else-n-eq0 t c =
    let at = goal.at.returns-else-n-eq0 t c in
    let f = by-f t at.After-node_row in
    let g = by-g t at.After-node_row-else-n-eq0 (g-asks c.if-n-eq0.false c.requires (first t at.After-decode f)) in
    let z = both t at.After-decode-else-n-eq0 f g in
    record {
      est_after = est-is c.if-n-eq0.false c.requires z;
      sums_after = sums-are c.if-n-eq0.false c.requires z c.combine.new.block c.combine.ensures;
      work_unchanged = work-kept c.if-n-eq0.false c.requires z;
    }

pub node_row-requires-clause-room : goal.node_row-requires-clause-room
node_row-requires-clause-room t c = let asked = f-asks c.if-n-eq0.false c.requires in (asked.0, asked.1)

pub node_row-requires-clause-callable : goal.node_row-requires-clause-callable
node_row-requires-clause-callable t c = λ i l.
    let w = c.args.work.now in
    let h = length c.args.marks.now / 2 in
    let asked = f-asks c.if-n-eq0.false c.requires in
    let a : Small (get_or w (2 * h + i) (pos 0)) = fst-small w h (omega arith) asked.2 i l in
    let b : Small (get_or w (3 * h + i) (pos 0)) = snd-small w h (omega arith) asked.2 i l in
    search (rules, small-passed)

pub decode-requires : goal.decode-requires
decode-requires t c =
    let s = (goal.at.decode-requires t c).After-node_row in
    (omega arith, ready-first c.if-n-eq0.false c.requires (split t s (by-f t s)))

pub node_row-requires-else-n-eq0-clause-room : goal.node_row-requires-else-n-eq0-clause-room
node_row-requires-else-n-eq0-clause-room t c =
    let at = goal.at.node_row-requires-else-n-eq0-clause-room t c in
    let asked = g-asks c.if-n-eq0.false c.requires (first t at.After-decode (by-f t at.After-node_row)) in
    (asked.0, asked.1)

pub node_row-requires-else-n-eq0-clause-callable : goal.node_row-requires-else-n-eq0-clause-callable
node_row-requires-else-n-eq0-clause-callable t c = λ i l.
    let at = goal.at.node_row-requires-else-n-eq0-clause-callable t c in
    let w = c.decode.new.work in
    let h = length c.args.marks.now / 2 in
    let asked = g-asks c.if-n-eq0.false c.requires (first t at.After-decode (by-f t at.After-node_row)) in
    let a : Small (get_or w (2 * h + i) (pos 0)) = fst-small w h (omega arith) asked.2 i l in
    let b : Small (get_or w (3 * h + i) (pos 0)) = snd-small w h (omega arith) asked.2 i l in
    let v : i < length (c.decode.new.sums ++ drop h c.args.sums.now) = omega (arith, asked.3) in
    search (rules, small-passed)

pub decode-requires-else-n-eq0 : goal.decode-requires-else-n-eq0
decode-requires-else-n-eq0 t c =
    let at = goal.at.decode-requires-else-n-eq0 t c in
    let f = by-f t at.After-node_row in
    let g = by-g t at.After-node_row-else-n-eq0 (g-asks c.if-n-eq0.false c.requires (first t at.After-decode f)) in
    (omega arith, ready-second c.if-n-eq0.false c.requires (again t at.After-node_row-else-n-eq0 f g))

pub combine-requires : goal.combine-requires
combine-requires t c =
    let at = goal.at.combine-requires t c in
    let f = by-f t at.After-node_row in
    let g = by-g t at.After-node_row-else-n-eq0 (g-asks c.if-n-eq0.false c.requires (first t at.After-decode f)) in
    let asked = combine-asks c.if-n-eq0.false c.requires (both t at.After-decode-else-n-eq0 f g) in
    record { block_len = asked.0; bits = asked.1 }

-- ---- a single position

-- the decision is that of the value as it stands: passing it to the call keeps it
decided : (t : ℕ) (c : After-decision-u t) → c.decision-u.result ≡ decide (get_or c.args.marks.now 0 0) (get_or c.args.work.now 1 (pos 0))
decided t c =
    passed (λ (x : ℤ). c.decision-u.result ≡ decide (get_or c.args.marks.now 0 0) x) (get_or c.args.work.now 1 (pos 0))
    (one-fits c.args.n c.args.work.now c.if-n-eq0.true c.requires.bound) c.decision-u.ensures

pub returns-then-n-eq0-clause-est_after : goal.returns-then-n-eq0-clause-est_after
returns-then-n-eq0-clause-est_after t c =
    one-est c.args.n c.args.work.now c.args.marks.now c.args.est.now c.decision-u.result c.if-n-eq0.true c.requires.bits
    (decided t (goal.at.returns-then-n-eq0-clause-est_after t c).After-decision-u)

pub returns-then-n-eq0-clause-sums_after : goal.returns-then-n-eq0-clause-sums_after
returns-then-n-eq0-clause-sums_after t c =
    one-sums c.args.n c.args.work.now c.args.marks.now c.args.sums.now c.decision-u.result c.if-n-eq0.true c.requires.words
    (decided t (goal.at.returns-then-n-eq0-clause-sums_after t c).After-decision-u)
