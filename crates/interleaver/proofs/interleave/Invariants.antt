-- `interleaver::interleave` meets its contract.
-- Assumes nothing.
use mathlib.Core.Path.{◌≡◌}
use lib.ListN.{length}
use Rattle.nr.specs.Interleaver.{interleaver, interleave}
use Rattle.rows.proofs.Filling.{Filling}
use Rattle.interleaver.proofs.Picking.{before}
use Rattle.interleaver.proofs.interleave.Given as goal

abbrev pub invariant-loop-entry : goal.invariant-loop-entry
invariant-loop-entry l = record {
  table : l.entry-items ≡ interleaver;
  count : l.k ≡ before (length l.row) l.entry-index;
  filled : Filling l.initial.out (interleave l.row) l.out l.k;
}
