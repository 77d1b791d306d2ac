-- `interleaver::deinterleave` meets its contract.
-- Assumes nothing.
use mathlib.Core.Path.{◌≡◌}
use lib.ListN.{length}
use Rattle.nr.specs.Interleaver.{interleaver}
use Rattle.interleaver.proofs.Picking.{before, Returned}
use Rattle.interleaver.proofs.deinterleave.Given as goal

abbrev pub invariant-loop-place : goal.invariant-loop-place
invariant-loop-place l = record {
  table : l.place-items ≡ interleaver;
  count : l.j ≡ before (length l.row) l.place-index;
  returned : Returned l.row l.out l.j;
}
