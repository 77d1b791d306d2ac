-- `successive_decoder::decode` meets its contract. The measure is n.
-- Assumes nothing.
use Rattle.successive_decoder.proofs.+decode.Given as goal

abbrev pub decreases-decode : goal.decreases-decode
decreases-decode l = l.n
