-- `successive_decoder::decode_row` meets its contract.
-- Assumes nothing.
use Rattle.successive_decoder.proofs.Step.{top_ready}
use Rattle.successive_decoder.proofs.decode_row.Goals as goal

pub decode-requires : goal.decode-requires
decode-requires c =
    let n = c.requires.n_bound in
    top_ready c.args.n n.0 c.args.marks.now n.2 c.args.work.now c.args.est.now _ n.1 n.3 n.4 c.requires.within
