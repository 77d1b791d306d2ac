-- `search::attempt` meets its contract.
-- Assumes nothing.
use mathlib.Core.Path.{sym}
use Rattle.search.proofs.Attempts.{payload-fits, front-size, attempted-is}
use Rattle.search.proofs.attempt.Goals as goal

pub slice_bounds-accept-end : goal.slice_bounds-accept-end
slice_bounds-accept-end c = payload-fits c.requires.tries

pub slice_bounds-accept-end-2 : goal.slice_bounds-accept-end-2
slice_bounds-accept-end-2 c = sym (front-size c.requires.tries)

pub accept-requires-clause-e_value : goal.accept-requires-clause-e_value
accept-requires-clause-e_value c =
    let t = c.requires.tries in
    (t.sizes, t.size, front-size t, t.range)

pub returns : goal.returns
returns c = attempted-is c.requires.tries c.accept.result c.accept.new.out c.accept.ensures
