-- `dci::write` meets its contract.
-- Assumes nothing.
use Prim.Native.Nat.{ℕ}
use native.Mathlib.Omega.{arith}
use mathlib.Core.Path.{ap, ap₂, ◌∙◌}
use Rattle.nr.specs.Numbers.{K}
use Rattle.nr.specs.Construction.{Layout, layout}
use Rattle.nr.specs.Coding.{coded}
use Rattle.construction.specs.Shapes.{Lays}
use Rattle.dci.proofs.Made.{taken, lays-for, code_is, row_is, fits}
use Rattle.dci.proofs.write.Goals as goal
use Rattle.dci.proofs.write.Goals.{After-construct-code}

-- the code is that of the call's numbers
lays : (c : After-construct-code) → let n = c.args.numbers in Lays (layout (K n.a) n.e) c.construct-code.result
lays c = lays-for c.args.numbers c.args.sizes c.construct-code.result c.requires.sizes c.construct-code.ensures

pub send-requires-clause-payload : goal.send-requires-clause-payload
send-requires-clause-payload c =
    let b = (goal.at.send-requires-clause-payload c).After-construct-code in
    let k = row_is c.args.numbers (taken c.args.numbers c.args.sizes c.requires.sizes) c.construct-code.result (lays b) in
    (omega (arith, c.requires.fits.0, k), c.requires.fits.2)

pub send-requires-clause-fits : goal.send-requires-clause-fits
send-requires-clause-fits c =
    let b = (goal.at.send-requires-clause-fits c).After-construct-code in
    rw c.requires.fits.1 (fits c.args.numbers (taken c.args.numbers c.args.sizes c.requires.sizes) c.construct-code.result (lays b))

pub returns : goal.returns
returns c =
    let b = (goal.at.returns c).After-construct-code in
    let n = c.args.numbers in
    let start = c.c_init-start.result.bits in
    c.send.ensures
    ∙ ap₂ (λ (l : Layout) (e : ℕ). coded l e n.rnti start c.args.payload.now)
    (code_is n (taken n c.args.sizes c.requires.sizes) c.construct-code.result (lays b)) c.requires.fits.1
    ∙ ap (λ (start : ℕ). coded (layout (K n.a) n.e) n.e n.rnti start c.args.payload.now) c.c_init-start.ensures
