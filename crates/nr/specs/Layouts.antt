-- The layout of a code that the functions hand on.
-- Assumes nothing.
use Rattle.std.specs.Prelude.{take}
use Rattle.nr.specs.declared.code.Code.{Code}
use Rattle.nr.specs.Construction.{Layout}
use Rattle.nr.specs.Codes.{code}

abbrev pub layout_of : Code → Layout
layout_of c = code c.length.n c.kind (take c.k c.positions)
