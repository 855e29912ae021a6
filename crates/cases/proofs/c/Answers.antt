use mathlib.Core.Path.{refl}
use Rattle.edges.specs.Ascii.{ascii}
use Rattle.edges.specs.Edges.{edges}
use Rattle.cases.proofs.c.Goals as goal

pub two-requires : goal.two-requires
unfolding edges ascii
two-requires c = (2, refl, refl, refl)
