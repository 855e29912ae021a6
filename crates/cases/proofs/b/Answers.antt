use mathlib.Core.Path.{refl}
use Rattle.edges.specs.Ascii.{ascii}
use Rattle.edges.specs.Edges.{edges}
use Rattle.cases.proofs.b.Goals as goal

pub two-requires : goal.two-requires
unfolding edges ascii
two-requires c = (1, refl, refl, refl)
