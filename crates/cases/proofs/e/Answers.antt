use mathlib.Core.Path.{refl}
use Rattle.edges.specs.Ascii.{ascii}
use Rattle.edges.specs.Edges.{edges}
use Rattle.cases.proofs.e.Goals as goal

pub too_short-requires : goal.too_short-requires
unfolding edges ascii
too_short-requires c = (4, refl, refl, refl)
