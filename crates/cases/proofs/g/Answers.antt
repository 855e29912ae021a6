use mathlib.Core.Path.{refl}
use Rattle.edges.specs.Ascii.{ascii}
use Rattle.edges.specs.Edges.{edges}
use Rattle.cases.proofs.g.Goals as goal

pub packed_decimal-requires : goal.packed_decimal-requires
unfolding edges ascii
packed_decimal-requires c = (6, refl, refl, refl)
