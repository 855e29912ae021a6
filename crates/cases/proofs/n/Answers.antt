use mathlib.Core.Path.{refl}
use Rattle.edges.specs.Ascii.{ascii}
use Rattle.edges.specs.Edges.{edges}
use Rattle.cases.proofs.n.Goals as goal

pub one-requires : goal.one-requires
unfolding edges ascii
one-requires c = (13, refl, refl, refl)
