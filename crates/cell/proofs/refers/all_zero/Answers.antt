use mathlib.Core.Path.{refl}
use lib.Dec.{eqb}
use Rattle.std.proofs.Common.{rules}
use Rattle.std.proofs.lemmas.List.Recursion.{and_is}
use Rattle.rules.specs.Meaning.{all_zero}
use Rattle.cell.proofs.refers.all_zero.Goals as goal

pub returns : goal.returns
unfolding all_zero
returns c = and_is all_zero (λ x. eqb x 0) refl (λ _ _. refl) c.args.s.now 0 _ (search rules) (search rules)
