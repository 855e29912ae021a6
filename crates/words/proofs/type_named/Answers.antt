use mathlib.Core.Path.{sym}
use lib.ListN.{get_or-eq_default}
use Rattle.types.specs.declared.Db2Type.TheVariants as type
use Rattle.words.specs.Words.{types_with, type_named}
use Rattle.words.proofs.TypeWords.{none_below}
use Rattle.words.proofs.type_named.Goals as goal

pub returns-in_default : goal.returns-in_default
unfolding type_named
returns-in_default c = sym (get_or-eq_default (types_with c.args.n) type.Null (none_below c.args.tag 28 c.in_default.in_default-own.rest))
