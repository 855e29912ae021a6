use Rattle.std.proofs.Common.{[], sym}
use Rattle.std.proofs.Math.ListN.{get_or-eq_default}
use Rattle.printing.specs.TypeNames.{type_names}
use Rattle.printing.proofs.type_names.name_of.Goals as goal

pub returns-in-None : goal.returns-in-None
returns-in-None c = sym (get_or-eq_default type_names [] c.in-None.ensures)
