use Rattle.std.proofs.Common.{sym}
use Rattle.std.proofs.Math.ListN.{get_or-eq_default}
use Rattle.printing.specs.TypeNames.{number_counts}
use Rattle.printing.proofs.type_names.number_count.Goals as goal

pub returns-in_default : goal.returns-in_default
returns-in_default c = sym (get_or-eq_default number_counts 0 c.in_default.ensures)
