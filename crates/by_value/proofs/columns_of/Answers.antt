use Rattle.std.proofs.Common.{rules}
use Rattle.types.specs.Places.{column_list, filled, blank_column}
use Rattle.by_value.proofs.columns_of.Goals as goal

pub returns-in-Err : goal.returns-in-Err
unfolding column_list filled blank_column
returns-in-Err c = rw (← c.parse_qrydsc.ensures, c.in-Err.is) (search rules)
