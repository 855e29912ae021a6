use mathlib.Core.Path.{refl}
use Rattle.types.specs.Places.{column_list}
use Rattle.by_value.proofs.by_value_count_columns.Goals as goal

pub returns-in-Err : goal.returns-in-Err
unfolding column_list
returns-in-Err c = rw (← c.parse_qrydsc.ensures, c.in-Err.is) refl
