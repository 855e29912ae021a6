use mathlib.Core.Path.{sym}
use Prim.Native.Nat.{◌%◌}
use Rattle.types.specs.Places.{max_columns}
use Rattle.by_value.proofs.Refused.{no_length}
use Rattle.by_value.proofs.length_of.Goals as goal

pub returns-in-Err : goal.returns-in-Err
returns-in-Err c = rw c.in-Err.is (sym (no_length (c.args.index % max_columns)))
