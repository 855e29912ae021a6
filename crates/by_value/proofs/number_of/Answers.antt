use mathlib.Core.Path.{sym}
use mathlib.Core.List.{[]}
use Rattle.by_value.proofs.Refused.{no_number}
use Rattle.by_value.proofs.number_of.Goals as goal

pub returns-in-Err : goal.returns-in-Err
returns-in-Err c = rw c.in-Err.is (sym (no_number 0 [] c.args.place))
