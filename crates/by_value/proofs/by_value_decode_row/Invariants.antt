use mathlib.Core.Path.{◌≡◌}
use Rattle.rules.specs.Conversions.{row_answer}
use Rattle.by_value.specs.ByValue.{number_at}
use Rattle.by_value.proofs.by_value_decode_row.Given as goal

abbrev pub invariant-loop : goal.invariant-loop
invariant-loop l =
    (l.number ≡ number_at (row_answer l.release l.columns l.row l.text) l.place) × (l.text ≡ l.initial.text)
