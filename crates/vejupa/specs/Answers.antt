-- Numbers that the functions for C and Rust answer. Assumes nothing.
use Rattle.std.specs.Prelude.{ℕ, cond, List, eqb, get_or}
use Rattle.refusal.specs.Refusal.{Told, accepted, refused}
use Rattle.buffer.specs.Buffer.{TextTold}

-- D1: the two answers that are no refusals of the rules: lent words that are too few; words that are no column's or no type's
abbrev pub too_few_number : ℕ
too_few_number = 101

abbrev pub no_column_number : ℕ
no_column_number = 102

-- of refusal n with the values vs the value at place k, where n is m; else 0
abbrev pub value_with : ℕ → ℕ → ℕ → List ℕ → ℕ
value_with m k n vs = cond (eqb n m) (get_or vs k 0) 0

-- of a text answer the length of its text: the bytes written; with refusal 9 the length needed; with another refusal 0
abbrev pub length_by : Told → ℕ → ℕ
length_by accepted k = k
length_by (refused n vs) k = get_or vs 0 0

abbrev pub length_told : TextTold → ℕ
length_told a = length_by a.outcome a.written
