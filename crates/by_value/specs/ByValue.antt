-- For inner functions; no public promise rests on it. One number of a column list, and one of a row's answer. Assumes nothing.
use Rattle.std.specs.Prelude.{ℕ, map, get_or}
use Rattle.types.specs.declared.ColumnDescriptor.{ColumnDescriptor}
use Rattle.types.specs.declared.Columns.{Columns}
use Rattle.types.specs.declared.ValuePlace.{ValuePlace}
use Rattle.rules.specs.Row.{RowTold}
use Rattle.words.specs.Values.{number_word}

abbrev pub own_length : ColumnDescriptor → ℕ
own_length c = c.length

-- the length of the column at a place of the list
abbrev pub length_at : Columns → ℕ → ℕ
length_at c i = get_or (map own_length c.columns) i 0

abbrev pub number_of : ValuePlace → ℕ
number_of p = number_word p.value

-- the number of the value at a place of the answer, as the boundary has it in words
abbrev pub number_at : RowTold → ℕ → ℕ
number_at a i = get_or (map number_of a.places) i 0
