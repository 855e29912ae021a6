-- A value as three words of 64 bits: the layout of the row call for C and Rust. Assumes nothing.
use Rattle.std.specs.Prelude.{ℕ, ◌+◌, ◌*◌, ◌^◌, cond, List, [], ◌∷◌}
use Rattle.types.specs.declared.Db2Value.{Db2Value}
use Rattle.types.specs.declared.ValuePlace.{ValuePlace}
use Rattle.types.specs.Held.{Held, bits, in_row, in_text, held}

-- the place of a value's variant in the enum
abbrev pub sort_word : Db2Value → ℕ
sort_word Db2Value.Null = 0
sort_word (Db2Value.SmallInt z) = 1
sort_word (Db2Value.Integer z) = 2
sort_word (Db2Value.BigInt z) = 3
sort_word (Db2Value.Real x) = 4
sort_word (Db2Value.RealNan n) = 5
sort_word (Db2Value.Double x) = 6
sort_word (Db2Value.DoubleNan n) = 7
sort_word (Db2Value.Decimal p) = 8
sort_word (Db2Value.Char p) = 9
sort_word (Db2Value.VarChar p) = 10
sort_word (Db2Value.Binary p) = 11
sort_word (Db2Value.Blob p) = 12
sort_word (Db2Value.Clob p) = 13
sort_word (Db2Value.RowId p) = 14
sort_word (Db2Value.Date p) = 15
sort_word (Db2Value.Time p) = 16
sort_word (Db2Value.Timestamp p) = 17
sort_word (Db2Value.Boolean b) = 18
sort_word (Db2Value.Xml p) = 19

-- the number by its bits, or where the place begins
abbrev pub held_number : Held → ℕ
held_number (bits n) = n
held_number (in_row p) = p.start
held_number (in_text p) = p.start

-- the length of the place, and 0 where there is none
abbrev pub held_length : Held → ℕ
held_length (bits n) = 0
held_length (in_row p) = p.len
held_length (in_text p) = p.len

-- the first of the three words: bits 0 to 7 the place of the variant, bit 8 external, the others 0
abbrev pub kind_word : ValuePlace → ℕ
kind_word v = sort_word v.value + cond v.external 1 0 * 2 ^ 8

-- the second and the third
abbrev pub number_word : Db2Value → ℕ
number_word v = held_number (held v)

abbrev pub length_word : Db2Value → ℕ
length_word v = held_length (held v)

-- the words of values, three for each, in order
unfoldable pub pack_values : List ValuePlace → List ℕ
pack_values [] = []
pack_values (v ∷ vs) = kind_word v ∷ number_word v.value ∷ length_word v.value ∷ pack_values vs
