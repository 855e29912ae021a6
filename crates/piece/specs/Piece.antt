-- For inner functions; no public promise rests on it. The cell that a column makes of the rest of the row, and its text. Assumes nothing.
use Rattle.std.specs.Prelude.{ℕ, ◌+◌, ◌≤◌, ◌≡◌, Bool, true, false, cond, List, [], ◌∷◌, eqb, length, take, drop}
use Rattle.types.specs.declared.ColumnDescriptor.{ColumnDescriptor}
use Rattle.types.specs.declared.Db2Type.{Db2Type}
use Rattle.types.specs.declared.Db2Type.TheVariants as type
use Rattle.types.specs.declared.Db2Value.{Db2Value}
use Rattle.types.specs.declared.ValuePlace.{ValuePlace}
use Rattle.types.specs.Names.{named_in}
use Rattle.rules.specs.Extent.{need, extent_of}
use Rattle.rules.specs.Meaning.{item_in}
use Rattle.rules.specs.Walk.{Cell, absent, present, column_need, cell_of}
use Rattle.rules.specs.Row.{place, part_value, text_value, start_of, item_text, item_replaced, cell_item}
use Rattle.rules.specs.Conversions.{conversions_of}
use Rattle.buffer.specs.Buffer.{Converted, unreplaced}
use Rattle.cell.specs.declared.CellItem.{CellItem}
use Rattle.cell.specs.declared.CellItem.TheVariants.{Nothing, Boolean, Part, Text}
use Rattle.cell.specs.declared.OtherValue.{OtherValue}
use Rattle.cell.specs.Cell.{byte_sort, text_sort, read_by, Readable}

-- whether the rest s of a row has no value of a column: its indicator says Null, or is not there
abbrev pub is_null : Bool → List ℕ → Bool
is_null false s = false
is_null true [] = true
is_null true (b ∷ s) = eqb b 0xFF

abbrev pub number_place : Db2Value → ValuePlace
number_place v = record { value = v; external = false }

-- as the walk has it, where s is the rest of the row and `at` the place of its first byte
abbrev pub cell_in : ColumnDescriptor → ℕ → List ℕ → Cell
cell_in c at s = cell_of c.nullable c at (take (column_need c s) s)

-- the cell of a value that is there, behind its indicator where the column has one; s is the rest from the value's first byte on
abbrev pub value_in : ColumnDescriptor → ℕ → List ℕ → Cell
value_in c at s = present c at (take (need (extent_of c) s) s)

abbrev pub value_text : ℕ → ColumnDescriptor → List ℕ → List ℕ
value_text release c s = item_text (cell_item (conversions_of release) (value_in c 0 s))

abbrev pub value_replaced : ℕ → ColumnDescriptor → List ℕ → ℕ
value_replaced release c s = item_replaced (cell_item (conversions_of release) (value_in c 0 s))

-- a cell's text, and how many U+FFFD were put in, do not depend on where the cell is
abbrev pub cell_text : ℕ → ColumnDescriptor → List ℕ → List ℕ
cell_text release c s = item_text (cell_item (conversions_of release) (cell_in c 0 s))

abbrev pub cell_replaced : ℕ → ColumnDescriptor → List ℕ → ℕ
cell_replaced release c s = item_replaced (cell_item (conversions_of release) (cell_in c 0 s))

-- where the text of a value within the row begins among the value's bytes: behind the two or four bytes that say its length
abbrev pub text_start : Db2Type → ℕ
text_start t =
    cond (named_in (type.VarChar 0 ∷ type.LongVarChar ∷ type.VarGraphic 0 ∷ []) t) 2 (cond (named_in (type.Clob ∷ type.DbClob ∷ type.Xml ∷ []) t) 4 0)

-- the text is the value's bytes from there on, and none was replaced: writing it is copying them
abbrev pub PlainCell : ℕ → Cell → Type 0
PlainCell release absent = Unit {0}
PlainCell release (present c at s) = (item_text (item_in (conversions_of release) c s) ≡ drop (text_start c.db2_type) s) × (item_replaced (item_in (conversions_of release) c s) ≡ 0)

-- an item as the column decoder holds it, of the value's bytes s: it lies within them, what is made of them, and its value where s begins at place `at`
abbrev pub LiesWithin : CellItem → List ℕ → Type 0
LiesWithin Nothing s = Unit {0}
LiesWithin (Boolean b) s = Unit {0}
LiesWithin (Part k from len) s = from + len ≤ length s
LiesWithin (Text k reading from len) s = (from + len ≤ length s) × Readable reading len

abbrev pub made_of : ℕ → CellItem → List ℕ → Converted
made_of release Nothing s = unreplaced []
made_of release (Boolean b) s = unreplaced []
made_of release (Part k from len) s = unreplaced []
made_of release (Text k reading from len) s = read_by release reading (take len (drop from s))

abbrev pub text_held : ℕ → CellItem → List ℕ → List ℕ
text_held release x s = (made_of release x s).text_bytes

abbrev pub replaced_held : ℕ → CellItem → List ℕ → ℕ
replaced_held release x s = (made_of release x s).replaced

abbrev pub item_value : ℕ → CellItem → List ℕ → ℕ → ℕ → Db2Value
item_value release Nothing s at next = Db2Value.Null
item_value release (Boolean b) s at next = Db2Value.Boolean b
item_value release (Part k from len) s at next = part_value (byte_sort k) (place (start_of len (at + from)) len)
item_value release (Text k reading from len) s at next = text_value (text_sort k) (place next (length (text_held release (Text k reading from len) s)))

-- the value and whether it is external, of what the column decoder found in the rest s of the row
abbrev pub place_of : ℕ → OtherValue → ℕ → ℕ → List ℕ → ValuePlace
place_of release d at next s = record { value = item_value release d.item (take d.used s) at next; external = d.external }
