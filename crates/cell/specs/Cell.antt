-- For inner functions; no public promise rests on it. What a column's value, as the code holds it, says of the value's own bytes. Assumes nothing.
use Rattle.std.specs.Prelude.{ℕ, ◌+◌, ◌≤◌, ◌<◌, ◌≡◌, Bool, false, List, [], ◌∷◌, length, take, drop}
use Rattle.numbers.specs.Number.{Number as RowNumber, number_value}
use Rattle.refusal.specs.Refusal.{most_bytes}
use Rattle.packed.specs.Packed.{decimal_text}
use Rattle.buffer.specs.Buffer.{Converted, unreplaced}
use Rattle.conversion.specs.Conversion.{characters_by, graphics_by, from_utf8, locator_text, row_id_text}
use Rattle.types.specs.Names.{named_in}
use Rattle.types.specs.declared.Db2Type.{Db2Type}
use Rattle.types.specs.declared.Db2Type.TheVariants as type
use Rattle.types.specs.declared.Db2Value.{Db2Value}
use Rattle.types.specs.declared.ColumnDescriptor.{ColumnDescriptor}
use Rattle.rules.specs.Extent.{need, extent_of}
use Rattle.rules.specs.Conversions.{conversions_of}
use Rattle.rules.specs.Meaning as meaning
use Rattle.cell.specs.declared.ByteSort.{ByteSort}
use Rattle.cell.specs.declared.ByteSort.TheVariants as bytes
use Rattle.cell.specs.declared.TextSort.{TextSort}
use Rattle.cell.specs.declared.TextSort.TheVariants as texts
use Rattle.cell.specs.declared.Encoding.{Encoding}
use Rattle.cell.specs.declared.Encoding.TheVariants.{Characters, Graphics, Utf8, Locator, RowId}
use Rattle.cell.specs.declared.Reading.{Reading}
use Rattle.cell.specs.declared.Reading.TheVariants.{By, Packed}
use Rattle.cell.specs.declared.LobKind.{LobKind}
use Rattle.cell.specs.declared.LobKind.TheVariants as kinds
use Rattle.cell.specs.declared.LobText.{LobText}
use Rattle.cell.specs.declared.LobText.TheVariants as lobs
use Rattle.cell.specs.declared.CellItem.{CellItem}
use Rattle.cell.specs.declared.CellItem.TheVariants.{Nothing, Boolean, Part, Text}
use Rattle.cell.specs.declared.OtherValue.{OtherValue}
use Rattle.cell.specs.declared.ColumnValue.{ColumnValue}
use Rattle.cell.specs.declared.ColumnValue.TheVariants.{Number, Other}

abbrev pub byte_sort : ByteSort → meaning.ByteSort
byte_sort bytes.Binary = meaning.ByteSort.binary
byte_sort bytes.Blob = meaning.ByteSort.blob

abbrev pub text_sort : TextSort → meaning.TextSort
text_sort texts.Decimal = meaning.TextSort.decimal
text_sort texts.Char = meaning.TextSort.char
text_sort texts.VarChar = meaning.TextSort.var_char
text_sort texts.Clob = meaning.TextSort.clob
text_sort texts.RowId = meaning.TextSort.row_id
text_sort texts.Date = meaning.TextSort.date
text_sort texts.Time = meaning.TextSort.time
text_sort texts.Timestamp = meaning.TextSort.timestamp
text_sort texts.Xml = meaning.TextSort.xml

abbrev pub lob_of : LobKind → meaning.Lob
lob_of kinds.Blob = meaning.Lob.blobs
lob_of (kinds.Text lobs.Clob) = meaning.Lob.clobs
lob_of (kinds.Text lobs.Xml) = meaning.Lob.xmls

-- the sort of their texts
abbrev pub lob_sort : LobText → TextSort
lob_sort lobs.Clob = texts.Clob
lob_sort lobs.Xml = texts.Xml

-- the types whose values are numbers
abbrev pub is_number : Db2Type → Bool
is_number t = named_in (type.SmallInt ∷ type.Integer ∷ type.BigInt ∷ type.Real ∷ type.Double ∷ []) t

-- what is made of bytes at a release, by their encoding and as they are to be read
abbrev pub decoded : ℕ → Encoding → List ℕ → Converted
decoded release (Characters ccsid) s = characters_by release ccsid s
decoded release (Graphics ccsid) s = graphics_by release ccsid s
decoded release Utf8 s = from_utf8 s
decoded release Locator s = unreplaced (locator_text s)
decoded release RowId s = unreplaced (row_id_text s)

abbrev pub read_by : ℕ → Reading → List ℕ → Converted
read_by release (By encoding) s = decoded release encoding s
read_by release (Packed scale) s = unreplaced (decimal_text scale s)

-- the bytes are as many as the reading takes: a packed decimal has one at least, and no more than one called alone may have
abbrev pub Readable : Reading → ℕ → Type 0
Readable (By encoding) n = Unit {0}
Readable (Packed scale) n = (0 < n) × (n ≤ most_bytes)

-- the code's item says of the value's bytes s what i is, at a release: a part lies within s, and a text is that of a part of s
abbrev pub Holds : ℕ → CellItem → List ℕ → meaning.Item → Type 0
Holds release Nothing s i = i ≡ meaning.Item.nothing
Holds release (Boolean b) s i = i ≡ meaning.Item.boolean b
Holds release (Part k from len) s i = (i ≡ meaning.Item.part (byte_sort k) from len) × (from + len ≤ length s)
Holds release (Text k reading from len) s i = (i ≡ meaning.Item.text (text_sort k) (read_by release reading (take len (drop from s)))) × ((from + len ≤ length s) × Readable reading len)

-- the item of any `count` bytes that are a value of the type t; in a column of this CCSID
abbrev pub Means : CellItem → Db2Type → ℕ → Type 0
Means r t count = (release : ℕ) (c : ColumnDescriptor) (s : List ℕ) → length s ≡ count → Holds release r s (meaning.type_item (conversions_of release) t c s)

abbrev pub MeansBy : ℕ → CellItem → Db2Type → ℕ → Type 0
MeansBy ccsid r t count =
    (release : ℕ) (c : ColumnDescriptor) (s : List ℕ) → c.ccsid ≡ ccsid → length s ≡ count → Holds release r s (meaning.type_item (conversions_of release) t c s)

-- ---- the value of the column c at a release, where s is the rest of the row and the value's bytes are there

-- those bytes
abbrev pub taken : ColumnDescriptor → List ℕ → List ℕ
taken c s = take (need (extent_of c) s) s

abbrev pub NumberIs : ℕ → Db2Value → ColumnDescriptor → List ℕ → Type 0
NumberIs release v c s =
    ((x : RowNumber) × ((meaning.item_in (conversions_of release) c (taken c s) ≡ meaning.Item.numeric x) × (v ≡ number_value x)))
    × (meaning.refers_in (conversions_of release) c (taken c s) ≡ false)

abbrev pub OtherIs : ℕ → OtherValue → ColumnDescriptor → List ℕ → Type 0
OtherIs release d c s =
    Holds release d.item (taken c s) (meaning.item_in (conversions_of release) c (taken c s))
    × ((d.used ≡ need (extent_of c) s) × (d.external ≡ meaning.refers_in (conversions_of release) c (taken c s)))

abbrev pub ValueIs : ℕ → ColumnValue → ColumnDescriptor → List ℕ → Type 0
ValueIs release (Number n) c s = NumberIs release n.value c s × (n.used ≡ need (extent_of c) s)
ValueIs release (Other d) c s = OtherIs release d c s
