-- How many bytes a column's value takes, of the bytes of the row that are left: W3, W4 (the Rust: decode_column_value). Each type has one of six
-- kinds of extent, and `need` is the number that the bytes at hand make of it: the value is there where `need` is at most their number. Else it is too short,
-- with `need` and their number as the Rust's `expected` and `actual`. Assumes nothing.
use Rattle.std.specs.Prelude.{ℕ, ◌+◌, ◌*◌, Bool, cond, ◌&&◌, ◌||◌, List, [], ◌∷◌, length, take, get_or, ltb, leb, eqb, None, Option, Some}
use Rattle.types.specs.FixedLength.{packed_length}
use Rattle.types.specs.Names.{bit8000, low15, graphic_unit}
use Rattle.types.specs.declared.Db2Type.{Db2Type}
use Rattle.types.specs.declared.Db2Type.TheVariants as type
use Rattle.types.specs.declared.ByteOrder.TheVariants.{BigEndian}
use Rattle.types.specs.declared.ColumnDescriptor.{ColumnDescriptor}
use Rattle.numbers.specs.Number.{unsigned}
use Rattle.rules.specs.declared.Extent.{Extent}
use Rattle.rules.specs.declared.Extent.TheVariants.{Fixed, Counted, Header, Inline, Locator, Materialized}

-- term: W3. The numbers L2 and L4, big-endian whatever the column's order
abbrev pub be16 : List ℕ → ℕ
be16 s = unsigned BigEndian (take 2 s)

abbrev pub be32 : List ℕ → ℕ
be32 s = unsigned BigEndian (take 4 s)

-- the Rust: externalized_lob_reference_len. Nine bytes or more, of which the first is 02, begin a reference of nine
abbrev pub reference_mark : ℕ
reference_mark = 0x02

unfoldable pub is_reference : List ℕ → Bool
is_reference s = leb 9 (length s) && eqb (get_or s 0 0) reference_mark

-- the Rust: is_short_externalized_lob_reference. For a declared length of 1,024 or more, 16 bytes or more, but fewer than declared, with 16 hexadecimal
-- digits among them
unfoldable pub is_hex_digit : ℕ → Bool
is_hex_digit b = (leb 0x30 b && leb b 0x39) || ((leb 0x41 b && leb b 0x46) || (leb 0x61 b && leb b 0x66))

unfoldable pub hex_digits : List ℕ → ℕ
hex_digits [] = 0
hex_digits (b ∷ s) = cond (is_hex_digit b) 1 0 + hex_digits s

unfoldable pub is_short_reference : ℕ → List ℕ → Bool
is_short_reference declared s = leb 1024 declared && (leb 16 (length s) && (ltb (length s) declared && leb 16 (hex_digits s)))

-- the Rust: decode_externalized_lob_header. Two bytes whose number has bit 8000 say how long the header behind them is
unfoldable pub says_header : List ℕ → Bool
says_header s = leb 2 (length s) && bit8000 (be16 s)

-- a LOB without reference length: four bytes are looked at first, then whether a reference begins; else it takes n
unfoldable pub lob_need : ℕ → List ℕ → ℕ
lob_need n s = cond (leb 4 (length s)) (cond (is_reference s) 9 n) 4

-- W3: the bytes that a value takes of the rest s
unfoldable pub need : Extent → List ℕ → ℕ
need (Fixed n) s = n
need (Counted unit) s = cond (leb 2 (length s)) (2 + unit * be16 s) 2
need (Header n) s = cond (says_header s) (2 + low15 (be16 s)) n
need Inline s = lob_need (4 + be32 s) s
need Locator s = lob_need 4 s
need (Materialized n) s = cond (is_short_reference n s) (length s) n

-- VarChar and VarGraphic: with bit 8000 the value is a header of a LOB that is outside the row
abbrev pub varying_extent : ℕ → ℕ → Extent
varying_extent n unit = cond (bit8000 n) (Header (low15 n)) (Counted unit)

-- a LOB with a reference length takes so many bytes
abbrev pub lob_extent : Option ℕ → Extent → Extent
lob_extent (Some w) e = Fixed w
lob_extent None e = e

-- W6: of a Blob, Clob or DbClob, by the column's length
abbrev pub length_extent : ℕ → Extent
length_extent n = cond (eqb n 0) Locator Inline

-- the extent of a type in a column: the Rust's arms of decode_column_value, in the order of the enum
abbrev pub type_extent : Db2Type → ColumnDescriptor → Extent
type_extent type.SmallInt c = Fixed 2
type_extent type.Integer c = Fixed 4
type_extent type.BigInt c = Fixed 8
type_extent type.Real c = Fixed 4
type_extent type.Double c = Fixed 8
type_extent (type.Decimal precision scale) c = Fixed (packed_length precision)
type_extent (type.DecFloat digits) c = Fixed (cond (leb 34 digits) 16 8)
type_extent (type.Char n) c = Fixed n
type_extent (type.VarChar n) c = varying_extent n 1
type_extent type.LongVarChar c = Counted 1
type_extent type.Clob c = lob_extent c.extdta_reference_length (length_extent c.length)
type_extent (type.Binary n) c = Fixed n
type_extent (type.VarBinary n) c = Counted 1
type_extent type.Blob c = lob_extent c.extdta_reference_length (length_extent c.length)
type_extent type.BlobLocator c = Fixed 4
type_extent type.Date c = Fixed 10
type_extent type.Time c = Fixed 8
type_extent type.Timestamp c = Fixed (cond (eqb c.length 0) 26 c.length)
type_extent (type.Graphic n) c = Fixed (graphic_unit c * n)
type_extent (type.VarGraphic n) c = varying_extent n (graphic_unit c)
type_extent type.DbClob c = lob_extent c.extdta_reference_length (length_extent c.length)
type_extent type.ClobLocator c = Fixed 4
type_extent type.DbClobLocator c = Fixed 4
type_extent (type.LobBytes n) c = Materialized (low15 n)
type_extent (type.LobChar n) c = Materialized (low15 n)
type_extent (type.RowId n) c = Fixed n
type_extent type.Boolean c = Fixed (cond (eqb c.length 0) 1 c.length)
type_extent type.Xml c = lob_extent c.extdta_reference_length Inline
type_extent type.Null c = Fixed 0

abbrev pub extent_of : ColumnDescriptor → Extent
extent_of c = type_extent c.db2_type c
