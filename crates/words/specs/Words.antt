-- A column as two words of 64 bits, and a type as the low 24 bits of the first: the layout of the calls for C and Rust. Assumes nothing.
use Rattle.std.specs.Prelude.{ℕ, ◌+◌, ◌*◌, ◌/◌, ◌%◌, ◌^◌, cond, ◌&&◌, List, [], ◌∷◌, ltb, eqb, get_or, None, Option, Some}
use Rattle.types.specs.Names.{name_of, own_numbers, is_absent, is_little_endian}
use Rattle.types.specs.declared.Db2Type.{Db2Type}
use Rattle.types.specs.declared.Db2Type.TheVariants as type
use Rattle.types.specs.declared.ByteOrder.{ByteOrder}
use Rattle.types.specs.declared.Origin.{Origin}
use Rattle.types.specs.declared.Origin.TheVariants.{Sda, UndeclaredLid, DeclaredLid}
use Rattle.types.specs.declared.ColumnDescriptor.{ColumnDescriptor}

-- a type word: bits 0 to 7 the place of the type's name, bits 8 to 23 the numbers that it holds
abbrev pub pack_type : Db2Type → ℕ
pack_type t = name_of t + own_numbers t * 2 ^ 8

-- 1 for little-endian
abbrev pub little_endian_bit : ByteOrder → ℕ
little_endian_bit o = cond (is_little_endian o) 1 0

-- 1 where a reference length is there
abbrev pub reference_bit : Option ℕ → ℕ
reference_bit r = cond (is_absent r) 0 1

-- the reference length, and 0 where there is none
abbrev pub reference_width : Option ℕ → ℕ
reference_width None = 0
reference_width (Some n) = n

abbrev pub origin_number : Origin → ℕ
origin_number Sda = 0
origin_number UndeclaredLid = 1
origin_number DeclaredLid = 2

-- bits 0 to 23 the type word, 24 to 31 the DRDA type code, 32 to 47 the column's number, 48 nullable, 49 little-endian, 50 whether a reference
-- length is there, 51 and 52 the origin; bits 53 to 63 are 0
abbrev pub first_word : ColumnDescriptor → ℕ
first_word c =
    pack_type c.db2_type
    + c.drda_type * 2 ^ 24
    + c.column_index * 2 ^ 32
    + cond c.nullable 1 0 * 2 ^ 48
    + little_endian_bit c.byte_order * 2 ^ 49
    + reference_bit c.extdta_reference_length * 2 ^ 50
    + origin_number c.origin * 2 ^ 51

-- bits 0 to 15 the length, 16 to 23 the precision, 24 to 31 the scale, 32 to 47 the CCSID, 48 to 63 the reference length
abbrev pub second_word : ColumnDescriptor → ℕ
second_word c =
    c.length
    + c.precision * 2 ^ 16
    + c.scale * 2 ^ 24
    + c.ccsid * 2 ^ 32
    + reference_width c.extdta_reference_length * 2 ^ 48

-- the words of columns, two for each, in order
unfoldable pub pack_columns : List ColumnDescriptor → List ℕ
pack_columns [] = []
pack_columns (c ∷ cs) = first_word c ∷ second_word c ∷ pack_columns cs

-- the types in the order of their names, with n for the numbers that they hold
abbrev pub types_with : ℕ → List Db2Type
types_with n =
    type.SmallInt ∷ type.Integer ∷ type.BigInt ∷ type.Real ∷ type.Double ∷ type.Decimal (n % 2 ^ 8) (n / 2 ^ 8) ∷ type.DecFloat (n % 2 ^ 8)
    ∷ type.Char n ∷ type.VarChar n ∷ type.LongVarChar ∷ type.Clob ∷ type.Binary n ∷ type.VarBinary n ∷ type.Blob ∷ type.BlobLocator
    ∷ type.Date ∷ type.Time ∷ type.Timestamp ∷ type.Graphic n ∷ type.VarGraphic n ∷ type.DbClob ∷ type.ClobLocator ∷ type.DbClobLocator
    ∷ type.LobBytes n ∷ type.LobChar n ∷ type.RowId n ∷ type.Boolean ∷ type.Xml ∷ []

-- the type whose name has this place, with n for its numbers
unfoldable pub type_named : ℕ → ℕ → Db2Type
type_named tag n = get_or (types_with n) tag type.Null

-- the type whose word w is, where there is one: below 2^24, and the word of the type that its bits name
unfoldable pub read_type : ℕ → Option Db2Type
read_type w =
    let t = type_named (w % 2 ^ 8) (w / 2 ^ 8) in
    cond (ltb w (2 ^ 24) && eqb (pack_type t) w) (Some t) None
