-- A type's name, the numbers that it holds, and the two parts of a length; whether a type is one of a list of types by name, whatever its numbers; tests of columns. Assumes nothing.
use Rattle.std.specs.Prelude.{ℕ, ◌+◌, ◌*◌, ◌%◌, ◌^◌, Bool, true, false, cond, ◌&&◌, ◌||◌, List, [], ◌∷◌, leb, eqb, None, Option, Some}
use Rattle.types.specs.declared.Db2Type.{Db2Type}
use Rattle.types.specs.declared.Db2Type.TheVariants as type
use Rattle.types.specs.declared.ByteOrder.{ByteOrder}
use Rattle.types.specs.declared.ByteOrder.TheVariants.{BigEndian, LittleEndian}
use Rattle.types.specs.declared.ColumnDescriptor.{ColumnDescriptor}

-- the place of a type's name in the enum
abbrev pub name_of : Db2Type → ℕ
name_of type.SmallInt = 0
name_of type.Integer = 1
name_of type.BigInt = 2
name_of type.Real = 3
name_of type.Double = 4
name_of (type.Decimal p s) = 5
name_of (type.DecFloat d) = 6
name_of (type.Char n) = 7
name_of (type.VarChar n) = 8
name_of type.LongVarChar = 9
name_of type.Clob = 10
name_of (type.Binary n) = 11
name_of (type.VarBinary n) = 12
name_of type.Blob = 13
name_of type.BlobLocator = 14
name_of type.Date = 15
name_of type.Time = 16
name_of type.Timestamp = 17
name_of (type.Graphic n) = 18
name_of (type.VarGraphic n) = 19
name_of type.DbClob = 20
name_of type.ClobLocator = 21
name_of type.DbClobLocator = 22
name_of (type.LobBytes n) = 23
name_of (type.LobChar n) = 24
name_of (type.RowId n) = 25
name_of type.Boolean = 26
name_of type.Xml = 27
name_of type.Null = 28

-- W6: the numbers that a type holds, as one. Of Decimal the precision is in the low 8 bits and the scale in the high 8; 0 where a type holds none
abbrev pub own_numbers : Db2Type → ℕ
own_numbers type.SmallInt = 0
own_numbers type.Integer = 0
own_numbers type.BigInt = 0
own_numbers type.Real = 0
own_numbers type.Double = 0
own_numbers (type.Decimal p s) = p + s * 2 ^ 8
own_numbers (type.DecFloat d) = d
own_numbers (type.Char n) = n
own_numbers (type.VarChar n) = n
own_numbers type.LongVarChar = 0
own_numbers type.Clob = 0
own_numbers (type.Binary n) = n
own_numbers (type.VarBinary n) = n
own_numbers type.Blob = 0
own_numbers type.BlobLocator = 0
own_numbers type.Date = 0
own_numbers type.Time = 0
own_numbers type.Timestamp = 0
own_numbers (type.Graphic n) = n
own_numbers (type.VarGraphic n) = n
own_numbers type.DbClob = 0
own_numbers type.ClobLocator = 0
own_numbers type.DbClobLocator = 0
own_numbers (type.LobBytes n) = n
own_numbers (type.LobChar n) = n
own_numbers (type.RowId n) = n
own_numbers type.Boolean = 0
own_numbers type.Xml = 0
own_numbers type.Null = 0

-- of a length of 16 bits: its bit 8000, and its low 15 bits
abbrev pub bit8000 : ℕ → Bool
bit8000 n = leb 0x8000 n

abbrev pub low15 : ℕ → ℕ
low15 n = n % 0x8000

-- t has the name of one of the types us
abbrev pub named_in : List Db2Type → Db2Type → Bool
named_in [] t = false
named_in (u ∷ us) t = eqb (name_of u) (name_of t) || named_in us t

abbrev pub is_dec_float : ColumnDescriptor → Bool
is_dec_float c = named_in (type.DecFloat 0 ∷ []) c.db2_type

abbrev pub is_absent : Option ℕ → Bool
is_absent None = true
is_absent (Some w) = false

abbrev pub is_little_endian : ByteOrder → Bool
is_little_endian BigEndian = false
is_little_endian LittleEndian = true

-- term: W3. The units of a graphic column have two bytes, not one
abbrev pub graphic_length_is_character_count : ColumnDescriptor → Bool
graphic_length_is_character_count c = is_little_endian c.byte_order && eqb c.ccsid 1200

abbrev pub graphic_unit : ColumnDescriptor → ℕ
graphic_unit c = cond (graphic_length_is_character_count c) 2 1
