-- The byte count of a type's values, where the type alone tells it: Y3 (the Rust: fixed_length). Assumes nothing.
use Rattle.std.specs.Prelude.{ℕ, ◌+◌, ◌*◌, ◌/◌, cond, eqb, Option, Some, None}
use Rattle.types.specs.Names.{low15}
use Rattle.types.specs.declared.Db2Type.{Db2Type}
use Rattle.types.specs.declared.Db2Type.TheVariants as type

-- P5: of a packed decimal
abbrev pub packed_length : ℕ → ℕ
packed_length precision = (precision + 2) / 2

abbrev pub fixed_length : Db2Type → Option ℕ
fixed_length type.SmallInt = Some 2
fixed_length type.Integer = Some 4
fixed_length type.BigInt = Some 8
fixed_length type.Real = Some 4
fixed_length type.Double = Some 8
fixed_length (type.Decimal p s) = Some (packed_length p)
fixed_length (type.DecFloat d) = Some (cond (eqb d 34) 16 8)
fixed_length (type.Char n) = Some n
fixed_length (type.VarChar n) = None
fixed_length type.LongVarChar = None
fixed_length type.Clob = None
fixed_length (type.Binary n) = Some n
fixed_length (type.VarBinary n) = None
fixed_length type.Blob = None
fixed_length type.BlobLocator = Some 4
fixed_length type.Date = Some 10
fixed_length type.Time = Some 8
fixed_length type.Timestamp = Some 26
fixed_length (type.Graphic n) = Some (n * 2)
fixed_length (type.VarGraphic n) = None
fixed_length type.DbClob = None
fixed_length type.ClobLocator = Some 4
fixed_length type.DbClobLocator = Some 4
fixed_length (type.LobBytes n) = Some (low15 n)
fixed_length (type.LobChar n) = Some (low15 n)
fixed_length (type.RowId n) = Some n
fixed_length type.Boolean = Some 1
fixed_length type.Xml = None
fixed_length type.Null = None
