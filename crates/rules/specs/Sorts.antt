-- The sorts of value that a column's type allows: W10. The table is that of the Rust's decode_column_value. Assumes nothing.
use Rattle.std.specs.Prelude.{◌≡◌, true, List, [], ◌∷◌, ◌⊎◌}
use Rattle.std.proofs.Math.Option.{Option, none, some}
use Rattle.types.specs.declared.Db2Type.{Db2Type}
use Rattle.types.specs.declared.Db2Type.TheVariants as type
use Rattle.types.specs.declared.Db2Value.{Db2Value}
use Rattle.types.specs.declared.ColumnDescriptor.{ColumnDescriptor}

-- the sorts of value that are not Null
pub data Sort : Type 0 where
  small_int integer big_int real double decimal char var_char binary blob clob row_id date time timestamp boolean xml : Sort

-- the sort of a value, and none for Null. A NaN is a Real or a Double
abbrev pub sort_of : Db2Value → Option Sort
sort_of Db2Value.Null = none
sort_of (Db2Value.SmallInt z) = some small_int
sort_of (Db2Value.Integer z) = some integer
sort_of (Db2Value.BigInt z) = some big_int
sort_of (Db2Value.Real x) = some real
sort_of (Db2Value.RealNan n) = some real
sort_of (Db2Value.Double x) = some double
sort_of (Db2Value.DoubleNan n) = some double
sort_of (Db2Value.Decimal p) = some decimal
sort_of (Db2Value.Char p) = some char
sort_of (Db2Value.VarChar p) = some var_char
sort_of (Db2Value.Binary p) = some binary
sort_of (Db2Value.Blob p) = some blob
sort_of (Db2Value.Clob p) = some clob
sort_of (Db2Value.RowId p) = some row_id
sort_of (Db2Value.Date p) = some date
sort_of (Db2Value.Time p) = some time
sort_of (Db2Value.Timestamp p) = some timestamp
sort_of (Db2Value.Boolean b) = some boolean
sort_of (Db2Value.Xml p) = some xml

-- W10, the table: the sorts that each type allows besides Null. A DecFloat column is refused (5), so none comes of it
abbrev pub sorts_of : Db2Type → List Sort
sorts_of type.SmallInt = small_int ∷ []
sorts_of type.Integer = integer ∷ []
sorts_of type.BigInt = big_int ∷ []
sorts_of type.Real = real ∷ []
sorts_of type.Double = double ∷ []
sorts_of (type.Decimal precision scale) = decimal ∷ []
sorts_of (type.DecFloat digits) = []
sorts_of (type.Char n) = char ∷ []
sorts_of (type.VarChar n) = var_char ∷ clob ∷ []
sorts_of type.LongVarChar = var_char ∷ []
sorts_of type.Clob = clob ∷ []
sorts_of (type.Binary n) = binary ∷ []
sorts_of (type.VarBinary n) = binary ∷ []
sorts_of type.Blob = blob ∷ []
sorts_of type.BlobLocator = blob ∷ []
sorts_of type.Date = date ∷ []
sorts_of type.Time = time ∷ []
sorts_of type.Timestamp = timestamp ∷ []
sorts_of (type.Graphic n) = char ∷ []
sorts_of (type.VarGraphic n) = var_char ∷ clob ∷ []
sorts_of type.DbClob = clob ∷ []
sorts_of type.ClobLocator = clob ∷ []
sorts_of type.DbClobLocator = clob ∷ []
sorts_of (type.LobBytes n) = var_char ∷ blob ∷ []
sorts_of (type.LobChar n) = clob ∷ []
sorts_of (type.RowId n) = row_id ∷ []
sorts_of type.Boolean = boolean ∷ []
sorts_of type.Xml = xml ∷ []
sorts_of type.Null = []

-- k is one of the sorts ks
abbrev pub Among : List Sort → Sort → Type 0
Among [] k = ⊥
Among (x ∷ xs) k = (x ≡ k) ⊎ Among xs k

-- a column allows the sort of a value. Null only where the column is nullable or of type Null
abbrev pub AllowsSort : ColumnDescriptor → Option Sort → Type 0
AllowsSort c none = (c.nullable ≡ true) ⊎ (c.db2_type ≡ type.Null)
AllowsSort c (some k) = Among (sorts_of c.db2_type) k

abbrev pub Allows : ColumnDescriptor → Db2Value → Type 0
Allows c v = AllowsSort c (sort_of v)
