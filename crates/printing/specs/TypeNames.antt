-- The names and the numbers of types as they are printed: for inner functions; no public promise rests on it. Assumes nothing.
use Rattle.std.specs.Prelude.{ℕ, ◌+◌, ◌*◌, ◌^◌, List, [], ◌∷◌, codes}
use Rattle.printing.specs.declared.type_names.Numbers.{Numbers}
use Rattle.printing.specs.declared.type_names.Numbers.TheVariants as numbers

-- the numbers as one: of two, the second in the high 8 bits
abbrev pub as_one : Numbers → ℕ
as_one numbers.None = 0
as_one (numbers.One n) = n
as_one (numbers.Two m n) = m + n * 2 ^ 8

-- how many they are
abbrev pub count_of : Numbers → ℕ
count_of numbers.None = 0
count_of (numbers.One n) = 1
count_of (numbers.Two m n) = 2

-- the types' names, and how many numbers each type holds: in the order of types/Names: name_of
abbrev pub type_names : List (List ℕ)
type_names =
    codes "SmallInt" ∷ codes "Integer" ∷ codes "BigInt" ∷ codes "Real" ∷ codes "Double" ∷ codes "Decimal" ∷ codes "DecFloat" ∷
    codes "Char" ∷ codes "VarChar" ∷ codes "LongVarChar" ∷ codes "Clob" ∷ codes "Binary" ∷ codes "VarBinary" ∷ codes "Blob" ∷
    codes "BlobLocator" ∷ codes "Date" ∷ codes "Time" ∷ codes "Timestamp" ∷ codes "Graphic" ∷ codes "VarGraphic" ∷ codes "DbClob" ∷
    codes "ClobLocator" ∷ codes "DbClobLocator" ∷ codes "LobBytes" ∷ codes "LobChar" ∷ codes "RowId" ∷ codes "Boolean" ∷ codes "Xml" ∷
    codes "Null" ∷ []

abbrev pub number_counts : List ℕ
number_counts = 0 ∷ 0 ∷ 0 ∷ 0 ∷ 0 ∷ 2 ∷ 1 ∷ 1 ∷ 1 ∷ 0 ∷ 0 ∷ 1 ∷ 1 ∷ 0 ∷ 0 ∷ 0 ∷ 0 ∷ 0 ∷ 1 ∷ 1 ∷ 0 ∷ 0 ∷ 0 ∷ 1 ∷ 1 ∷ 1 ∷ 0 ∷ 0 ∷ 0 ∷ []
