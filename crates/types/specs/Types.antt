-- The type that a DRDA type code stands for: Y1, Y2 and Y4 (the Rust: from_drda_type). Assumes nothing.
use Rattle.std.specs.Prelude.{ℕ, ◌-◌, ◌%◌, Bool, false, cond, List, [], ◌∷◌, ltb, eqb}
use Rattle.types.specs.declared.Db2Type.{Db2Type}
use Rattle.types.specs.declared.Db2Type.TheVariants as type
use Rattle.types.specs.declared.DrdaType.{DrdaType}

-- Y1: the base codes, each with its type in a column of length n, precision p and scale s. Y4: the digits of a DecFloat
unfoldable pub base_types : ℕ → ℕ → ℕ → List (ℕ × Db2Type)
base_types n p s =
    (0x02, type.Integer)
    ∷ (0x04, type.SmallInt)
    ∷ (0x0A, type.Real)
    ∷ (0x0C, type.Decimal p s)
    ∷ (0x0E, type.Double)
    ∷ (0x16, type.BigInt)
    ∷ (0x18, type.BlobLocator)
    ∷ (0x1A, type.ClobLocator)
    ∷ (0x1C, type.DbClobLocator)
    ∷ (0x1E, type.RowId n)
    ∷ (0xBA, type.DecFloat (cond (ltb 8 n) 34 16))
    ∷ (0x20, type.Date)
    ∷ (0x22, type.Time)
    ∷ (0x24, type.Timestamp)
    ∷ (0x30, type.Char n)
    ∷ (0x32, type.VarChar n)
    ∷ (0x34, type.LongVarChar)
    ∷ (0x3C, type.Graphic n)
    ∷ (0x3E, type.VarGraphic n)
    ∷ (0x60, type.Binary n)
    ∷ (0x62, type.VarBinary n)
    ∷ (0xBE, type.Boolean)
    ∷ (0xC8, type.Blob)
    ∷ (0xCA, type.Clob)
    ∷ (0xCC, type.DbClob)
    ∷ (0xDC, type.Xml)
    ∷ []

-- the type beside a code, or t where the code is not listed
unfoldable pub listed_or : Db2Type → List (ℕ × Db2Type) → ℕ → Db2Type
listed_or t [] c = t
listed_or t (e ∷ es) c = cond (eqb e.0 c) e.1 (listed_or t es c)

-- Y2: the bit that says nullable, and the base code, which is the type code without it
abbrev pub nullable_bit : ℕ → Bool
nullable_bit c = eqb (c % 2) 1

abbrev pub base_of : ℕ → ℕ
base_of c = c - c % 2

abbrev pub drda_type : Db2Type → Bool → DrdaType
drda_type t b = record { db2_type = t; nullable = b }

-- Y1, Y2: 50 and 51 come before the table, and VarChar after it
unfoldable pub from_drda_type : ℕ → ℕ → ℕ → ℕ → DrdaType
from_drda_type c n p s =
    cond (eqb c 0x50) (drda_type (type.LobBytes n) false)
    (cond (eqb c 0x51) (drda_type (type.LobChar n) false)
    (drda_type (listed_or (type.VarChar n) (base_types n p s) (base_of c)) (nullable_bit c)))
