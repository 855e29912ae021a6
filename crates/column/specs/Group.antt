-- The column of a LID of a D0 group, and the environment entries that declare LIDs: Q3, Q5, Q6, Q10, N2a and N2b. Assumes nothing.
use Rattle.std.specs.Prelude.{ℕ, cond, List, [], ◌∷◌, Option, None, Some, eqb}
use Rattle.types.specs.Types.{base_of, nullable_bit, listed_or, from_drda_type}
use Rattle.types.specs.FixedLength.{packed_length}
use Rattle.types.specs.Names.{named_in}
use Rattle.types.specs.declared.Db2Type.{Db2Type}
use Rattle.types.specs.declared.Db2Type.TheVariants as type
use Rattle.types.specs.declared.ByteOrder.TheVariants.{BigEndian}
use Rattle.types.specs.declared.Origin.TheVariants.{UndeclaredLid, DeclaredLid}
use Rattle.types.specs.declared.ColumnDescriptor.{ColumnDescriptor}
use Rattle.numbers.specs.Number.{unsigned}
use Rattle.column.specs.declared.EnvEntry.{EnvEntry}
use Rattle.column.specs.Column.{field16, numbers_of, unnumbered}

-- term: Q3. The environment entry of the type that an MDD left and the data d of the SDA after it
unfoldable pub entry_of : ℕ → List ℕ → EnvEntry
entry_of mdd d = record { drda_type = mdd; ccsid = field16 d 4 }

-- a LID that is not declared
unfoldable pub no_entry : Option EnvEntry
no_entry = None

-- Q3: the known entry where there is one, else the later one
unfoldable pub first_entry : Option EnvEntry → Option EnvEntry → Option EnvEntry
first_entry None later = later
first_entry (Some known) later = Some known

-- Q6: the type of the LID l with the length n, where l is not declared and its base is not 0E
unfoldable pub group_type : ℕ → ℕ → Db2Type
group_type l n =
    listed_or (from_drda_type l n 0 0).db2_type
    ((0x0A, type.Double)
    ∷ (0x0C, type.Real)
    ∷ (0x36, type.Graphic n)
    ∷ (0x38, type.VarGraphic n)
    ∷ (0x3A, type.VarGraphic n)
    ∷ (0xCE, type.Clob)
    ∷ [])
    (base_of l)

-- Q6: the types with CCSID 1208
abbrev pub character_types : List Db2Type
character_types = type.Char 0 ∷ type.VarChar 0 ∷ type.LongVarChar ∷ type.Clob ∷ type.ClobLocator ∷ type.DbClobLocator ∷ type.LobChar 0 ∷ type.Date ∷ type.Time ∷ type.Timestamp ∷ type.Xml ∷ []

abbrev pub group_ccsid : Db2Type → ℕ
group_ccsid t = cond (named_in character_types t) 1208 0

-- Q6, N2a: a LID l that is not declared, with its attribute bytes a and b
unfoldable pub undeclared_column : ℕ → ℕ → ℕ → ColumnDescriptor
undeclared_column l a b =
    let n = unsigned BigEndian (a ∷ b ∷ []) in
    let t = group_type l n in
    cond (eqb (base_of l) 0x0E) (unnumbered l (packed_length a) (numbers_of a b 0) (nullable_bit l) (type.Decimal a b) BigEndian UndeclaredLid)
    (unnumbered l n (numbers_of 0 0 (group_ccsid t)) (nullable_bit l) t BigEndian UndeclaredLid)

-- Q5, N2a: a LID that the entry e declares, with its attribute bytes a and b
unfoldable pub declared_column : EnvEntry → ℕ → ℕ → ColumnDescriptor
declared_column e a b =
    let n = unsigned BigEndian (a ∷ b ∷ []) in
    let r = from_drda_type e.drda_type n 0 0 in
    unnumbered e.drda_type n (numbers_of 0 0 e.ccsid) r.nullable r.db2_type BigEndian DeclaredLid

-- N2b: the column of a LID, by what the environment has for it
unfoldable pub lid_column : Option EnvEntry → ℕ → ℕ → ℕ → ColumnDescriptor
lid_column None l a b = undeclared_column l a b
lid_column (Some e) l a b = declared_column e a b
