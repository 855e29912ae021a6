-- Which columns carry their own end: W9. Assumes nothing.
use Rattle.std.specs.Prelude.{Bool, true, not, ◌&&◌, ◌||◌, List, [], ◌∷◌, leb, eqb}
use Rattle.types.specs.declared.Db2Type.{Db2Type}
use Rattle.types.specs.declared.Db2Type.TheVariants as type
use Rattle.types.specs.declared.ColumnDescriptor.{ColumnDescriptor}
use Rattle.types.specs.Names.{own_numbers, bit8000, low15, named_in, is_absent}

-- the first exception
abbrev pub is_long_materialized : Db2Type → Bool
is_long_materialized t = named_in (type.LobBytes 0 ∷ type.LobChar 0 ∷ []) t && leb 1024 (low15 (own_numbers t))

-- the second
abbrev pub is_lob_of_length0 : Db2Type → ColumnDescriptor → Bool
is_lob_of_length0 t c = named_in (type.Blob ∷ type.Clob ∷ type.DbClob ∷ []) t && (is_absent c.extdta_reference_length && eqb c.length 0)

-- the third
abbrev pub is_tiny_header : Db2Type → Bool
is_tiny_header t = named_in (type.VarChar 0 ∷ type.VarGraphic 0 ∷ []) t && (bit8000 (own_numbers t) && leb (low15 (own_numbers t)) 1)

-- term: W9
abbrev pub type_carries_own_end : Db2Type → ColumnDescriptor → Bool
type_carries_own_end t c = not (is_long_materialized t || (is_lob_of_length0 t c || is_tiny_header t))

unfoldable pub carries_own_end : ColumnDescriptor → Bool
carries_own_end c = type_carries_own_end c.db2_type c

unfoldable pub all_carry_own_end : List ColumnDescriptor → Bool
all_carry_own_end [] = true
all_carry_own_end (c ∷ cs) = carries_own_end c && all_carry_own_end cs
