-- The column that two words say, and the columns that words say: what specs/Words.antt packs, unpacked. Assumes nothing.
use Rattle.std.specs.Prelude.{ℕ, ◌/◌, ◌%◌, ◌^◌, Bool, cond, ◌&&◌, List, [], ◌∷◌, eqb, None, Option, Some}
use Rattle.types.specs.declared.ByteOrder.{ByteOrder}
use Rattle.types.specs.declared.ByteOrder.TheVariants.{BigEndian, LittleEndian}
use Rattle.types.specs.declared.Origin.{Origin}
use Rattle.types.specs.declared.Origin.TheVariants.{Sda, UndeclaredLid, DeclaredLid}
use Rattle.types.specs.declared.ColumnDescriptor.{ColumnDescriptor}
use Rattle.words.specs.Words.{first_word, second_word, type_named}

-- what a bit says of the byte order, and of a reference length of n
abbrev pub order_named : ℕ → ByteOrder
order_named bit = cond (eqb bit 1) LittleEndian BigEndian

abbrev pub reference_named : ℕ → ℕ → Option ℕ
reference_named bit n = cond (eqb bit 1) (Some n) None

-- there is no origin of the number 3: it names that of 0, so that the words are no column's
abbrev pub origin_named : ℕ → Origin
origin_named n = cond (eqb n 1) UndeclaredLid (cond (eqb n 2) DeclaredLid Sda)

-- the column that the bits of two words name, each field from its place in the layout
unfoldable pub column_named : ℕ → ℕ → ColumnDescriptor
column_named first second =
    record {
      column_index = first / 2 ^ 32 % 2 ^ 8;
      drda_type = first / 2 ^ 24 % 2 ^ 8;
      length = second % 2 ^ 16;
      precision = second / 2 ^ 16 % 2 ^ 8;
      scale = second / 2 ^ 24 % 2 ^ 8;
      nullable = eqb (first / 2 ^ 48 % 2) 1;
      origin = origin_named (first / 2 ^ 51 % 2 ^ 2);
      ccsid = second / 2 ^ 32 % 2 ^ 16;
      db2_type = type_named (first % 2 ^ 8) (first / 2 ^ 8 % 2 ^ 16);
      byte_order = order_named (first / 2 ^ 49 % 2);
      extdta_reference_length = reference_named (first / 2 ^ 50 % 2) (second / 2 ^ 48 % 2 ^ 16);
    }

-- two words are a column's: they are the words of the column that their bits name
unfoldable pub is_column : ℕ → ℕ → Bool
is_column first second = eqb (first_word (column_named first second)) first && eqb (second_word (column_named first second)) second

-- the column whose words these are, where there is one
unfoldable pub read_column : ℕ → ℕ → Option ColumnDescriptor
read_column first second = cond (is_column first second) (Some (column_named first second)) None

abbrev pub joined : Option ColumnDescriptor → Option (List ColumnDescriptor) → Option (List ColumnDescriptor)
joined (Some c) (Some cs) = Some (c ∷ cs)
joined (Some c) None = None
joined None cs = None

-- the columns whose words these are, two words for each, where every two are a column's and none is left over
unfoldable pub read_columns : List ℕ → Option (List ColumnDescriptor)
read_columns [] = Some []
read_columns (first ∷ []) = None
read_columns (first ∷ second ∷ words) = joined (read_column first second) (read_columns words)
