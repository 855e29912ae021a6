-- Lists in a fixed number of places, and what an unused place holds: H4, H5. Assumes nothing.
use Rattle.std.specs.Prelude.{ℕ, ◌-◌, false, List, ◌++◌, length, take, replicate, None}
use Rattle.types.specs.declared.Db2Type.TheVariants as type
use Rattle.types.specs.declared.Db2Value.{Db2Value}
use Rattle.types.specs.declared.ByteOrder.TheVariants.{BigEndian}
use Rattle.types.specs.declared.Origin.TheVariants.{Sda}
use Rattle.types.specs.declared.ColumnDescriptor.{ColumnDescriptor}
use Rattle.types.specs.declared.Columns.{Columns}
use Rattle.types.specs.declared.ValuePlace.{ValuePlace}

-- H4: the places of a list
abbrev pub max_columns : ℕ
max_columns = 128

-- xs in the first places, and a blank in each of the others
unfoldable pub filled : {A : Type 0} → A → List A → List A
filled blank xs = xs ++ replicate (max_columns - length xs) blank

-- H4, N2c: an unused place of a column list
unfoldable pub blank_column : ColumnDescriptor
blank_column =
    record {
      column_index = 0;
      drda_type = 0;
      length = 0;
      precision = 0;
      scale = 0;
      nullable = false;
      origin = Sda;
      ccsid = 0;
      db2_type = type.Null;
      byte_order = BigEndian;
      extdta_reference_length = None;
    }

-- H5: an unused value place
unfoldable pub blank_value : ValuePlace
blank_value = record { value = Db2Value.Null; external = false }

-- a list of columns in its places, with its count
unfoldable pub column_list : List ColumnDescriptor → Columns
column_list cs = record { columns = filled blank_column cs; count = length cs }

-- D3, refusal 5: as many of the columns as the count says
abbrev pub covered : Columns → List ColumnDescriptor
covered l = take l.count l.columns
