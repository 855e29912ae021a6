-- The column that an SDA describes: Q9 to Q11, N2a. Assumes nothing.
use Rattle.std.specs.Prelude.{ℕ, ◌+◌, Bool, cond, List, [], ◌∷◌, leb, eqb, length, get_or, None, Option, Some}
use Rattle.types.specs.Types.{base_of, nullable_bit, from_drda_type}
use Rattle.types.specs.Names.{bit8000, low15}
use Rattle.types.specs.declared.Db2Type.{Db2Type}
use Rattle.types.specs.declared.Db2Type.TheVariants as type
use Rattle.types.specs.declared.ByteOrder.{ByteOrder}
use Rattle.types.specs.declared.ByteOrder.TheVariants.{BigEndian, LittleEndian}
use Rattle.types.specs.declared.Origin.{Origin}
use Rattle.types.specs.declared.Origin.TheVariants.{Sda}
use Rattle.types.specs.declared.ColumnDescriptor.{ColumnDescriptor}
use Rattle.numbers.specs.Number.{unsigned}
use Rattle.column.specs.declared.Numbers.{Numbers}

-- the number in the two bytes at a place, big-endian; Q9: 0 where one of them is lacking
unfoldable pub field16 : List ℕ → ℕ → ℕ
field16 d at = cond (leb (at + 2) (length d)) (unsigned BigEndian (get_or d at 0 ∷ get_or d (at + 1) 0 ∷ [])) 0

-- term: Q11
unfoldable pub reference_length : ℕ → ℕ → Option ℕ
reference_length c n =
    cond (leb 0xC8 c) (cond (leb c 0xCF) (cond (bit8000 n) (Some (low15 n)) None) None) None

abbrev pub numbers_of : ℕ → ℕ → ℕ → Numbers
numbers_of precision scale ccsid = record { precision = precision; scale = scale; ccsid = ccsid }

-- a column of type code c and length n that came from o, not yet numbered
abbrev pub unnumbered : ℕ → ℕ → Numbers → Bool → Db2Type → ByteOrder → Origin → ColumnDescriptor
unnumbered c n m nullable t order o =
    record {
      column_index = 0;
      drda_type = c;
      length = n;
      precision = m.precision;
      scale = m.scale;
      nullable = nullable;
      origin = o;
      ccsid = m.ccsid;
      db2_type = t;
      byte_order = order;
      extdta_reference_length = reference_length c n;
    }

-- Q9: precision, scale and CCSID, by the base of the type code
unfoldable pub sda_numbers : List ℕ → Numbers
sda_numbers d =
    cond (eqb (base_of (get_or d 0 0)) 0x0C)
    (cond (leb 5 (length d)) (numbers_of (get_or d 3 0) (get_or d 4 0) (field16 d 5)) (numbers_of 0 0 (field16 d 5)))
    (numbers_of 0 0 (field16 d 3))

-- Q9: bases 30 and 32 are characters only where there is a CCSID
unfoldable pub sda_type : ℕ → ℕ → Numbers → Db2Type
sda_type c n m =
    let listed = (from_drda_type c n m.precision m.scale).db2_type in
    cond (eqb m.ccsid 0)
    (cond (eqb (base_of c) 0x30) (type.Binary n) (cond (eqb (base_of c) 0x32) (type.VarBinary n) listed))
    listed

-- Q9, Q10, N2a: the column of the data d of an SDA
unfoldable pub sda_column : List ℕ → ColumnDescriptor
sda_column d =
    let c = get_or d 0 0 in
    let n = field16 d 1 in
    let m = sda_numbers d in
    unnumbered c n m (nullable_bit c) (sda_type c n m) LittleEndian Sda
