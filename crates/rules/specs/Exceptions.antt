-- Why the columns that W9 lists have no end of their own: for each exception of specs/OwnEnd.antt a row that a longer input changes. Assumes nothing.
use Rattle.std.specs.Prelude.{ℕ, ◌≤◌, Bool, true, false, ◌≡◌, List, [], ◌∷◌, ◌++◌, length, take, replicate, None}
use Rattle.refusal.specs.Refusal.{input_limit}
use Rattle.types.specs.declared.Db2Type.{Db2Type}
use Rattle.types.specs.declared.Db2Type.TheVariants as type
use Rattle.types.specs.declared.ByteOrder.TheVariants.{BigEndian}
use Rattle.types.specs.declared.Origin.TheVariants.{Sda}
use Rattle.types.specs.declared.ColumnDescriptor.{ColumnDescriptor}
use Rattle.types.specs.declared.Columns.{Columns}
use Rattle.types.specs.Places.{column_list}
use Rattle.rules.specs.OwnEnd.{carries_own_end, all_carry_own_end}
use Rattle.rules.specs.Conversions.{row_answer, row_text}
use Rattle.rules.specs.Demand3.{AcceptedRow, LargeEnough, Same}

-- a column of a type, nullable or not, with a length of its own beside the type's
abbrev pub column_that : Bool → Db2Type → ℕ → ColumnDescriptor
column_that nullable_too t n =
    record {
      column_index = 0;
      drda_type = 0;
      length = n;
      precision = 0;
      scale = 0;
      nullable = nullable_too;
      origin = Sda;
      ccsid = 1208;
      db2_type = t;
      byte_order = BigEndian;
      extdta_reference_length = None;
    }

abbrev pub column : Db2Type → ℕ → ColumnDescriptor
column t n = column_that false t n

-- a column behind others that carry their own end; an input, and one that begins with the bytes that the first uses
pub record Exception : Type 0 where
  pub before : List ColumnDescriptor
  pub last : ColumnDescriptor
  pub input : List ℕ
  pub longer_input : List ℕ

-- the columns, and a text buffer for the rows below
abbrev pub columns_in : Exception → Columns
columns_in x = column_list (x.before ++ (x.last ∷ []))

abbrev pub room : List ℕ
room = replicate 64 0

-- 16 bytes that are hexadecimal digits are a reference, and so are 17
abbrev pub materialized : Db2Type → Exception
materialized t = record { before = []; last = column t 0; input = replicate 16 0x30; longer_input = replicate 17 0x30 }

-- a LOB of length 0: four bytes are a locator, and nine that begin with the same four are a reference
abbrev pub lob_of_length0 : Db2Type → Exception
lob_of_length0 t = record { before = []; last = column t 0; input = 0x02 ∷ replicate 3 0; longer_input = 0x02 ∷ replicate 8 0 }

-- a header of no bytes or of one, where the next bytes say another length
abbrev pub header_of0 : Db2Type → Exception
header_of0 t = record { before = column type.SmallInt 2 ∷ []; last = column t 0; input = 0 ∷ 1 ∷ []; longer_input = 0 ∷ 1 ∷ 0x80 ∷ 0 ∷ [] }

abbrev pub header_of1 : Db2Type → Exception
header_of1 t = record { before = column type.SmallInt 2 ∷ []; last = column t 0; input = 0 ∷ 1 ∷ 0x80 ∷ []; longer_input = 0 ∷ 1 ∷ 0x80 ∷ 0 ∷ [] }

unfoldable pub exceptions : List Exception
exceptions =
    materialized (type.LobBytes 1024)
    ∷ materialized (type.LobChar 1024)
    ∷ lob_of_length0 type.Blob
    ∷ lob_of_length0 type.Clob
    ∷ lob_of_length0 type.DbClob
    ∷ header_of0 (type.VarChar 0x8000)
    ∷ header_of0 (type.VarGraphic 0x8000)
    ∷ header_of1 (type.VarChar 0x8001)
    ∷ header_of1 (type.VarGraphic 0x8001)
    ∷ []

-- At a release the row is accepted, as demand 3 asks, and only its last column lacks an end. The longer input is within the limit of refusal 4 and begins with the bytes used,
-- and the text buffer is large enough; yet its answer is another
pub record Breaks (release : ℕ) (x : Exception) : Type 0 where
  pub lacks_end : carries_own_end x.last ≡ false
  pub others_carry : all_carry_own_end x.before ≡ true
  pub accepted_row : AcceptedRow (row_answer release) (row_text release) (columns_in x) x.input room
  pub limit : length x.longer_input ≤ input_limit
  pub begins_alike : take (row_answer release (columns_in x) x.input room).used x.longer_input ≡ take (row_answer release (columns_in x) x.input room).used x.input
  pub enough : LargeEnough (row_answer release (columns_in x) x.input room) room
  pub differs : Same (row_answer release) (row_text release) (columns_in x) x.longer_input room x.input room → ⊥

abbrev pub AllBreak : ℕ → List Exception → Type 0
AllBreak release [] = Unit {0}
AllBreak release (x ∷ xs) = Breaks release x × AllBreak release xs
