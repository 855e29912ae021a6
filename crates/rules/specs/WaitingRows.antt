-- N14: rows that show where its sentences end. Refusal 8's two numbers do not say how many zeros complete a row; and for each kind of column that specs/Waiting.antt leaves out of
-- the second sentence there is a row that is accepted, and with bytes behind it is not. Statements; proofs/WaitingRows.antt proves them. Assumes nothing.
use Rattle.std.specs.Prelude.{ℕ, ◌-◌, ◌≤◌, ◌<◌, ◌≡◌, true, false, List, [], ◌∷◌, ◌++◌, length}
use Rattle.refusal.specs.Refusal.{accepted, input_limit}
use Rattle.unicode_standard.specs.Laws.{AreBytes}
use Rattle.types.specs.declared.Db2Type.{Db2Type}
use Rattle.types.specs.declared.Db2Type.TheVariants as type
use Rattle.types.specs.declared.ColumnDescriptor.{ColumnDescriptor}
use Rattle.types.specs.declared.Columns.{Columns}
use Rattle.types.specs.Places.{column_list}
use Rattle.rules.specs.OwnEnd.{all_carry_own_end}
use Rattle.rules.specs.Walk.{short, walk_row}
use Rattle.rules.specs.Row.{refused_row}
use Rattle.rules.specs.Conversions.{row_answer}
use Rattle.rules.specs.Exceptions.{column, room}
use Rattle.rules.specs.Waiting.{TooShort, Accepts, zeros_for, keeps_acceptance}

-- ---- what a row lacks by refusal 8's numbers, and how many zeros complete it

pub record Distance : Type 0 where
  pub columns : List ColumnDescriptor
  pub row : List ℕ
  pub expected : ℕ
  pub actual : ℕ
  pub needed : ℕ

abbrev pub small_int_column : ColumnDescriptor
small_int_column = column type.SmallInt 2

-- more than the difference: for the columns behind, and for a count of which only the first byte is there
unfoldable pub lacking_more : List Distance
lacking_more =
    record { columns = small_int_column ∷ small_int_column ∷ small_int_column ∷ []; row = 0 ∷ 1 ∷ []; expected = 2; actual = 0; needed = 4 }
    ∷ record { columns = small_int_column ∷ column (type.VarChar 0x7FFF) 0 ∷ []; row = 0 ∷ 1 ∷ 1 ∷ []; expected = 2; actual = 1; needed = 257 }
    ∷ []

-- less: nine bytes that begin 02 are a reference
unfoldable pub lacking_less : List Distance
lacking_less = record { columns = column type.Xml 0 ∷ []; row = 2 ∷ 0 ∷ 0 ∷ 0 ∷ []; expected = 0x02000004; actual = 4; needed = 5 } ∷ []

pub record Lacks (x : Distance) : Type 0 where
  pub carry : all_carry_own_end x.columns ≡ true
  pub two : 2 ≤ length x.row
  pub is_short : walk_row x.columns x.row ≡ short x.expected x.actual
  pub number : zeros_for x.columns x.row ≡ x.needed

abbrev pub AllLackMore : List Distance → Type 0
AllLackMore [] = Unit {0}
AllLackMore (x ∷ xs) = Lacks x × (x.expected - x.actual < x.needed) × AllLackMore xs

abbrev pub AllLackLess : List Distance → Type 0
AllLackLess [] = Unit {0}
AllLackLess (x ∷ xs) = Lacks x × (x.needed < x.expected - x.actual) × AllLackLess xs

-- ---- rows that do not stay accepted

-- a column, and columns behind it that carry their own end; a row, and bytes that are added
pub record Addition : Type 0 where
  pub left_out : ColumnDescriptor
  pub behind : List ColumnDescriptor
  pub row : List ℕ
  pub added : List ℕ

abbrev pub addition_columns : Addition → Columns
addition_columns x = column_list (x.left_out ∷ x.behind)

-- four bytes are a locator, and of nine that begin with them all are a reference
abbrev pub growing_lob : Db2Type → Addition
growing_lob t = record { left_out = column t 0; behind = small_int_column ∷ []; row = 2 ∷ 0 ∷ 0 ∷ 0 ∷ 0 ∷ 1 ∷ []; added = 0 ∷ 0 ∷ 0 ∷ [] }

-- a header of no bytes or of one, behind the two that are skipped, where two bytes say a longer one
abbrev pub growing_header0 : Db2Type → Addition
growing_header0 t = record { left_out = column t 0; behind = []; row = 0xFF ∷ 0 ∷ []; added = 0xFF ∷ 0xFF ∷ [] }

abbrev pub growing_header1 : Db2Type → Addition
growing_header1 t = record { left_out = column t 0; behind = []; row = 0xFF ∷ 0 ∷ 0x80 ∷ []; added = 1 ∷ [] }

unfoldable pub additions : List Addition
additions =
    growing_lob type.Blob
    ∷ growing_lob type.Clob
    ∷ growing_lob type.DbClob
    ∷ growing_header0 (type.VarChar 0x8000)
    ∷ growing_header0 (type.VarGraphic 0x8000)
    ∷ growing_header1 (type.VarChar 0x8001)
    ∷ growing_header1 (type.VarGraphic 0x8001)
    ∷ []

pub record NotKept (release : ℕ) (x : Addition) : Type 0 where
  pub excepted : keeps_acceptance x.left_out ≡ false
  pub carry : all_carry_own_end x.behind ≡ true
  pub two : 2 ≤ length x.row
  pub limit : length (x.row ++ x.added) ≤ input_limit
  pub accepts : (row_answer release (addition_columns x) x.row room).outcome ≡ accepted
  pub is_short : (expected : ℕ) × (actual : ℕ) × (row_answer release (addition_columns x) (x.row ++ x.added) room ≡ refused_row 8 (expected ∷ actual ∷ []))

abbrev pub NoneKept : ℕ → List Addition → Type 0
NoneKept release [] = Unit {0}
NoneKept release (x ∷ xs) = NotKept release x × NoneKept release xs

-- So it is with every column that is left out, whatever its other fields: there are columns behind it that carry their own end, a row of theirs, and bytes
abbrev pub Grows : ColumnDescriptor → Type 0
Grows c =
    (behind : List ColumnDescriptor) × (all_carry_own_end behind ≡ true)
    × (s : List ℕ) × (u : List ℕ) × AreBytes s × AreBytes u × (2 ≤ length s) × (n : ℕ) × Accepts (c ∷ behind) s n × TooShort (c ∷ behind) (s ++ u)

abbrev pub LeftOut : Type 0
LeftOut = (c : ColumnDescriptor) → keeps_acceptance c ≡ false → Grows c
