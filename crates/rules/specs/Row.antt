-- The row call, what it answers and what it leaves in the text buffer: H1, H5, H7, refusals 3, 4, 5, 8 and 9. Assumes nothing.
use Rattle.std.specs.Prelude.{ℕ, ◌+◌, Bool, false, cond, ◌||◌, List, [], ◌∷◌, ◌++◌, length, ltb, eqb, Result, Ok, Err}
use Rattle.refusal.specs.declared.Refusal.{Refusal}
use Rattle.refusal.specs.Refusal.{Told, accepted, refused, refusal_number, refusal_values, input_limit}
use Rattle.buffer.specs.Buffer.{overwritten}
use Rattle.types.specs.declared.Db2Value.{Db2Value}
use Rattle.types.specs.declared.Place.{Place}
use Rattle.types.specs.declared.ColumnDescriptor.{ColumnDescriptor}
use Rattle.types.specs.declared.Columns.{Columns}
use Rattle.types.specs.declared.ValuePlace.{ValuePlace}
use Rattle.types.specs.declared.Row.{Row}
use Rattle.types.specs.Names.{is_dec_float}
use Rattle.types.specs.Places.{max_columns, filled, blank_value}
pub use Rattle.types.specs.Places.{covered}
use Rattle.numbers.specs.Number.{number_value}
use Rattle.rules.specs.Meaning.{ByteSort, binary, blob, TextSort, decimal, char, var_char, clob, row_id, date, time, timestamp, xml, Item, nothing, numeric, boolean, part, text, Conversions, item_in, refers_in}
use Rattle.rules.specs.Walk.{Cell, absent, present, Walk, done, short, skip_of, walk_body}

pub record RowTold : Type 0 where
  pub outcome : Told
  pub places : List ValuePlace
  pub used : ℕ
  pub replaced : ℕ

-- ---- values with their places

abbrev pub place : ℕ → ℕ → Place
place at n = record { start = at; len = n }

abbrev pub part_value : ByteSort → Place → Db2Value
part_value binary p = Db2Value.Binary p
part_value blob p = Db2Value.Blob p

abbrev pub text_value : TextSort → Place → Db2Value
text_value decimal p = Db2Value.Decimal p
text_value char p = Db2Value.Char p
text_value var_char p = Db2Value.VarChar p
text_value clob p = Db2Value.Clob p
text_value row_id p = Db2Value.RowId p
text_value date p = Db2Value.Date p
text_value time p = Db2Value.Time p
text_value timestamp p = Db2Value.Timestamp p
text_value xml p = Db2Value.Xml p

-- H5: where a part of n bytes begins that is found at a place; an empty one at 0
unfoldable pub start_of : ℕ → ℕ → ℕ
start_of n at = cond (eqb n 0) 0 at

-- H5: the value of an item whose bytes begin at place `at` of the input. `next` is the next unwritten byte of the text buffer
unfoldable pub value_of : Item → ℕ → ℕ → Db2Value
value_of nothing at next = Db2Value.Null
value_of (numeric x) at next = number_value x
value_of (boolean b) at next = Db2Value.Boolean b
value_of (part k from n) at next = part_value k (place (start_of n (at + from)) n)
value_of (text k t) at next = text_value k (place next (length t.text_bytes))

unfoldable pub item_text : Item → List ℕ
item_text nothing = []
item_text (numeric x) = []
item_text (boolean b) = []
item_text (part k from n) = []
item_text (text k t) = t.text_bytes

-- N4c: how many U+FFFD were put in
unfoldable pub item_replaced : Item → ℕ
item_replaced nothing = 0
item_replaced (numeric x) = 0
item_replaced (boolean b) = 0
item_replaced (part k from n) = 0
item_replaced (text k t) = t.replaced

module _ (L : Conversions) where
  unfoldable pub cell_item : Cell → Item
  cell_item absent = nothing
  cell_item (present c at s) = item_in L c s

  unfoldable pub cell_value : Cell → ℕ → ValuePlace
  cell_value absent next = blank_value
  cell_value (present c at s) next = record { value = value_of (item_in L c s) at next; external = refers_in L c s }

  -- the values in column order, their texts one after the other from byte `next` of the text buffer on
  unfoldable pub row_values : List Cell → ℕ → List ValuePlace
  row_values [] next = []
  row_values (p ∷ ps) next = cell_value p next ∷ row_values ps (next + length (item_text (cell_item p)))

  -- H5: the texts, one after the other
  unfoldable pub row_texts : List Cell → List ℕ
  row_texts [] = []
  row_texts (p ∷ ps) = item_text (cell_item p) ++ row_texts ps

  -- N4c: the sum over the texts
  unfoldable pub row_replaced : List Cell → ℕ
  row_replaced [] = 0
  row_replaced (p ∷ ps) = item_replaced (cell_item p) + row_replaced ps

-- ---- what is decided before anything is written

pub data Decision : Type 0 where
  -- a refusal, by its number and values
  refuse : ℕ → List ℕ → Decision
  -- the row's cells, and how many bytes of the input they used
  accept : List Cell → ℕ → Decision

-- refusal 5
unfoldable pub any_dec_float : List ColumnDescriptor → Bool
any_dec_float [] = false
any_dec_float (c ∷ cs) = is_dec_float c || any_dec_float cs

module _ (L : Conversions) where
  -- refusals 8 and 9
  unfoldable pub walk_decision : Walk → List ℕ → Decision
  walk_decision (short expected actual) d = refuse 8 (expected ∷ actual ∷ [])
  walk_decision (done ps n) d = cond (ltb (length d) (length (row_texts L ps))) (refuse 9 (length (row_texts L ps) ∷ [])) (accept ps n)

  -- the body that begins at a place of the input s, for the text buffer d
  unfoldable pub body_decision : List ColumnDescriptor → ℕ → List ℕ → List ℕ → Decision
  body_decision cs start s d = walk_decision (walk_body cs start s) d

  -- refusals 3, 4 and 5, and then the body after the skip
  unfoldable pub row_decision : Columns → List ℕ → List ℕ → Decision
  row_decision columns s d =
      cond (ltb max_columns columns.count) (refuse 3 [])
      (cond (ltb input_limit (length s)) (refuse 4 [])
      (cond (any_dec_float (covered columns)) (refuse 5 [])
      (body_decision (covered columns) (skip_of s) s d)))

-- H5, H7
abbrev pub refused_row : ℕ → List ℕ → RowTold
refused_row n vs = record { outcome = refused n vs; places = filled blank_value []; used = 0; replaced = 0 }

-- the call's own answer, by the rules' numbers
abbrev pub told_row : Result Row Refusal → RowTold
told_row (Ok r) = record { outcome = accepted; places = r.places; used = r.used; replaced = r.replaced }
told_row (Err r) = refused_row (refusal_number r) (refusal_values r)

module _ (L : Conversions) where
  unfoldable pub answer_of : Decision → RowTold
  answer_of (refuse n vs) = refused_row n vs
  answer_of (accept ps n) = record { outcome = accepted; places = filled blank_value (row_values L ps 0); used = n; replaced = row_replaced L ps }

  -- H1, H7
  unfoldable pub text_after : Decision → List ℕ → List ℕ
  text_after (refuse n vs) d = d
  text_after (accept ps n) d = overwritten (row_texts L ps) d

  -- the row call at any conversions: its answer, and the text buffer after it
  abbrev pub answer_with : Columns → List ℕ → List ℕ → RowTold
  answer_with columns s d = answer_of (row_decision L columns s d)

  abbrev pub text_with : Columns → List ℕ → List ℕ → List ℕ
  text_with columns s d = text_after (row_decision L columns s d) d
