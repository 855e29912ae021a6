-- What the host's release changes of a row: N10a, N10c, N10d. Statements; proofs/Releases.antt proves them. No contract cites this file. Assumes nothing.
use Rattle.std.specs.Prelude.{ℕ, ◌≡◌, Bool, true, false, not, ◌&&◌, ◌||◌, List, [], ◌∷◌, map, eqb, get_or}
use Rattle.refusal.specs.Refusal.{accepted, refused}
use Rattle.conversion.specs.Conversion.{is_release}
use Rattle.conversion.specs.Releases.{is_named, ccsid_by}
use Rattle.types.specs.Names.{named_in, own_numbers, bit8000}
use Rattle.types.specs.declared.Db2Type.{Db2Type}
use Rattle.types.specs.declared.Db2Type.TheVariants as type
use Rattle.types.specs.declared.ColumnDescriptor.{ColumnDescriptor}
use Rattle.types.specs.declared.Columns.{Columns}
use Rattle.types.specs.declared.ValuePlace.{ValuePlace}
use Rattle.types.specs.Places.{covered, blank_value}
use Rattle.types.specs.Held.{Held, bits, in_row, in_text, held}
use Rattle.rules.specs.Sorts.{sort_of}
use Rattle.rules.specs.Row.{refused_row, place, answer_with, text_with}
use Rattle.rules.specs.Conversions.{ported, row_answer, row_text}

-- the types whose values may be texts by CCSID; VarChar and VarGraphic with bit 8000 are headers
abbrev pub goes_by_ccsid : Db2Type → Bool
goes_by_ccsid t =
    named_in (type.Char 0 ∷ type.LongVarChar ∷ type.Date ∷ type.Time ∷ type.Timestamp ∷ type.Graphic 0 ∷ type.LobBytes 0 ∷ type.LobChar 0 ∷ []) t
    || (named_in (type.VarChar 0 ∷ type.VarGraphic 0 ∷ []) t && not (bit8000 (own_numbers t)))

-- columns whose texts may be read as UTF-16
abbrev pub may_be_utf16 : ColumnDescriptor → Bool
may_be_utf16 c = named_in (type.Graphic 0 ∷ type.VarGraphic 0 ∷ []) c.db2_type && (eqb c.ccsid 1200 || eqb c.ccsid 13488)

-- every one of the columns passes a test
abbrev pub All : (ColumnDescriptor → Bool) → List ColumnDescriptor → Type 0
All test [] = Unit {0}
All test (c ∷ cs) = (test c ≡ true) × All test cs

-- a column with another CCSID, and all else as it was
abbrev pub with_ccsid : ℕ → ColumnDescriptor → ColumnDescriptor
with_ccsid ccsid c =
    record {
      column_index = c.column_index;
      drda_type = c.drda_type;
      length = c.length;
      precision = c.precision;
      scale = c.scale;
      nullable = c.nullable;
      origin = c.origin;
      ccsid = ccsid;
      db2_type = c.db2_type;
      byte_order = c.byte_order;
      extdta_reference_length = c.extdta_reference_length;
    }

-- each column with the CCSID by which release 2 gives what release 3 gives
abbrev pub named_columns : Columns → Columns
named_columns columns = record { columns = map (λ c. with_ccsid (ccsid_by 3 c.ccsid) c) columns.columns; count = columns.count }

-- a call of release n, and one of release m with other columns, give the same answer and leave the same in the text buffer
abbrev pub SameCalls : ℕ → Columns → ℕ → Columns → Type 0
SameCalls n a m b = (s d : List ℕ) → (row_answer n a s d ≡ row_answer m b s d) × (row_text n a s d ≡ row_text m b s d)

pub record RowReleases : Type 0 where
  -- release 2 is the row call that there was: at the Rust's conversions
  pub two : (columns : Columns) (s d : List ℕ) → (row_answer 2 columns s d ≡ answer_with ported columns s d) × (row_text 2 columns s d ≡ text_with ported columns s d)
  -- release 3 changes nothing where each column has a named CCSID or no text by CCSID
  pub unchanged : (columns : Columns) → All (λ c. is_named c.ccsid || not (goes_by_ccsid c.db2_type)) (covered columns) → SameCalls 3 columns 2 columns
  -- it is release 2 with other CCSIDs where no column's texts may be read as UTF-16
  pub as_named : (columns : Columns) → All (λ c. not (may_be_utf16 c)) (covered columns) → SameCalls 3 columns 2 (named_columns columns)
  -- any other number is refused, whatever the columns, the row and the text buffer, which keeps what it had
  pub others : (release : ℕ) → is_release release ≡ false
      → (columns : Columns) (s d : List ℕ) → (row_answer release columns s d ≡ refused_row 22 []) × (row_text release columns s d ≡ d)

-- what a value holds, without the place of a text
abbrev pub but_text : Held → Held
but_text (bits b) = bits b
but_text (in_row p) = in_row p
but_text (in_text p) = in_text (place 0 0)

-- two value places that differ in the place of a text at most
pub record SameButText (v w : ValuePlace) : Type 0 where
  pub sorts : sort_of v.value ≡ sort_of w.value
  pub holds : but_text (held v.value) ≡ but_text (held w.value)
  pub flags : v.external ≡ w.external

-- Between two numbers that are releases nothing of a row changes but its texts, whatever the text buffers: what it lacks, the bytes used, and of every value its sort,
-- its number or its part of the row, and whether it is external
pub record TextsAlone (n m : ℕ) : Type 0 where
  pub lacks : (columns : Columns) (s d e vs : List ℕ) → (row_answer n columns s d).outcome ≡ refused 8 vs → row_answer m columns s e ≡ refused_row 8 vs
  pub uses : (columns : Columns) (s d e : List ℕ) → (row_answer n columns s d).outcome ≡ accepted → (row_answer m columns s e).outcome ≡ accepted
      → (row_answer n columns s d).used ≡ (row_answer m columns s e).used
  pub values : (columns : Columns) (s d e : List ℕ) → (row_answer n columns s d).outcome ≡ accepted → (row_answer m columns s e).outcome ≡ accepted
      → (i : ℕ) → SameButText (get_or (row_answer n columns s d).places i blank_value) (get_or (row_answer m columns s e).places i blank_value)
