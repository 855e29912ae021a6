-- What parse_qrydsc and parse_whole_qrydsc answer: H4, H7, N6b, N6c, refusals 1, 2 and 15. Assumes nothing.
use Rattle.std.specs.Prelude.{ℕ, ◌+◌, Bool, false, cond, List, [], ◌∷◌, Result, Ok, Err, ltb, length}
use Rattle.refusal.specs.declared.Refusal.{Refusal}
use Rattle.refusal.specs.Refusal.{Told, accepted, refused, refusal_number, refusal_values}
use Rattle.types.specs.declared.ColumnDescriptor.{ColumnDescriptor}
use Rattle.types.specs.declared.Columns.{Columns}
use Rattle.types.specs.Places.{max_columns, column_list}
use Rattle.triplets.specs.Triplets.{breaks_off}
use Rattle.triplets.specs.Descriptors.{columns_of}
use Rattle.qrydsc.specs.declared.Description.{Description}

-- a column with its number
abbrev pub with_index : ℕ → ColumnDescriptor → ColumnDescriptor
with_index k c =
    record {
      column_index = k;
      drda_type = c.drda_type;
      length = c.length;
      precision = c.precision;
      scale = c.scale;
      nullable = c.nullable;
      origin = c.origin;
      ccsid = c.ccsid;
      db2_type = c.db2_type;
      byte_order = c.byte_order;
      extdta_reference_length = c.extdta_reference_length;
    }

-- columns numbered in order, from k on
unfoldable pub numbered : ℕ → List ColumnDescriptor → List ColumnDescriptor
numbered k [] = []
numbered k (c ∷ cs) = with_index k c ∷ numbered (k + 1) cs

-- an answer by the rules' numbers: what is said of the description, the column list, and whether it breaks off
pub record DescriptionTold : Type 0 where
  pub outcome : Told
  pub columns : Columns
  pub broken_off : Bool

-- H4, H7, N6b: no column, every place blank, and nothing said of an end
abbrev pub refused_description : ℕ → List ℕ → DescriptionTold
refused_description n vs = record { outcome = refused n vs; columns = column_list []; broken_off = false }

abbrev pub told_description : Result Description Refusal → DescriptionTold
told_description (Ok d) = record { outcome = accepted; columns = d.columns; broken_off = d.broken_off }
told_description (Err r) = refused_description (refusal_number r) (refusal_values r)

-- the answer to a list of columns, and to whether the description breaks off: refusal 2, else the list, numbered from 0
unfoldable pub list_answer : Bool → List ColumnDescriptor → DescriptionTold
list_answer b cs =
    cond (ltb max_columns (length cs)) (refused_description 2 [])
    (record { outcome = accepted; columns = column_list (numbered 0 cs); broken_off = b })

-- the most bytes of a description: refusal 1 above it
abbrev pub max_qrydsc : ℕ
max_qrydsc = 65536

-- N6b: the ported entry
unfoldable pub description : List ℕ → DescriptionTold
description s = cond (ltb max_qrydsc (length s)) (refused_description 1 []) (list_answer (breaks_off s) (columns_of s))

-- N6c: the entry for whole descriptions. Refusal 15 stands behind 1 and before 2
unfoldable pub whole_description : List ℕ → DescriptionTold
whole_description s =
    cond (ltb max_qrydsc (length s)) (refused_description 1 [])
    (cond (breaks_off s) (refused_description 15 []) (list_answer false (columns_of s)))
