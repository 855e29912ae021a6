-- What of a column the row call looks at, and that it looks at no origin: W6, N2d. Statements about a row call, given as in specs/Demand3.antt. Assumes nothing.
use Rattle.std.specs.Prelude.{ℕ, ◌≡◌, cond, List, [], ◌∷◌, eqb}
use Rattle.types.specs.Names.{named_in}
use Rattle.types.specs.declared.Db2Type.{Db2Type}
use Rattle.types.specs.declared.Db2Type.TheVariants as type
use Rattle.types.specs.declared.Origin.{Origin}
use Rattle.types.specs.declared.ColumnDescriptor.{ColumnDescriptor}
use Rattle.types.specs.declared.Columns.{Columns}
use Rattle.types.specs.Places.{covered}
use Rattle.rules.specs.Row.{RowTold}

-- W6: of a column's length what matters for its type: all of it for a Timestamp and a Boolean, whether it is 0 for a Blob, a Clob and a DbClob, else nothing
abbrev pub length_for : Db2Type → ℕ → ℕ
length_for t n =
    cond (named_in (type.Timestamp ∷ type.Boolean ∷ []) t) n
    (cond (named_in (type.Blob ∷ type.Clob ∷ type.DbClob ∷ []) t) (cond (eqb n 0) 0 1) 0)

-- two columns that the row call does not tell apart: these are the same, whatever all else of them is
pub record Alike (c d : ColumnDescriptor) : Type 0 where
  pub same_type : c.db2_type ≡ d.db2_type
  pub same_nullable : c.nullable ≡ d.nullable
  pub same_length : length_for c.db2_type c.length ≡ length_for d.db2_type d.length
  pub same_ccsid : c.ccsid ≡ d.ccsid
  pub same_order : c.byte_order ≡ d.byte_order
  pub same_reference : c.extdta_reference_length ≡ d.extdta_reference_length

-- two lists of such columns, place by place
abbrev pub AllAlike : List ColumnDescriptor → List ColumnDescriptor → Type 0
AllAlike [] [] = Unit {0}
AllAlike [] (d ∷ ds) = ⊥
AllAlike (c ∷ cs) [] = ⊥
AllAlike (c ∷ cs) (d ∷ ds) = Alike c d × AllAlike cs ds

-- a column with another origin, and all else as it was
abbrev pub with_origin : Origin → ColumnDescriptor → ColumnDescriptor
with_origin o c =
    record {
      column_index = c.column_index;
      drda_type = c.drda_type;
      length = c.length;
      precision = c.precision;
      scale = c.scale;
      nullable = c.nullable;
      origin = o;
      ccsid = c.ccsid;
      db2_type = c.db2_type;
      byte_order = c.byte_order;
      extdta_reference_length = c.extdta_reference_length;
    }

-- two lists that differ in origins alone
abbrev pub OriginsApart : List ColumnDescriptor → List ColumnDescriptor → Type 0
OriginsApart [] [] = Unit {0}
OriginsApart [] (d ∷ ds) = ⊥
OriginsApart (c ∷ cs) [] = ⊥
OriginsApart (c ∷ cs) (d ∷ ds) = (with_origin d.origin c ≡ d) × OriginsApart cs ds

module _ (answer : Columns → List ℕ → List ℕ → RowTold) (after : Columns → List ℕ → List ℕ → List ℕ) where
  -- the same answer and the same text buffer, whatever the input and the buffer before
  abbrev pub NotToldApart : Columns → Columns → Type 0
  NotToldApart a b = (s d : List ℕ) → (answer a s d ≡ answer b s d) × (after a s d ≡ after b s d)

  -- of a list the row call looks at the count, and at these fields of each column that the count covers
  abbrev pub LooksAt : Type 0
  LooksAt = (a b : Columns) → a.count ≡ b.count → AllAlike (covered a) (covered b) → NotToldApart a b

  -- N2d
  abbrev pub LooksAtNoOrigin : Type 0
  LooksAtNoOrigin = (a b : Columns) → a.count ≡ b.count → OriginsApart a.columns b.columns → NotToldApart a b
