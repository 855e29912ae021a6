-- The walk of a row: W1 to W4, W8 (the Rust: decode_row, decode_row_body). Each column takes what it needs of the bytes that are left. The walk says which bytes
-- each value has, and never what they mean. Assumes nothing.
use Rattle.std.specs.Prelude.{ℕ, ◌+◌, ◌-◌, Bool, true, false, cond, ◌&&◌, List, [], ◌∷◌, length, get_or, take, drop, leb, eqb}
use Rattle.types.specs.declared.ColumnDescriptor.{ColumnDescriptor}
use Rattle.rules.specs.declared.Extent.{Extent}
use Rattle.rules.specs.Extent.{need, extent_of}

-- W1: how many bytes are skipped
unfoldable pub skip_of : List ℕ → ℕ
skip_of s = cond (leb 2 (length s) && eqb (get_or s 0 0) 0xFF) 2 0

-- W2: the bytes that a nullable column takes of the rest s
unfoldable pub nullable_need : Extent → List ℕ → ℕ
nullable_need e [] = 1
nullable_need e (b ∷ s) = cond (eqb b 0xFF) 1 (1 + need e s)

abbrev pub cell_need : Bool → Extent → List ℕ → ℕ
cell_need true e s = nullable_need e s
cell_need false e s = need e s

unfoldable pub column_need : ColumnDescriptor → List ℕ → ℕ
column_need c s = cell_need c.nullable (extent_of c) s

-- what the walk finds for a column: Null, or the column, the place of its value's first byte, counted from the input's first, and exactly the value's bytes
pub data Cell : Type 0 where
  absent : Cell
  present : ColumnDescriptor → ℕ → List ℕ → Cell

-- the cell that the column's bytes make, the first of them at place `at`
unfoldable pub cell_of : Bool → ColumnDescriptor → ℕ → List ℕ → Cell
cell_of true c at [] = absent
cell_of true c at (b ∷ s) = cond (eqb b 0xFF) absent (present c (at + 1) s)
cell_of false c at s = present c at s

pub data Walk : Type 0 where
  -- every column has its bytes; the number is that of the input's bytes used
  done : List Cell → ℕ → Walk
  -- too short, with the Rust's `expected` and `actual`
  short : ℕ → ℕ → Walk

unfoldable pub cons_cell : Cell → Walk → Walk
cons_cell p (done ps n) = done (p ∷ ps) n
cons_cell p (short e a) = short e a

-- W4, the Rust's two numbers: a missing indicator is counted from the body's first byte (`offset` bytes of it are read), a value from its own first byte
unfoldable pub cell_short : Bool → Extent → ℕ → List ℕ → Walk
cell_short true e offset [] = short (offset + 1) offset
cell_short true e offset (b ∷ s) = short (need e s) (length s)
cell_short false e offset s = short (need e s) (length s)

-- W3: s is the rest of the row, `at` the place of its first byte, and `start` that of the body's
unfoldable pub walk : ℕ → List ColumnDescriptor → ℕ → List ℕ → Walk
walk start [] at s = done [] at
walk start (c ∷ cs) at s =
    cond (leb (column_need c s) (length s))
    (cons_cell (cell_of c.nullable c at (take (column_need c s) s)) (walk start cs (at + column_need c s) (drop (column_need c s) s)))
    (cell_short c.nullable (extent_of c) (at - start) s)

-- term: W1. The body begins at a place of the input
unfoldable pub walk_body : List ColumnDescriptor → ℕ → List ℕ → Walk
walk_body cs start s = walk start cs start (drop start s)

-- the row: the body after the skip
abbrev pub walk_row : List ColumnDescriptor → List ℕ → Walk
walk_row cs s = walk_body cs (skip_of s) s
