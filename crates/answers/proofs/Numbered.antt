-- Columns that have the numbers of their places, and one more. Assumes nothing.
use Rattle.std.proofs.Common.{ℕ, ◌+◌, ◌<◌, ◌≡◌, ◌≢◌, List, length, get_or, arith, get_or-set_other, get_or-set_same, below_more}
use lib.ListN.{set}
use Rattle.types.specs.declared.ColumnDescriptor.{ColumnDescriptor}
use Rattle.types.specs.Places.{blank_column}

pub numbered_more : (columns : List ColumnDescriptor) (i : ℕ) (column : ColumnDescriptor) → i < length columns → column.column_index ≡ i
    → ((k : ℕ) → k < i → (get_or columns k blank_column).column_index ≡ k)
    → (k : ℕ) → k < i + 1 → (get_or (set columns i column) k blank_column).column_index ≡ k
numbered_more columns i column room number so_far =
    below_more _ _
    (λ k h. let ne : k ≢ i = omega arith in rw get_or-set_other (so_far k h))
    (rw get_or-set_same number)
