-- What holds of an undeclared LID's column whatever its length, numbers and type. Assumes nothing.
use Prim.Native.Nat.{ℕ}
use mathlib.Core.Bool.{Bool, true, false, cond}
use mathlib.Core.List.{[], ◌∷◌}
use lib.Dec.{eqb}
use Rattle.types.specs.Types.{base_of, nullable_bit}
use Rattle.types.specs.FixedLength.{packed_length}
use Rattle.types.specs.declared.Db2Type.{Db2Type}
use Rattle.types.specs.declared.Db2Type.TheVariants as type
use Rattle.types.specs.declared.ByteOrder.TheVariants.{BigEndian}
use Rattle.types.specs.declared.Origin.TheVariants.{UndeclaredLid}
use Rattle.types.specs.declared.ColumnDescriptor.{ColumnDescriptor}
use Rattle.numbers.specs.Number.{unsigned}
use Rattle.column.specs.declared.Numbers.{Numbers}
use Rattle.column.specs.Column.{numbers_of, unnumbered}
use Rattle.column.specs.Group.{group_type, group_ccsid, undeclared_column}

pub undeclared_is : (P : ColumnDescriptor → Type 0) (l a b : ℕ) → ((n : ℕ) (m : Numbers) (t : Db2Type) → P (unnumbered l n m (nullable_bit l) t BigEndian UndeclaredLid))
    → P (undeclared_column l a b)
unfolding undeclared_column
undeclared_is P l a b h = go (eqb (base_of l) 0x0E)
  where
    n : ℕ
    n = unsigned BigEndian (a ∷ b ∷ [])

    go : (x : Bool) → P (cond x (unnumbered l (packed_length a) (numbers_of a b 0) (nullable_bit l) (type.Decimal a b) BigEndian UndeclaredLid)
        (unnumbered l n (numbers_of 0 0 (group_ccsid (group_type l n))) (nullable_bit l) (group_type l n) BigEndian UndeclaredLid))
    go true = h (packed_length a) (numbers_of a b 0) (type.Decimal a b)
    go false = h n (numbers_of 0 0 (group_ccsid (group_type l n))) (group_type l n)
