use mathlib.Core.Path.{subst}
use native.Mathlib.Omega.{arith}
use Prim.Native.Nat.{ℕ}
use Rattle.std.specs.Prelude.{Option}
use Rattle.cell.specs.Inner.{WidthOf}
use Rattle.cell.proofs.NumberLaws.{width_need}
use Rattle.cell.proofs.extents.column_need.Goals as goal

pub returns-in-Some : goal.returns-in-Some
returns-in-Some c =
    let column = c.args.column in
    let w = subst (λ (w : Option ℕ). WidthOf w column.db2_type) c.in-Some.is c.number_width.ensures in
    (width_need column c.in-Some.n (w.0 column) c.args.rest.now, omega (arith, w.1.1))
