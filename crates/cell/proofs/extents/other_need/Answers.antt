use Prim.Native.Nat.{◌≤◌}
use mathlib.Core.Path.{◌≡◌, subst}
use native.Mathlib.Omega.{arith}
use Rattle.std.proofs.Common.{rules}
use Rattle.rules.specs.declared.Extent.{Extent}
use Rattle.rules.specs.Extent.{need, extent_of}
use Rattle.cell.specs.Inner.{size_of, most_size}
use Rattle.cell.proofs.ExtentLaws.{unit_small, need_most}
use Rattle.cell.proofs.extents.other_need.Goals as goal

pub returns : goal.returns
returns c =
    let column = c.args.column in
    let s = c.args.rest.now in
    let small = need_most s (search rules) (extent_of column) (unit_small column.db2_type column) (subst (λ (e : Extent). size_of e ≤ most_size) c.extent_of.ensures.0 c.extent_of.ensures.1) in
    let e : c.extent_need.result ≡ need (extent_of column) s = rw (← c.extent_of.ensures.0) c.extent_need.ensures in
    (e, omega (arith, e, small))
