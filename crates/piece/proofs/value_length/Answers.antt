use mathlib.Core.Path.{sym, subst}
use mathlib.Core.Bool.{true≢false}
use Prim.Native.Nat.{ℕ}
use Rattle.std.specs.Prelude.{Option}
use Rattle.cell.specs.Inner.{WidthOf}
use Rattle.cell.proofs.NumberLaws.{width_need}
use Rattle.piece.proofs.ItemLaws.{width_text}
use Rattle.piece.proofs.value_length.Goals as goal

pub returns-in-Some : goal.returns-in-Some
returns-in-Some c =
    let w = subst (λ (w : Option ℕ). WidthOf w c.args.column.db2_type) c.in-Some.is c.number_width.ensures in record { used = width_need c.args.column c.in-Some.n (w.0 c.args.column) c.args.rest.now; len = width_text c.args.release c.args.column c.in-Some.n c.args.rest.now w; plain = λ h. absurd (true≢false (sym h)) }
