use mathlib.Core.Path.{◌≡◌, refl, sym, ap}
use mathlib.Core.Bool.{Bool, false, not, true≢false}
use mathlib.Core.List.{[], ◌∷◌}
use Rattle.types.specs.contracts.Db2Type.{enum}
use Rattle.types.proofs.Keys.{one_of}
use Rattle.rules.specs.Meaning.{Item, item_in}
use Rattle.rules.specs.Conversions.{conversions_of}
use Rattle.cell.specs.declared.CellItem.TheVariants as cell
use Rattle.cell.specs.Cell.{Holds, is_number}
use Rattle.cell.proofs.ItemLaws.{holds_by}
use Rattle.cell.proofs.item_of.Goals as goal

pub returns-in-Decimal : goal.returns-in-Decimal
returns-in-Decimal c = λ release. holds_by release c.args.column c.args.bytes.now c.in-Decimal.is c.decimal_item.result (c.decimal_item.ensures c.in-Decimal.precision release c.args.column c.args.bytes.now refl)

pub returns-in-Boolean : goal.returns-in-Boolean
returns-in-Boolean c = λ release. holds_by release c.args.column c.args.bytes.now c.in-Boolean.is (cell.Boolean (not c.all_zero.result)) (ap (λ (z : Bool). Item.boolean (not z)) (sym c.all_zero.ensures))

pub returns-in_default : goal.returns-in_default
returns-in_default c = λ release. one_of enum (λ t. is_number t ≡ false → c.args.column.db2_type ≡ t → Holds release cell.Nothing c.args.bytes.now (item_in (conversions_of release) c.args.column c.args.bytes.now)) 0 (1 ∷ 2 ∷ 3 ∷ 4 ∷ 6 ∷ 28 ∷ []) c.args.column.db2_type c.in_default.in_default-own.keys21
    ((λ v h e. absurd (true≢false h)), ((λ v h e. absurd (true≢false h)), ((λ v h e. absurd (true≢false h)), ((λ v h e. absurd (true≢false h)), ((λ v h e. absurd (true≢false h)), ((λ v h e. holds_by release c.args.column c.args.bytes.now e cell.Nothing refl), (λ v h e. holds_by release c.args.column c.args.bytes.now e cell.Nothing refl)))))))
    c.requires.other refl
