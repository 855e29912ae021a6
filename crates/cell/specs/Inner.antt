-- For inner functions; no public promise rests on it. Assumes nothing.
use Rattle.std.specs.Prelude.{ℕ, ◌≤◌, ◌≡◌, Bool, false, cond, not, ◌||◌, List, [], drop, None, Option, Some}
use Rattle.rules.specs.declared.Extent.{Extent}
use Rattle.rules.specs.declared.Extent.TheVariants.{Fixed, Counted, Header, Inline, Locator, Materialized}
use Rattle.types.specs.declared.Db2Type.{Db2Type}
use Rattle.types.specs.declared.ColumnDescriptor.{ColumnDescriptor}
use Rattle.rules.specs.Extent.{is_reference, type_extent}
use Rattle.rules.specs.Meaning.{all_zero, is_empty_reference, type_item}
use Rattle.rules.specs.Row.{item_text}
use Rattle.rules.specs.Conversions.{conversions_of}
use Rattle.cell.specs.Cell.{is_number}

-- how many bytes the units of an extent have, where it counts units
abbrev pub unit_size : Extent → ℕ
unit_size (Fixed n) = 0
unit_size (Counted unit) = unit
unit_size (Header n) = 0
unit_size Inline = 0
unit_size Locator = 0
unit_size (Materialized n) = 0

-- how many bytes an extent says itself, and the most that one of a column says: a Graphic of 65,535 units of two bytes
abbrev pub size_of : Extent → ℕ
size_of (Fixed n) = n
size_of (Counted unit) = 0
size_of (Header n) = n
size_of Inline = 0
size_of Locator = 0
size_of (Materialized n) = n

abbrev pub most_size : ℕ
most_size = 131070

-- the most bytes that a value takes: four bytes that count FFFFFFFF, and those
abbrev pub most_need : ℕ
most_need = 4294967299

-- whether a LOB's bytes s refer to data outside the row: a reference that is not empty, or a locator
abbrev pub lob_refers : Option ℕ → Bool → List ℕ → Bool
lob_refers (Some w) located s = not (all_zero s || is_empty_reference s)
lob_refers None located s = cond (is_reference s) (not (all_zero (drop 1 s))) located

-- values of the type t take so many bytes and have no text; or are no numbers
abbrev pub WidthOf : Option ℕ → Db2Type → Type 0
WidthOf (Some n) t =
    ((c : ColumnDescriptor) → type_extent t c ≡ Fixed n) × (((release : ℕ) (c : ColumnDescriptor) (s : List ℕ) → item_text (type_item (conversions_of release) t c s) ≡ []) × (n ≤ 8))
WidthOf None t = is_number t ≡ false
