-- Laws of items that the code rests on: an item as the code holds it has the text and the value of the rules' item. Assumes nothing.
use Rattle.std.specs.Prelude.{Some}
use Prim.Native.Nat.{ℕ}
use mathlib.Core.Path.{◌≡◌, sym, ap, ◌∙◌, subst}
use mathlib.Core.Bool.{Bool}
use mathlib.Core.List.{List, []}
use lib.ListN.{length, take, drop}
use Rattle.types.specs.declared.ColumnDescriptor.{ColumnDescriptor}
use Rattle.types.specs.declared.Db2Value.{Db2Value}
use Rattle.types.specs.declared.ValuePlace.{ValuePlace}
use Rattle.rules.specs.Meaning.{Item, item_in}
use Rattle.rules.specs.Row.{place, text_value, value_of, item_text, item_replaced, cell_item, cell_value}
use Rattle.rules.specs.Conversions.{conversions_of}
use Rattle.buffer.specs.Buffer.{Converted, unreplaced}
use Rattle.cell.specs.declared.CellItem.{CellItem}
use Rattle.cell.specs.declared.CellItem.TheVariants.{Nothing, Boolean, Part, Text}
use Rattle.cell.specs.declared.TextSort.{TextSort}
use Rattle.cell.specs.declared.Reading.{Reading}
use Rattle.cell.specs.declared.OtherValue.{OtherValue}
use Rattle.cell.specs.Cell.{text_sort, Holds, taken, NumberIs, OtherIs}
use Rattle.cell.specs.Inner.{WidthOf}
use Rattle.piece.specs.Piece.{LiesWithin, made_of, text_held, replaced_held, item_value, number_place, place_of, value_in, value_text, value_replaced, text_start, PlainCell}

pub holds_within : (release : ℕ) (x : CellItem) (s : List ℕ) (i : Item) → Holds release x s i → LiesWithin x s
holds_within release Nothing s i h = tt
holds_within release (Boolean b) s i h = tt
holds_within release (Part k from len) s i h = h.1
holds_within release (Text k reading from len) s i h = h.1

pub holds_text : (release : ℕ) (x : CellItem) (s : List ℕ) (i : Item) → Holds release x s i → text_held release x s ≡ item_text i
unfolding item_text
holds_text release Nothing s i h = ap item_text (sym h)
holds_text release (Boolean b) s i h = ap item_text (sym h)
holds_text release (Part k from len) s i h = ap item_text (sym h.0)
holds_text release (Text k reading from len) s i h = ap item_text (sym h.0)

holds_replaced : (release : ℕ) (x : CellItem) (s : List ℕ) (i : Item) → Holds release x s i → replaced_held release x s ≡ item_replaced i
unfolding item_replaced
holds_replaced release Nothing s i h = ap item_replaced (sym h)
holds_replaced release (Boolean b) s i h = ap item_replaced (sym h)
holds_replaced release (Part k from len) s i h = ap item_replaced (sym h.0)
holds_replaced release (Text k reading from len) s i h = ap item_replaced (sym h.0)

pub holds_value : (release : ℕ) (x : CellItem) (s : List ℕ) (i : Item) (at next : ℕ) → Holds release x s i → item_value release x s at next ≡ value_of i at next
unfolding value_of
holds_value release Nothing s i at next h = ap (λ (y : Item). value_of y at next) (sym h)
holds_value release (Boolean b) s i at next h = ap (λ (y : Item). value_of y at next) (sym h)
holds_value release (Part k from len) s i at next h = ap (λ (y : Item). value_of y at next) (sym h.0)
holds_value release (Text k reading from len) s i at next h = ap (λ (y : Item). value_of y at next) (sym h.0)

-- ---- an item that is a text

module _ (release : ℕ) (x : CellItem) (s : List ℕ) (k : TextSort) (reading : Reading) (from len : ℕ) (e : x ≡ Text k reading from len) (w : LiesWithin x s) where
  pub text_value_lem : (at next n : ℕ) → n ≡ length (text_held release x s) → text_value (text_sort k) (place next n) ≡ item_value release x s at next
  text_value_lem at next n h =
      ap (λ (m : ℕ). text_value (text_sort k) (place next m)) (h ∙ ap (λ (y : CellItem). length (text_held release y s)) e)
      ∙ ap (λ (y : CellItem). item_value release y s at next) (sym e)

-- ---- a text that is the bytes themselves, all from a place on, with none replaced

plain_by : (c : Converted) (t : List ℕ) → c.text_bytes ≡ t → c.replaced ≡ 0 → c ≡ unreplaced t
plain_by c t e h = ap (λ (u : List ℕ). record { text_bytes = u; replaced = c.replaced }) e ∙ ap (λ (n : ℕ). record { text_bytes = t; replaced = n }) h

-- ---- what the column decoder finds

abbrev value_place : Db2Value → Bool → ValuePlace
value_place v b = record { value = v; external = b }

module _ (release : ℕ) (d : OtherValue) (c : ColumnDescriptor) (s : List ℕ) (o : OtherIs release d c s) where
  got : Holds release d.item (take d.used s) (item_in (conversions_of release) c (take d.used s))
  got = subst (λ (n : ℕ). Holds release d.item (take n s) (item_in (conversions_of release) c (take n s))) (sym o.1.0) o.0

  pub found_within : LiesWithin d.item (take d.used s)
  found_within = holds_within release d.item (take d.used s) (item_in (conversions_of release) c (take d.used s)) got

  pub found_text : text_held release d.item (take d.used s) ≡ value_text release c s
  unfolding cell_item
  found_text = holds_text release d.item (take d.used s) (item_in (conversions_of release) c (take d.used s)) got ∙ ap (λ (n : ℕ). item_text (item_in (conversions_of release) c (take n s))) o.1.0

  pub found_replaced : replaced_held release d.item (take d.used s) ≡ value_replaced release c s
  unfolding cell_item
  found_replaced =
      holds_replaced release d.item (take d.used s) (item_in (conversions_of release) c (take d.used s)) got ∙ ap (λ (n : ℕ). item_replaced (item_in (conversions_of release) c (take n s))) o.1.0

  pub found_place : (at next : ℕ) → place_of release d at next s ≡ cell_value (conversions_of release) (value_in c at s) next
  unfolding cell_value
  found_place at next =
      ap (λ (y : Db2Value). value_place y d.external) (holds_value release d.item (take d.used s) (item_in (conversions_of release) c (take d.used s)) at next got)
      ∙ ap (λ (n : ℕ). value_place (value_of (item_in (conversions_of release) c (take n s)) at next) d.external) o.1.0
      ∙ ap (λ (b : Bool). value_place (value_of (item_in (conversions_of release) c (taken c s)) at next) b) o.1.1

  -- the bytes that a text begins with
  abbrev own : ℕ → List ℕ
  own n = drop (text_start c.db2_type) (take n s)

  pub found_plain : made_of release d.item (take d.used s) ≡ unreplaced (own d.used) → PlainCell release (value_in c 0 s)
  unfolding cell_item
  found_plain h = (sym found_text ∙ ap (λ (y : Converted). y.text_bytes) h ∙ ap own o.1.0, sym found_replaced ∙ ap (λ (y : Converted). y.replaced) h)

  pub plain_found : (at : ℕ) → PlainCell release (value_in c at s) → made_of release d.item (take d.used s) ≡ unreplaced (own d.used)
  unfolding cell_item
  plain_found at h = plain_by (made_of release d.item (take d.used s)) (own d.used) (found_text ∙ h.0 ∙ ap own (sym o.1.0)) (found_replaced ∙ h.1)

-- ---- numbers

module _ (release : ℕ) (v : Db2Value) (c : ColumnDescriptor) (s : List ℕ) (h : NumberIs release v c s) where
  pub number_text : value_text release c s ≡ []
  unfolding cell_item item_text
  number_text = ap item_text h.0.1.0

  pub number_replaced : value_replaced release c s ≡ 0
  unfolding cell_item item_replaced
  number_replaced = ap item_replaced h.0.1.0

  pub number_place_lem : (at next : ℕ) → number_place v ≡ cell_value (conversions_of release) (value_in c at s) next
  unfolding cell_value value_of
  number_place_lem at next =
      ap number_place h.0.1.1
      ∙ sym (ap (λ (y : Item). number_place (value_of y at next)) h.0.1.0)
      ∙ sym (ap (λ (z : Bool). value_place (value_of (item_in (conversions_of release) c (taken c s)) at next) z) h.1)

-- a type of numbers has no text
pub width_text : (release : ℕ) (c : ColumnDescriptor) (n : ℕ) (s : List ℕ) → WidthOf (Some n) c.db2_type → 0 ≡ length (value_text release c s)
unfolding cell_item item_in
width_text release c n s w = sym (ap length (w.1.0 release c (taken c s)))
