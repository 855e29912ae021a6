-- Laws of items that the code rests on: looking for a byte that is not zero one byte on, all bytes from a place on, what a reference begins with.
-- Assumes nothing.
use Rattle.std.specs.Prelude.{None, Option}
use Prim.Native.Nat.{ℕ, ◌+◌, ◌-◌, ◌≤◌, ◌<◌}
use mathlib.Core.Path.{◌≡◌, refl, sym, ◌∙◌, subst}
use mathlib.Core.Bool.{Bool, true, false, cond, ◌&&◌, true≢false}
use mathlib.Core.List.{List, []}
use native.Mathlib.Numerals.{add-one}
use native.Mathlib.Omega.{arith}
use native.Mathlib.Nat.{sub-zero}
use lib.ListN.{length, get_or, take, drop}
use lib.Seq.{drop-cons, length-take-le}
use lib.Dec.{leb, eqb}
use borrow.Author.Tests.{leb-true, eq-eqb, ne_eqb}
use Rattle.types.specs.declared.Db2Type.{Db2Type}
use Rattle.types.specs.declared.ColumnDescriptor.{ColumnDescriptor}
use Rattle.refusal.specs.Refusal.{most_bytes}
use Rattle.types.specs.FixedLength.{packed_length}
use Rattle.rules.specs.declared.Extent.TheVariants.{Fixed, Counted, Inline, Locator}
use Rattle.rules.specs.Extent.{be32, is_reference, reference_mark, lob_need, need, lob_extent, length_extent, type_extent, extent_of}
use Rattle.rules.specs.Meaning.{ByteSort, Item, all_zero, lob_empty, lob_reference, lob_inline, type_item, item_in}
use Rattle.rules.specs.Conversions.{conversions_of}
use Rattle.rules.proofs.Extents.{cuts}
use Rattle.cell.specs.declared.CellItem.{CellItem}
use Rattle.cell.specs.declared.LobKind.TheVariants.{Text}
use Rattle.cell.specs.declared.LobText.{LobText}
use Rattle.cell.specs.declared.LobText.TheVariants as lobs
use Rattle.cell.specs.Cell.{text_sort, lob_sort, lob_of, Holds}
use Rattle.buffer.specs.Buffer.{unreplaced}

module _ (s : List ℕ) (i : ℕ) (h : i < length s) where
  pub zero_step : get_or s i 0 ≡ 0 → all_zero (drop i s) ≡ all_zero (drop (i + 1) s)
  unfolding all_zero
  zero_step e = rw (add-one, drop-cons s i 0 h, eq-eqb _ _ e)

  pub nonzero_step : (get_or s i 0 ≡ 0 → ⊥) → all_zero (drop i s) ≡ false
  unfolding all_zero
  nonzero_step e = rw (drop-cons s i 0 h, ne_eqb _ _ e)

pub reference_nine : (s : List ℕ) → is_reference s ≡ true → 9 ≤ length s
unfolding is_reference
reference_nine s e = go (leb 9 (length s)) refl e
  where
    go : (t : Bool) → leb 9 (length s) ≡ t → (t && eqb (get_or s 0 0) reference_mark) ≡ true → 9 ≤ length s
    go true l f = leb-true 9 (length s) l
    go false l f = absurd (true≢false (sym f))

-- all bytes as a part
pub whole_part_lem : (release : ℕ) (r : CellItem) (k : ByteSort) (s : List ℕ) → Holds release r s (Item.part k 0 (length s - 0)) → Holds release r s (Item.part k 0 (length s))
whole_part_lem release r k s h = subst (λ (n : ℕ). Holds release r s (Item.part k 0 n)) (sub-zero (length s)) h

-- a column whose type is known
pub holds_by : (release : ℕ) (c : ColumnDescriptor) (s : List ℕ) {t : Db2Type} → c.db2_type ≡ t
    → (r : CellItem) → Holds release r s (type_item (conversions_of release) t c s) → Holds release r s (item_in (conversions_of release) c s)
unfolding item_in
holds_by release c s e r h = subst (λ (u : Db2Type). Holds release r s (type_item (conversions_of release) u c s)) (sym e) h

module _ (c : ColumnDescriptor) (s : List ℕ) {t : Db2Type} (e : c.db2_type ≡ t) where
  pub need_by : need (extent_of c) s ≡ length s → need (type_extent t c) s ≡ length s
  need_by h = subst (λ (u : Db2Type). need (type_extent u c) s ≡ length s) e h

-- how many bytes are there at least
pub fixed_there : (n : ℕ) (s : List ℕ) → need (Fixed n) s ≡ length s → n ≤ length s
unfolding need
fixed_there n s h = omega arith

pub packed_there : (p : ℕ) (s : List ℕ) → p < 256 → need (Fixed (packed_length p)) s ≡ length s → (0 < length s) × (length s ≤ most_bytes)
unfolding need
packed_there p s l h = (omega arith, omega arith)

pub counted_there : (u : ℕ) (s : List ℕ) → need (Counted u) s ≡ length s → 2 ≤ length s
unfolding need
counted_there u s h = go (leb 2 (length s)) refl
  where
    go : (t : Bool) → leb 2 (length s) ≡ t → 2 ≤ length s
    go true l = leb-true 2 (length s) l
    go false l = let k = rw l at h in omega arith

lob_there : (w : ℕ) (s : List ℕ) → lob_need w s ≡ length s → 4 ≤ length s
unfolding lob_need
lob_there w s h = go (leb 4 (length s)) refl
  where
    go : (t : Bool) → leb 4 (length s) ≡ t → 4 ≤ length s
    go true l = leb-true 4 (length s) l
    go false l = let k = rw l at h in omega arith

inline_there : (s : List ℕ) → need Inline s ≡ length s → 4 ≤ length s
unfolding need
inline_there s h = lob_there (4 + be32 s) s h

locator_there : (s : List ℕ) → need Locator s ≡ length s → 4 ≤ length s
unfolding need
locator_there s h = lob_there 4 s h

length_there : (b : Bool) (s : List ℕ) → need (cond b Locator Inline) s ≡ length s → 4 ≤ length s
length_there true s h = locator_there s h
length_there false s h = inline_there s h

module _ (r : Option ℕ) (s : List ℕ) where
  pub absent_there : (n : ℕ) → need (lob_extent r (length_extent n)) s ≡ length s → r ≡ None → 4 ≤ length s
  absent_there n h a = length_there (eqb n 0) s (subst (λ (x : Option ℕ). need (lob_extent x (length_extent n)) s ≡ length s) a h)

  pub absent_xml : need (lob_extent r Inline) s ≡ length s → r ≡ None → 4 ≤ length s
  absent_xml h a = inline_there s (subst (λ (x : Option ℕ). need (lob_extent x Inline) s ≡ length s) a h)

-- the LOBs whose values are texts
pub text_empty : (k : LobText) → Item.text (text_sort (lob_sort k)) (unreplaced []) ≡ lob_empty (lob_of (Text k))
unfolding lob_empty
text_empty lobs.Clob = refl
text_empty lobs.Xml = refl

module _ (release : ℕ) (s : List ℕ) where
  pub text_reference : (k : LobText) → Item.text (text_sort (lob_sort k)) ((conversions_of release).locator s) ≡ lob_reference (conversions_of release) (lob_of (Text k)) s
  unfolding lob_reference
  text_reference lobs.Clob = refl
  text_reference lobs.Xml = refl

  pub text_inline : (k : LobText) → Item.text (text_sort (lob_sort k)) ((conversions_of release).inline_text (drop 4 s)) ≡ lob_inline (conversions_of release) (lob_of (Text k)) s
  unfolding lob_inline
  text_inline lobs.Clob = refl
  text_inline lobs.Xml = refl

-- the bytes that a value takes are all that it takes of them
pub cut_there : (c : ColumnDescriptor) (s : List ℕ) (n : ℕ) → n ≡ need (extent_of c) s → n ≤ length s → need (extent_of c) (take n s) ≡ length (take n s)
cut_there c s n e h = cuts (extent_of c) s n (omega arith) h ∙ sym e ∙ sym (length-take-le n s h)
