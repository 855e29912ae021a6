-- No column's text is longer than three times the bytes that the column takes, and 258 more: a packed decimal's `-0.` and 255 digits. So with the bytes that a row
-- uses it is known how much room its texts can need at most, before one is measured. Assumes nothing.
use Prim.Native.Nat.{ℕ, suc, ◌+◌, ◌*◌, ◌-◌, ◌≤◌, ◌<◌}
use mathlib.Core.Path.{◌≡◌, refl, sym, ap, subst, ◌∙◌}
use mathlib.Core.Bool.{Bool, true, false, cond}
use mathlib.Core.List.{List, [], ◌∷◌, ◌++◌}
use native.Mathlib.Omega.{arith}
use lib.ListN.{length, take, drop, length-append, length-drop, length-take}
use lib.Dec.{eqb}
use borrow.Author.Tests.{eqb-true, eqb-false}
use Rattle.types.specs.declared.Db2Type.{Db2Type}
use Rattle.types.specs.declared.Db2Type.TheVariants as type
use Rattle.types.specs.declared.ColumnDescriptor.{ColumnDescriptor}
use Rattle.conversion.specs.declared.Conversion.{Conversion}
use Rattle.conversion.specs.declared.Conversion.TheVariants as by
use Rattle.buffer.specs.Buffer.{Converted}
use Rattle.conversion.specs.Picked.{converted_in, character_conversion, graphic_conversion}
use Rattle.conversion.proofs.Picks.{utf8_picked, locator_picked, row_id_picked, characters_by_lem, graphics_by_lem}
use Rattle.conversion.proofs.PlainText.{text_bound}
use Rattle.packed.specs.Packed.{sign_nibble, sign_text, digit_text, trimmed, fraction, decimal_text}
use Rattle.packed.proofs.Nibbles.{digits_length, no_fraction, fraction_length}
use Rattle.rules.specs.Meaning.{Item, nothing, numeric, boolean, part, text, item_in}
use Rattle.rules.specs.Walk.{column_need, Cell, absent, present, cell_of, done, walk, walk_body}
pub use Rattle.unicode_standard.specs.Laws.{AreBytes}
use Rattle.unicode_standard.proofs.Bytes.{bytes_drop, bytes_take}
use Rattle.rules.specs.Row.{item_text, cell_item, row_texts}
use Rattle.rules.specs.Conversions.{conversions_of}
use Rattle.rules.proofs.ItemTexts.{TextOf, Texts, item_text_lem}
use Rattle.rules.proofs.Walks.{is_done, used_of, pieces_of, walk_step, walk_first}
use Rattle.rules.proofs.Progress.{piece_at, cons_inverse}

-- ---- a packed decimal

trimmed_length : (ds : List ℕ) → length (trimmed ds) ≤ 1 + length ds
unfolding trimmed
trimmed_length [] = omega arith
trimmed_length (d ∷ ds) = go (eqb d 0x30) (trimmed_length ds)
  where
    go : (b : Bool) → length (trimmed ds) ≤ 1 + length ds → length (cond b (trimmed ds) (d ∷ ds)) ≤ 1 + suc (length ds)
    go true h = omega arith
    go false h = omega arith

sign_length : (s : List ℕ) → length (sign_text s) ≤ 1
unfolding sign_text
sign_length s = go (eqb (sign_nibble s) 0xD)
  where
    go : (b : Bool) → length {A = ℕ} (cond b (0x2D ∷ []) []) ≤ 1
    go true = omega arith
    go false = omega arith

fraction_most : (scale : ℕ) (ds : List ℕ) → length (fraction scale ds) ≤ 1 + scale
fraction_most scale ds = go (eqb scale 0) refl
  where
    go : (b : Bool) → eqb scale 0 ≡ b → length (fraction scale ds) ≤ 1 + scale
    go true e = rw (no_fraction scale ds (eqb-true scale 0 e)) (omega arith)
    go false e = omega (arith, fraction_length scale ds (eqb-false scale 0 e))

decimal_bound : (scale : ℕ) (s : List ℕ) → scale < 256 → length (decimal_text scale s) ≤ 3 * length s + 258
unfolding decimal_text
decimal_bound scale s h =
    let ds = digit_text s in
    let w = take (length ds - scale) ds in
    omega (arith, length-append (sign_text s) (trimmed w ++ fraction scale ds), length-append (trimmed w) (fraction scale ds), sign_length s, trimmed_length w, fraction_most scale ds, length-take (length ds - scale) ds, digits_length s)

-- ---- what a value's bytes mean: the text of the bytes s is at most so long

abbrev Short : List ℕ → Converted → Type 0
Short s t = length t.text_bytes ≤ 3 * length s + 258

-- a Decimal's scale fits a byte
abbrev pub Scaled : Db2Type → Type 0
Scaled t = (precision scale : ℕ) → t ≡ type.Decimal precision scale → scale < 256

module _ (release : ℕ) (s : List ℕ) (h : AreBytes s) where
  -- what a conversion makes of the bytes from a place on
  by_short : (p : Conversion) (n : ℕ) {t : Converted} → converted_in p (drop n s) ≡ t → Short s t
  by_short p n e =
      let b = text_bound p (drop n s) (bytes_drop n s h) in
      subst (Short s) e (omega (arith, b, length-drop n s))

  texts_short : (t : Db2Type) → Scaled t → Texts (conversions_of release) t s (Short s)
  texts_short t f =
      record {
        of_none = omega arith;
        of_packed = λ precision scale e. decimal_bound scale s (f precision scale e);
        of_characters = λ ccsid n. by_short (character_conversion release ccsid (drop n s)) n (characters_by_lem release ccsid (drop n s) refl);
        of_graphics = λ ccsid n. by_short (graphic_conversion release ccsid (drop n s)) n (graphics_by_lem release ccsid (drop n s) refl);
        of_inline = λ n. by_short by.Utf8 n (utf8_picked (drop n s));
        of_locator = λ n. by_short by.Locator n (locator_picked (drop n s));
        of_row_id = by_short by.RowId 0 (row_id_picked s);
      }

  item_short : (x : Item) → TextOf (Short s) x → length (item_text x) ≤ 3 * length s + 258
  unfolding item_text
  item_short nothing k = omega arith
  item_short (numeric x) k = omega arith
  item_short (boolean b) k = omega arith
  item_short (part j from n) k = omega arith
  item_short (text j t) k = k

  value_short : (c : ColumnDescriptor) → Scaled c.db2_type → length (item_text (item_in (conversions_of release) c s)) ≤ 3 * length s + 258
  value_short c f = item_short (item_in (conversions_of release) c s) (item_text_lem (conversions_of release) (Short s) c s (texts_short c.db2_type f))

-- ---- a column's piece of the rest r

cell_short_lem : (release : ℕ) (b : Bool) (c : ColumnDescriptor) (at : ℕ) (t : List ℕ) → Scaled c.db2_type → AreBytes t → length (item_text (cell_item (conversions_of release) (cell_of b c at t))) ≤ 3 * length t + 258
unfolding cell_of cell_item item_text
cell_short_lem release true c at [] f h = omega arith
cell_short_lem release true c at (x ∷ t) f h = go (eqb x 0xFF)
  where
    go : (b : Bool) → length (item_text (cell_item (conversions_of release) (cond b absent (present c (at + 1) t)))) ≤ 3 * suc (length t) + 258
    go true = omega arith
    go false = omega (arith, value_short release t (bytes_drop 1 (x ∷ t) h) c f)
cell_short_lem release false c at t f h = value_short release t h c f

piece_bound : (release : ℕ) (c : ColumnDescriptor) (at : ℕ) (r : List ℕ) → Scaled c.db2_type → AreBytes r → length (item_text (cell_item (conversions_of release) (piece_at c at r))) ≤ 3 * column_need c r + 258
piece_bound release c at r f h =
    omega (arith, cell_short_lem release c.nullable c at (take (column_need c r) r) f (bytes_take (column_need c r) r h), length-take (column_need c r) r)

-- ---- a row

-- every column's Decimal scale fits a byte
abbrev pub AllScaled : List ColumnDescriptor → Type 0
AllScaled [] = Unit
AllScaled (c ∷ cs) = Scaled c.db2_type × AllScaled cs

walk_bound : (release start : ℕ) (cs : List ColumnDescriptor) (at : ℕ) (r : List ℕ) (ps : List Cell) (end : ℕ) → AllScaled cs → AreBytes r → walk start cs at r ≡ done ps end
    → 3 * at + length (row_texts (conversions_of release) ps) ≤ 3 * end + 258 * length cs
unfolding walk row_texts
walk_bound release start [] at r ps end f h d =
    let n : row_texts (conversions_of release) ps ≡ [] = ap (row_texts (conversions_of release)) (sym (ap pieces_of d)) in
    omega (arith, ap used_of d, ap length n)
walk_bound release start (c ∷ cs) at r ps end f h d =
    let k = column_need c r in
    let w = walk start cs (at + k) (drop k r) in
    let there = walk_first start c cs at r (ap is_done d) in
    let turn = cons_inverse (piece_at c at r) w ps end (sym (walk_step start c cs at r k refl there) ∙ d) in
    let ih = walk_bound release start cs (at + k) (drop k r) (pieces_of w) end f.1 (bytes_drop k r h) turn.0 in
    let e = ap (λ (l : List Cell). length (row_texts (conversions_of release) l)) turn.1 in
    omega (arith, e, ih, piece_bound release c at r f.0 h, length-append (item_text (cell_item (conversions_of release) (piece_at c at r))) (row_texts (conversions_of release) (pieces_of w)))

-- the texts of a row together
pub texts_bound : (release : ℕ) (cs : List ColumnDescriptor) (start : ℕ) (s : List ℕ) (ps : List Cell) (end : ℕ) → AllScaled cs → AreBytes s → start ≤ end
    → walk_body cs start s ≡ done ps end → length (row_texts (conversions_of release) ps) ≤ 3 * (end - start) + 258 * length cs
unfolding walk_body
texts_bound release cs start s ps end f h k d = omega (arith, walk_bound release start cs start (drop start s) ps end f (bytes_drop start s h) d)
