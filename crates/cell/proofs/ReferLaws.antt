-- Laws of external values: which items are an empty LOB, and that a LOB's bytes tell it. Assumes nothing.
use Rattle.std.specs.Prelude.{None, Option, Some}
use Prim.Native.Nat.{ℕ, ◌≤◌, ◌<◌, min}
use mathlib.Core.Path.{◌≡◌, refl, sym, ap, ◌∙◌}
use mathlib.Core.Bool.{Bool, true, false, cond, not, ◌&&◌, ◌||◌, true≢false}
use mathlib.Core.List.{List, [], ◌∷◌}
use native.Mathlib.Omega.{arith}
use lib.ListN.{length, drop}
use lib.Dec.{leb, ltb, eqb}
use borrow.Author.Tests.{leb-true, ne_eqb}
use Rattle.types.specs.declared.Db2Type.{Db2Type}
use Rattle.types.specs.declared.Db2Type.TheVariants as type
use Rattle.types.specs.declared.ColumnDescriptor.{ColumnDescriptor}
use Rattle.buffer.specs.Buffer.{Converted, unreplaced}
use Rattle.conversion.specs.Conversion.{locator_text}
use Rattle.conversion.proofs.PlainText.{locator_length}
use Rattle.rules.specs.declared.Extent.TheVariants.{Fixed}
use Rattle.types.specs.Names.{bit8000, low15}
use Rattle.rules.specs.Extent.{hex_digits, is_reference, is_short_reference, need, extent_of}
use Rattle.types.specs.Names.{is_absent}
use Rattle.rules.specs.Meaning.{Item, Lob, blobs, clobs, xmls, ByteSort, TextSort, all_zero, is_empty_reference, is_empty_header, header_bytes, header_item, lob_empty, lob_reference}
use Rattle.rules.specs.Meaning.{Conversions, lob_inline, lob_item, varying_item, lob_bytes_item, lob_char_item, is_lob_text, is_empty_lob, type_item, item_in, type_refers, refers_in}
use Rattle.rules.specs.Conversions.{conversions_of}
use Rattle.cell.specs.Inner.{lob_refers}
use Rattle.cell.proofs.ItemLaws.{need_by, fixed_there, absent_there, absent_xml}

-- ---- which items are an empty LOB

locator_some : (k : TextSort) (s : List ℕ) → is_empty_lob (Item.text k (unreplaced (locator_text s))) ≡ false
unfolding is_empty_lob
locator_some k s = go (is_lob_text k) (eqb (length (locator_text s)) 0) (ne_eqb (length (locator_text s)) 0 (λ e. omega (arith, e, locator_length s)))
  where
    go : (a b : Bool) → b ≡ false → (a && b) ≡ false
    go true b e = e
    go false b e = refl

lob_none : (k : Lob) → is_empty_lob (lob_empty k) ≡ true
unfolding is_empty_lob lob_empty
lob_none blobs = refl
lob_none clobs = refl
lob_none xmls = refl

none : is_empty_lob (Item.text TextSort.clob (unreplaced [])) ≡ true
unfolding lob_empty
none = lob_none clobs

-- at the conversions of any release
module _ (release : ℕ) where
  abbrev L : Conversions
  L = conversions_of release

  reference_some : (k : Lob) (s : List ℕ) → 0 < length s → is_empty_lob (lob_reference L k s) ≡ false
  unfolding is_empty_lob lob_reference
  reference_some blobs s h = ne_eqb (min 4 (length s)) 0 (λ e. omega arith)
  reference_some clobs s h = locator_some TextSort.clob s
  reference_some xmls s h = locator_some TextSort.xml s

  -- ---- tests

  no_refer : (b : Bool) → (not b && false) ≡ false
  no_refer true = refl
  no_refer false = refl

  and_true : (b : Bool) → (b && true) ≡ b
  and_true true = refl
  and_true false = refl

  and_false : (b : Bool) → (b && false) ≡ false
  and_false true = refl
  and_false false = refl

  or_false : (b : Bool) → (b || false) ≡ b
  or_false true = refl
  or_false false = refl

  nonzero_some : (s : List ℕ) (b : Bool) → (all_zero s || b) ≡ false → 0 < length s
  unfolding all_zero
  nonzero_some [] b e = absurd (true≢false e)
  nonzero_some (x ∷ s) b e = omega arith

  short_some : (n : ℕ) (s : List ℕ) → is_short_reference n s ≡ true → 0 < length s
  unfolding is_short_reference
  short_some n s e = go (leb 1024 n) (leb 16 (length s)) refl e
    where
      go : (a b : Bool) → leb 16 (length s) ≡ b → (a && (b && (ltb (length s) n && leb 16 (hex_digits s)))) ≡ true → 0 < length s
      go true true l f = omega (arith, leb-true 16 (length s) l)
      go true false l f = absurd (true≢false (sym f))
      go false b l f = absurd (true≢false (sym f))

  -- ---- the cases of a value that may refer

  pub lob_refers_lem : (r : Option ℕ) (located : Bool) (k : Lob) (s : List ℕ) → (r ≡ None → 4 ≤ length s)
      → (not (is_empty_lob (lob_item L r located k s)) && (not (is_absent r) || (is_reference s || located))) ≡ lob_refers r located s
  unfolding lob_item
  lob_refers_lem (Some w) located k s h = go (all_zero s || is_empty_reference s) refl
    where
      go : (z : Bool) → (all_zero s || is_empty_reference s) ≡ z → (not (is_empty_lob (cond z (lob_empty k) (lob_reference L k s))) && true) ≡ not z
      go true e = rw (lob_none k) refl
      go false e = rw (reference_some k s (nonzero_some s _ e)) refl
  lob_refers_lem None located k s h = go (is_reference s) (all_zero (drop 1 s)) located
    where
      some : is_empty_lob (lob_reference L k s) ≡ false
      some = reference_some k s (omega (arith, h refl))

      go : (t z l : Bool)
          → (not (is_empty_lob (cond t (cond z (lob_empty k) (lob_reference L k s)) (cond l (lob_reference L k s) (lob_inline L k s)))) && (t || l)) ≡ cond t (not z) l
      go true true l = rw (lob_none k) refl
      go true false l = rw some refl
      go false z true = rw some refl
      go false z false = no_refer (is_empty_lob (lob_inline L k s))

  header_refers : (n : ℕ) (t : Converted) (s : List ℕ)
      → (not (is_empty_lob (varying_item L n t s)) && (bit8000 n || false)) ≡ (bit8000 n && not (is_empty_header (header_bytes s)))
  unfolding varying_item header_item
  header_refers n t s = go (bit8000 n) (is_empty_header (header_bytes s))
    where
      go : (b z : Bool)
          → (not (is_empty_lob (cond b (cond z (Item.text TextSort.clob (unreplaced [])) (Item.text TextSort.clob (unreplaced (locator_text (header_bytes s))))) (Item.text TextSort.var_char t))) && (b || false))
          ≡ (b && not z)
      go true true = rw none refl
      go true false = rw (locator_some TextSort.clob (header_bytes s)) refl
      go false z = no_refer (is_empty_lob (Item.text TextSort.var_char t))

  lob_bytes_refers : (n ccsid : ℕ) (s : List ℕ) → (not (is_empty_lob (lob_bytes_item L n ccsid s)) && is_short_reference n s) ≡ is_short_reference n s
  unfolding lob_bytes_item is_empty_lob
  lob_bytes_refers n ccsid s = go (is_short_reference n s) (cond (L.is_likely s) (Item.text TextSort.var_char (L.characters ccsid s)) (Item.part ByteSort.blob 0 (length s))) refl
    where
      go : (t : Bool) (i : Item) → is_short_reference n s ≡ t → (not (is_empty_lob (cond t (Item.part ByteSort.blob 0 (length s)) i)) && t) ≡ t
      go true i e = rw (ne_eqb (length s) 0 (λ z. omega (arith, short_some n s e))) refl
      go false i e = no_refer (is_empty_lob i)

  lob_char_refers : (n ccsid : ℕ) (s : List ℕ) → (not (is_empty_lob (lob_char_item L n ccsid s)) && is_short_reference n s) ≡ is_short_reference n s
  unfolding lob_char_item
  lob_char_refers n ccsid s = go (is_short_reference n s) (Item.text TextSort.clob (L.characters ccsid s))
    where
      go : (t : Bool) (i : Item) → (not (is_empty_lob (cond t (Item.text TextSort.clob (unreplaced (locator_text s))) i)) && t) ≡ t
      go true i = rw (locator_some TextSort.clob s) refl
      go false i = no_refer (is_empty_lob i)

  -- as the definition has it, for a LOB of a type whose other test is y
  lob_tests : (r : Option ℕ) (x y located : Bool) (k : Lob) (s : List ℕ) → (x && y) ≡ located → (r ≡ None → 4 ≤ length s)
      → lob_refers r located s ≡ (not (is_empty_lob (lob_item L r located k s)) && ((not (is_absent r) || (is_reference s || (x && y))) || false))
  lob_tests r x y located k s e h = sym (rw (e, or_false (not (is_absent r) || (is_reference s || located))) (lob_refers_lem r located k s h))

  -- ---- a column whose type is known

  module _ (c : ColumnDescriptor) (s : List ℕ) where
    abbrev pub refers_by : Db2Type → Bool
    refers_by t = not (is_empty_lob (type_item L t c s)) && type_refers t c s

    pub refers_by_lem : {t : Db2Type} → c.db2_type ≡ t → refers_by t ≡ refers_in L c s
    unfolding refers_in item_in
    refers_by_lem e = ap refers_by (sym e)

    pub var_char_refers : (n : ℕ) → c.db2_type ≡ type.VarChar n → (bit8000 n && not (is_empty_header (header_bytes s))) ≡ refers_in L c s
    var_char_refers n e = sym (header_refers n _ s) ∙ refers_by_lem e

    pub var_graphic_refers : (n : ℕ) → c.db2_type ≡ type.VarGraphic n → (bit8000 n && not (is_empty_header (header_bytes s))) ≡ refers_in L c s
    var_graphic_refers n e = sym (header_refers n _ s) ∙ refers_by_lem e

    pub lob_bytes_in : (n : ℕ) → c.db2_type ≡ type.LobBytes n → is_short_reference (low15 n) s ≡ refers_in L c s
    lob_bytes_in n e = sym (lob_bytes_refers (low15 n) c.ccsid s) ∙ refers_by_lem e

    pub lob_char_in : (n : ℕ) → c.db2_type ≡ type.LobChar n → is_short_reference (low15 n) s ≡ refers_in L c s
    lob_char_in n e = sym (lob_char_refers (low15 n) c.ccsid s) ∙ refers_by_lem e

    -- a type that never refers
    pub plain_in : type_refers c.db2_type c s ≡ false → false ≡ refers_in L c s
    plain_in e = sym (rw e (no_refer (is_empty_lob (type_item L c.db2_type c s)))) ∙ refers_by_lem refl

    module _ (h : need (extent_of c) s ≡ length s) where
      pub blob_refers : c.db2_type ≡ type.Blob → lob_refers c.extdta_reference_length (eqb c.length 0) s ≡ refers_in L c s
      blob_refers e = lob_tests _ (eqb c.length 0) true _ blobs s (and_true _) (absent_there _ s c.length (need_by c s e h)) ∙ refers_by_lem e

      pub clob_refers : c.db2_type ≡ type.Clob → lob_refers c.extdta_reference_length (eqb c.length 0) s ≡ refers_in L c s
      clob_refers e = lob_tests _ (eqb c.length 0) true _ clobs s (and_true _) (absent_there _ s c.length (need_by c s e h)) ∙ refers_by_lem e

      pub db_clob_refers : c.db2_type ≡ type.DbClob → lob_refers c.extdta_reference_length (eqb c.length 0) s ≡ refers_in L c s
      db_clob_refers e = lob_tests _ (eqb c.length 0) true _ clobs s (and_true _) (absent_there _ s c.length (need_by c s e h)) ∙ refers_by_lem e

      pub xml_refers : c.db2_type ≡ type.Xml → lob_refers c.extdta_reference_length false s ≡ refers_in L c s
      xml_refers e = lob_tests _ (eqb c.length 0) false _ xmls s (and_false (eqb c.length 0)) (absent_xml _ s (need_by c s e h)) ∙ refers_by_lem e

    -- a locator has four bytes
    pub locator_refers : (k : Lob) → need (Fixed 4) s ≡ length s → true ≡ (not (is_empty_lob (lob_reference L k s)) && true)
    locator_refers k h = rw (reference_some k s (omega (arith, fixed_there 4 s h))) refl

-- a type that is none of those that can refer
pub plain_type : (t : Db2Type) (c : ColumnDescriptor) (s : List ℕ)
    → ((x : ℕ) → t ≡ type.VarChar x → ⊥)
    → (t ≡ type.Clob → ⊥)
    → (t ≡ type.Blob → ⊥)
    → (t ≡ type.BlobLocator → ⊥)
    → ((x : ℕ) → t ≡ type.VarGraphic x → ⊥)
    → (t ≡ type.DbClob → ⊥)
    → (t ≡ type.ClobLocator → ⊥)
    → (t ≡ type.DbClobLocator → ⊥)
    → ((x : ℕ) → t ≡ type.LobBytes x → ⊥)
    → ((x : ℕ) → t ≡ type.LobChar x → ⊥)
    → (t ≡ type.Xml → ⊥)
    → type_refers t c s ≡ false
plain_type (type.VarChar x) c s h _ _ _ _ _ _ _ _ _ _ = absurd (h x refl)
plain_type type.Clob c s _ h _ _ _ _ _ _ _ _ _ = absurd (h refl)
plain_type type.Blob c s _ _ h _ _ _ _ _ _ _ _ = absurd (h refl)
plain_type type.BlobLocator c s _ _ _ h _ _ _ _ _ _ _ = absurd (h refl)
plain_type (type.VarGraphic x) c s _ _ _ _ h _ _ _ _ _ _ = absurd (h x refl)
plain_type type.DbClob c s _ _ _ _ _ h _ _ _ _ _ = absurd (h refl)
plain_type type.ClobLocator c s _ _ _ _ _ _ h _ _ _ _ = absurd (h refl)
plain_type type.DbClobLocator c s _ _ _ _ _ _ _ h _ _ _ = absurd (h refl)
plain_type (type.LobBytes x) c s _ _ _ _ _ _ _ _ h _ _ = absurd (h x refl)
plain_type (type.LobChar x) c s _ _ _ _ _ _ _ _ _ h _ = absurd (h x refl)
plain_type type.Xml c s _ _ _ _ _ _ _ _ _ _ h = absurd (h refl)
plain_type type.SmallInt c s _ _ _ _ _ _ _ _ _ _ _ = refl
plain_type type.Integer c s _ _ _ _ _ _ _ _ _ _ _ = refl
plain_type type.BigInt c s _ _ _ _ _ _ _ _ _ _ _ = refl
plain_type type.Real c s _ _ _ _ _ _ _ _ _ _ _ = refl
plain_type type.Double c s _ _ _ _ _ _ _ _ _ _ _ = refl
plain_type (type.Decimal x y) c s _ _ _ _ _ _ _ _ _ _ _ = refl
plain_type (type.DecFloat x) c s _ _ _ _ _ _ _ _ _ _ _ = refl
plain_type (type.Char x) c s _ _ _ _ _ _ _ _ _ _ _ = refl
plain_type type.LongVarChar c s _ _ _ _ _ _ _ _ _ _ _ = refl
plain_type (type.Binary x) c s _ _ _ _ _ _ _ _ _ _ _ = refl
plain_type (type.VarBinary x) c s _ _ _ _ _ _ _ _ _ _ _ = refl
plain_type type.Date c s _ _ _ _ _ _ _ _ _ _ _ = refl
plain_type type.Time c s _ _ _ _ _ _ _ _ _ _ _ = refl
plain_type type.Timestamp c s _ _ _ _ _ _ _ _ _ _ _ = refl
plain_type (type.Graphic x) c s _ _ _ _ _ _ _ _ _ _ _ = refl
plain_type (type.RowId x) c s _ _ _ _ _ _ _ _ _ _ _ = refl
plain_type type.Boolean c s _ _ _ _ _ _ _ _ _ _ _ = refl
plain_type type.Null c s _ _ _ _ _ _ _ _ _ _ _ = refl
