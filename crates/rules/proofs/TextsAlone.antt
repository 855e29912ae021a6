-- Between releases nothing of a row changes but its texts (specs/Releases.antt): the cells are found without a conversion, and of each its texts alone go by one.
-- Assumes nothing.
use Prim.Native.Nat.{ℕ, zero, suc, ◌+◌, ◌-◌}
use mathlib.Core.Path.{◌≡◌, refl, sym, ap, subst, ◌∙◌}
use mathlib.Core.Bool.{Bool, true, false, cond, not, ◌&&◌}
use mathlib.Core.List.{List, [], ◌∷◌, ◌++◌}
use native.Mathlib.Omega.{arith}
use lib.Dec.{eqb}
use lib.ListN.{length, get_or, replicate}
use Rattle.refusal.specs.Refusal.{accepted, refused, told_number}
use Rattle.buffer.specs.Buffer.{Converted}
use Rattle.conversion.specs.Conversion.{is_release}
use Rattle.conversion.proofs.Empty.{empty_as}
use Rattle.types.specs.declared.Db2Type.{Db2Type}
use Rattle.types.specs.declared.Db2Type.TheVariants as type
use Rattle.types.specs.declared.Place.{Place}
use Rattle.types.specs.declared.ColumnDescriptor.{ColumnDescriptor}
use Rattle.types.specs.declared.Columns.{Columns}
use Rattle.types.specs.declared.ValuePlace.{ValuePlace}
use Rattle.types.specs.Names.{bit8000, low15}
use Rattle.types.specs.Places.{max_columns, filled, blank_value, covered}
use Rattle.types.specs.Held.{held}
use Rattle.rules.specs.Sorts.{sort_of}
use Rattle.rules.specs.Extent.{is_short_reference}
use Rattle.rules.specs.Meaning.{TextSort, Item, nothing, numeric, boolean, part, text, char, var_char, clob, date, time, timestamp, blob, blobs, clobs, xmls, Conversions, is_lob_text, is_empty_lob, header_item, varying_item, lob_bytes_item, lob_char_item, type_item, item_in, type_refers, refers_in}
use Rattle.rules.specs.Walk.{Cell, absent, present, Walk, walk_row}
use Rattle.rules.specs.Row.{RowTold, Decision, refuse, accept, text_value, value_of, item_text, cell_item, cell_value, row_values, row_decision, walk_decision, answer_of, answer_with, refused_row}
use Rattle.rules.specs.Conversions.{conversions_of, row_answer}
use Rattle.rules.specs.Releases.{but_text, SameButText, TextsAlone}
use Rattle.rules.proofs.Walks.{pieces_of, used_of}
use Rattle.rules.proofs.Progress.{values_length}
use Rattle.rules.proofs.Releases.{reference_same, lob_same}
use Rattle.rules.proofs.Demand3.{tested, facts, call_walked}
use Rattle.rules.proofs.ShortColumn.{is_short_lem}
use Rattle.rules.proofs.Accepted.{at_accepted}

-- two items whose values differ in the place of a text at most
record Shape (i j : Item) : Type 0 where
  sorts : (at n m : ℕ) → sort_of (value_of i at n) ≡ sort_of (value_of j at m)
  holds : (at n m : ℕ) → but_text (held (value_of i at n)) ≡ but_text (held (value_of j at m))
  empty : is_empty_lob i ≡ is_empty_lob j

text_sorts : (k : TextSort) (p q : Place) → sort_of (text_value k p) ≡ sort_of (text_value k q)
text_sorts TextSort.decimal p q = refl
text_sorts TextSort.char p q = refl
text_sorts TextSort.var_char p q = refl
text_sorts TextSort.clob p q = refl
text_sorts TextSort.row_id p q = refl
text_sorts TextSort.date p q = refl
text_sorts TextSort.time p q = refl
text_sorts TextSort.timestamp p q = refl
text_sorts TextSort.xml p q = refl

text_holds : (k : TextSort) (p q : Place) → but_text (held (text_value k p)) ≡ but_text (held (text_value k q))
text_holds TextSort.decimal p q = refl
text_holds TextSort.char p q = refl
text_holds TextSort.var_char p q = refl
text_holds TextSort.clob p q = refl
text_holds TextSort.row_id p q = refl
text_holds TextSort.date p q = refl
text_holds TextSort.time p q = refl
text_holds TextSort.timestamp p q = refl
text_holds TextSort.xml p q = refl

text_shape : (k : TextSort) (t u : Converted) → (is_lob_text k && eqb (length t.text_bytes) 0) ≡ (is_lob_text k && eqb (length u.text_bytes) 0) → Shape (text k t) (text k u)
unfolding value_of is_empty_lob
text_shape k t u e = record { sorts = λ at n m. text_sorts k _ _; holds = λ at n m. text_holds k _ _; empty = e }

same : (i : Item) → Shape i i
unfolding value_of is_empty_lob
same nothing = record { sorts = λ at n m. refl; holds = λ at n m. refl; empty = refl }
same (numeric x) = record { sorts = λ at n m. refl; holds = λ at n m. refl; empty = refl }
same (boolean b) = record { sorts = λ at n m. refl; holds = λ at n m. refl; empty = refl }
same (part k from l) = record { sorts = λ at n m. refl; holds = λ at n m. refl; empty = refl }
same (text k t) = text_shape k t t refl

picked : (b : Bool) {x y u v : Item} → Shape x u → Shape y v → Shape (cond b x y) (cond b u v)
picked true f g = f
picked false f g = g

module _ (n m : ℕ) where
  abbrev L : Conversions
  L = conversions_of n

  abbrev M : Conversions
  M = conversions_of m

  equal : {i j : Item} → i ≡ j → Shape i j
  equal {i} e = subst (λ (j : Item). Shape i j) e (same i)

  varying : (k : ℕ) (x y : Converted) (s : List ℕ) → Shape (varying_item L k x s) (varying_item M k y s)
  unfolding varying_item header_item
  varying k x y s = picked (bit8000 k) (same (header_item L s)) (text_shape var_char x y refl)

  lob_bytes : (k ccsid : ℕ) (s : List ℕ) → Shape (lob_bytes_item L k ccsid s) (lob_bytes_item M k ccsid s)
  unfolding lob_bytes_item
  lob_bytes k ccsid s = picked (is_short_reference k s) (same (part blob 0 (length s))) (picked (L.is_likely s) (text_shape var_char _ _ refl) (same (part blob 0 (length s))))

  lob_char : (k ccsid : ℕ) (s : List ℕ) → Shape (lob_char_item L k ccsid s) (lob_char_item M k ccsid s)
  unfolding lob_char_item
  lob_char k ccsid s = picked (is_short_reference k s) (same (text clob (L.locator s))) (text_shape clob _ _ (empty_as n ccsid s ∙ sym (empty_as m ccsid s)))

  type_shape : (t : Db2Type) (c : ColumnDescriptor) (s : List ℕ) → Shape (type_item L t c s) (type_item M t c s)
  type_shape type.SmallInt c s = same _
  type_shape type.Integer c s = same _
  type_shape type.BigInt c s = same _
  type_shape type.Real c s = same _
  type_shape type.Double c s = same _
  type_shape (type.Decimal precision scale) c s = same _
  type_shape (type.DecFloat digits) c s = same _
  type_shape (type.Char k) c s = text_shape char _ _ refl
  type_shape (type.VarChar k) c s = varying k _ _ s
  type_shape type.LongVarChar c s = text_shape var_char _ _ refl
  type_shape type.Clob c s = equal (lob_same n m c.extdta_reference_length (eqb c.length 0) clobs s)
  type_shape (type.Binary k) c s = same _
  type_shape (type.VarBinary k) c s = same _
  type_shape type.Blob c s = equal (lob_same n m c.extdta_reference_length (eqb c.length 0) blobs s)
  type_shape type.BlobLocator c s = equal (reference_same n m blobs s)
  type_shape type.Date c s = text_shape date _ _ refl
  type_shape type.Time c s = text_shape time _ _ refl
  type_shape type.Timestamp c s = text_shape timestamp _ _ refl
  type_shape (type.Graphic k) c s = text_shape char _ _ refl
  type_shape (type.VarGraphic k) c s = varying k _ _ s
  type_shape type.DbClob c s = equal (lob_same n m c.extdta_reference_length (eqb c.length 0) clobs s)
  type_shape type.ClobLocator c s = equal (reference_same n m clobs s)
  type_shape type.DbClobLocator c s = equal (reference_same n m clobs s)
  type_shape (type.LobBytes k) c s = lob_bytes (low15 k) c.ccsid s
  type_shape (type.LobChar k) c s = lob_char (low15 k) c.ccsid s
  type_shape (type.RowId k) c s = same _
  type_shape type.Boolean c s = same _
  type_shape type.Xml c s = equal (lob_same n m c.extdta_reference_length false xmls s)
  type_shape type.Null c s = same _

  -- ---- the values of cells

  cell_same : (p : Cell) (a b : ℕ) → SameButText (cell_value L p a) (cell_value M p b)
  unfolding cell_value blank_value item_in refers_in
  cell_same absent a b = record { sorts = refl; holds = refl; flags = refl }
  cell_same (present c at s) a b =
      let h = type_shape c.db2_type c s in
      record { sorts = h.sorts at a b; holds = h.holds at a b; flags = ap (λ (x : Bool). not x && type_refers c.db2_type c s) h.empty }

  values_same : (ps : List Cell) (a b : ℕ) (zs : List ValuePlace) (i : ℕ)
      → SameButText (get_or (row_values L ps a ++ zs) i blank_value) (get_or (row_values M ps b ++ zs) i blank_value)
  unfolding row_values
  values_same [] a b zs i = record { sorts = refl; holds = refl; flags = refl }
  values_same (p ∷ ps) a b zs zero = cell_same p a b
  values_same (p ∷ ps) a b zs (suc i) = values_same ps (a + length (item_text (cell_item L p))) (b + length (item_text (cell_item M p))) zs i

  places_same : (ps : List Cell) (i : ℕ) → SameButText (get_or (filled blank_value (row_values L ps 0)) i blank_value) (get_or (filled blank_value (row_values M ps 0)) i blank_value)
  unfolding filled
  places_same ps i =
      let k = values_length L ps 0 ∙ sym (values_length M ps 0) in
      subst (λ (l : ℕ). SameButText (get_or (row_values L ps 0 ++ replicate (max_columns - length (row_values L ps 0)) blank_value) i blank_value) (get_or (row_values M ps 0 ++ replicate (max_columns - l) blank_value) i blank_value)) k
      (values_same ps 0 0 (replicate (max_columns - length (row_values L ps 0)) blank_value) i)

  -- ---- the row call, at two releases

  module _ (known : is_release n ≡ true) (also : is_release m ≡ true) (columns : Columns) (s d e : List ℕ) where
    abbrev cells : List Cell
    cells = pieces_of (walk_row (covered columns) s)

    -- an acceptance by the cells, which go by no conversion
    accepted_by : (k : ℕ) (b : List ℕ) → (row_answer k columns s b).outcome ≡ accepted
        → row_answer k columns s b ≡ answer_of (conversions_of k) (accept cells (used_of (walk_row (covered columns) s)))
    accepted_by k b h =
        let a = at_accepted k columns s b h in
        sym a ∙ ap (answer_of (conversions_of k)) (facts (conversions_of k) columns s b (ap (λ (r : RowTold). r.outcome) a ∙ h)).decided

    used_same : (row_answer n columns s d).outcome ≡ accepted → (row_answer m columns s e).outcome ≡ accepted → (row_answer n columns s d).used ≡ (row_answer m columns s e).used
    unfolding answer_of
    used_same h k = ap (λ (r : RowTold). r.used) (accepted_by n d h) ∙ sym (ap (λ (r : RowTold). r.used) (accepted_by m e k))

    all_same : (row_answer n columns s d).outcome ≡ accepted → (row_answer m columns s e).outcome ≡ accepted
        → (i : ℕ) → SameButText (get_or (row_answer n columns s d).places i blank_value) (get_or (row_answer m columns s e).places i blank_value)
    unfolding answer_of
    all_same h k i = rw (accepted_by n d h, accepted_by m e k) (places_same cells i)

    lacks_same : (vs : List ℕ) → (row_answer n columns s d).outcome ≡ refused 8 vs → row_answer m columns s e ≡ refused_row 8 vs
    unfolding row_answer walk_decision answer_of
    lacks_same vs h =
        let o : (answer_with L columns s d).outcome ≡ refused 8 vs = rw known at h in
        let t = tested L columns (refused 8 vs) s d (λ k l z. omega (arith, l, ap told_number z)) o in
        let w = is_short_lem L (walk_row (covered columns) s) d vs (sym (ap (λ (x : Decision). (answer_of L x).outcome) t.walked) ∙ o) in
        let c : row_decision M columns s e ≡ refuse 8 vs =
        call_walked M columns t.few t.plain s e t.fits ∙ ap (λ (x : Walk). walk_decision M x e) w.2 ∙ ap (refuse 8) w.3 in
        rw also (ap (answer_of M) c)

pub texts_alone : (n m : ℕ) → is_release n ≡ true → is_release m ≡ true → TextsAlone n m
texts_alone n m known also = record {
  lacks = λ columns s d e. lacks_same n m known also columns s d e;
  uses = λ columns s d e. used_same n m known also columns s d e;
  values = λ columns s d e. all_same n m known also columns s d e;
}
