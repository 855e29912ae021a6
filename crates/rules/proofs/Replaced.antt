-- How many U+FFFD a row's conversions put in: no more than its texts have bytes, so that the sum stays within the text buffer's length; and no more than
-- bytes are used (specs/Accepted.antt). Assumes nothing.
use Prim.Native.Nat.{ℕ, ◌+◌, ◌≤◌}
use mathlib.Core.Path.{◌≡◌, refl, sym, ap, subst}
use mathlib.Core.Bool.{Bool, true, false, cond, true≢false}
use mathlib.Core.List.{List, [], ◌∷◌}
use native.Mathlib.Omega.{arith}
use lib.ListN.{length, take, drop, length-append, length-drop, length-take}
use lib.Dec.{eqb}
use Rattle.buffer.specs.Buffer.{Converted}
use Rattle.conversion.proofs.Replaced.{Few, none_few, utf8_few, characters_few, graphics_few}
use Rattle.types.specs.declared.Db2Type.{Db2Type}
use Rattle.types.specs.declared.ColumnDescriptor.{ColumnDescriptor}
use Rattle.types.specs.declared.Columns.{Columns}
use Rattle.rules.specs.Meaning.{Conversions, Item, nothing, numeric, boolean, part, text, item_in}
use Rattle.rules.specs.Walk.{column_need, Cell, absent, present, cell_of, Walk, done, short, cons_cell, walk, walk_body, walk_row, skip_of}
use Rattle.rules.specs.Row.{Decision, refuse, accept, covered, item_text, item_replaced, cell_item, row_texts, row_replaced, row_decision, answer_of}
use Rattle.rules.specs.Conversions.{conversions_of, row_answer, row_text}
use Rattle.rules.specs.Accepted.{ReplacedFits}
use Rattle.rules.proofs.ItemTexts.{TextOf, Texts, item_text_lem}
use Rattle.rules.proofs.Walks.{is_done, used_of, pieces_of, walk_step, walk_first, walk_rest}
use Rattle.rules.proofs.Progress.{text_in, replaced_in, Placing, piece_at}
use Rattle.rules.proofs.Releases.{at_release}
use Rattle.rules.proofs.Demand3.{facts}

-- ---- a value of the bytes s

fewer : (s : List ℕ) (n : ℕ) {t : Converted} → Few (drop n s) t → Few s t
fewer s n f = record { within_text = f.within_text; within_bytes = omega (arith, f.within_bytes, length-drop n s) }

module _ (release : ℕ) where
  abbrev L : Conversions
  L = conversions_of release

  texts_few : (t : Db2Type) (s : List ℕ) → Texts L t s (Few s)
  texts_few t s =
      record {
        of_none = none_few s [];
        of_packed = λ precision scale e. none_few s _;
        of_characters = λ ccsid n. fewer s n (characters_few (drop n s) release ccsid);
        of_graphics = λ ccsid n. fewer s n (graphics_few (drop n s) release ccsid);
        of_inline = λ n. fewer s n (utf8_few (drop n s));
        of_locator = λ n. none_few s _;
        of_row_id = none_few s _;
      }

  item_few : (s : List ℕ) (x : Item) → TextOf (Few s) x → (item_replaced x ≤ length (item_text x)) × (item_replaced x ≤ length s)
  unfolding item_replaced item_text
  item_few s nothing f = (omega arith, omega arith)
  item_few s (numeric x) f = (omega arith, omega arith)
  item_few s (boolean b) f = (omega arith, omega arith)
  item_few s (part k from n) f = (omega arith, omega arith)
  item_few s (text k t) f = (f.within_text, f.within_bytes)

  value_few : (c : ColumnDescriptor) (s : List ℕ) → (item_replaced (item_in L c s) ≤ length (item_text (item_in L c s))) × (item_replaced (item_in L c s) ≤ length s)
  value_few c s = item_few s (item_in L c s) (item_text_lem L (Few s) c s (texts_few c.db2_type s))

  -- ---- within the texts

  cell_few : (p : Cell) → item_replaced (cell_item L p) ≤ length (item_text (cell_item L p))
  unfolding cell_item item_replaced item_text
  cell_few absent = omega arith
  cell_few (present c at s) = (value_few c s).0

  row_few : (ps : List Cell) → row_replaced L ps ≤ length (row_texts L ps)
  unfolding row_replaced row_texts
  row_few [] = omega arith
  row_few (p ∷ ps) = omega (arith, length-append (item_text (cell_item L p)) (row_texts L ps), cell_few p, row_few ps)

  -- while texts are written: those of the cells passed, and of one more
  module _ (cs : List ColumnDescriptor) (start : ℕ) (s : List ℕ) (ps : List Cell) (end : ℕ) (d : List ℕ) where
    pub placing_few : {passed : List Cell} {i at next replaced : ℕ} {out : List ℕ} → Placing L cs start s ps end d passed i at next replaced out
        → (c : ColumnDescriptor) (r : List ℕ) (k m : ℕ) → k ≡ length (text_in L c r) → m ≡ replaced_in L c r → replaced + m ≤ next + k
    placing_few {passed} p c r k m e f = omega (arith, p.sum, p.counted, row_few passed, cell_few (piece_at c 0 r))

  -- ---- within the bytes used

  cut_few : (b : Bool) (c : ColumnDescriptor) (at : ℕ) (t : List ℕ) → item_replaced (cell_item L (cell_of b c at t)) ≤ length t
  unfolding cell_of cell_item item_replaced
  cut_few true c at [] = omega arith
  cut_few true c at (x ∷ t) = go (eqb x 0xFF)
    where
      go : (b : Bool) → item_replaced (cell_item L (cond b absent (present c (at + 1) t))) ≤ length (x ∷ t)
      go true = omega arith
      go false = omega (arith, (value_few c t).1)
  cut_few false c at t = (value_few c t).1

  cons_few : (p : Cell) (w : Walk) (at k : ℕ) → is_done w ≡ true → item_replaced (cell_item L p) ≤ k → at + k + row_replaced L (pieces_of w) ≤ used_of w
      → at + row_replaced L (pieces_of (cons_cell p w)) ≤ used_of (cons_cell p w)
  unfolding cons_cell row_replaced
  cons_few p (done ps n) at k o h hs = omega arith
  cons_few p (short e a) at k o h hs = absurd (true≢false (sym o))

  walk_few : (start : ℕ) (cs : List ColumnDescriptor) (at : ℕ) (s : List ℕ) → is_done (walk start cs at s) ≡ true
      → at + row_replaced L (pieces_of (walk start cs at s)) ≤ used_of (walk start cs at s)
  unfolding walk row_replaced
  walk_few start [] at s o = omega arith
  walk_few start (c ∷ cs) at s o =
      let k = column_need c s in
      let rest = walk_rest start c cs at s o in
      subst (λ (w : Walk). at + row_replaced L (pieces_of w) ≤ used_of w) (sym (walk_step start c cs at s k refl (walk_first start c cs at s o)))
      (cons_few (cell_of c.nullable c at (take k s)) (walk start cs (at + k) (drop k s)) at k rest
      (omega (arith, cut_few c.nullable c at (take k s), length-take k s))
      (walk_few start cs (at + k) (drop k s) rest))

  replaced_fit : (columns : Columns) (s d : List ℕ) (x : Decision) → row_decision L columns s d ≡ x → (answer_of L x).replaced ≤ (answer_of L x).used
  unfolding answer_of walk_body
  replaced_fit columns s d (refuse n vs) e = omega arith
  replaced_fit columns s d (accept ps n) e =
      let f = facts L columns s d (ap (λ (x : Decision). (answer_of L x).outcome) e) in
      let w = walk_row (covered columns) s in
      let many : n ≡ used_of w = let decided = f.decided in cc in
      let same : ps ≡ pieces_of w = let decided = f.decided in cc in
      omega (arith, many, ap (row_replaced L) same, walk_few (skip_of s) (covered columns) (skip_of s) (drop (skip_of s) s) f.over)

-- of the row call
pub replaced_fits : (release : ℕ) → ReplacedFits (row_answer release) (row_text release)
replaced_fits release =
    at_release release ReplacedFits (λ columns s d. replaced_fit release columns s d (row_decision (conversions_of release) columns s d) refl) (λ columns s d. omega arith)
