-- What was replaced is seen: the texts of an accepted row have at least as many U+FFFD (specs/Accepted.antt). Assumes nothing.
use Prim.Native.Nat.{ℕ, ◌+◌, ◌≤◌}
use mathlib.Core.Path.{refl}
use mathlib.Core.List.{List, [], ◌∷◌, ◌++◌}
use native.Mathlib.Omega.{arith}
use lib.ListN.{length, drop}
use lib.Seq.{take_at}
use Rattle.buffer.specs.Buffer.{Converted}
use Rattle.unicode_standard.specs.Unicode.{utf8_pieces}
use Rattle.unicode_standard.specs.Laws.{AreBytes, replacement_characters}
use Rattle.unicode_standard.proofs.Bytes.{bytes_drop}
use Rattle.unicode_standard.proofs.Laws.{texts, counted_append}
use Rattle.conversion.proofs.Counts.{characters_counted, graphics_counted}
use Rattle.types.specs.declared.Db2Type.{Db2Type}
use Rattle.rules.specs.Meaning.{Item, nothing, numeric, boolean, part, text, item_in}
use Rattle.rules.specs.Walk.{Cell, absent, present, walk_body, walk_row, skip_of}
use Rattle.rules.specs.Row.{covered, item_text, item_replaced, cell_item, row_texts, row_replaced, answer_of, text_after, answer_with, text_with}
use Rattle.rules.specs.Conversions.{conversions_of, row_answer, row_text}
use Rattle.rules.specs.Accepted.{ReplacedShown}
use Rattle.rules.proofs.ItemTexts.{TextOf, Texts, item_text_lem}
use Rattle.rules.proofs.Utf8Texts.{Fine, all_fine, PieceBytes, AllBytes, walk_bytes}
use Rattle.rules.proofs.Walks.{pieces_of}
use Rattle.rules.proofs.Answers.{filled_together}
use Rattle.rules.proofs.Releases.{at_release}
use Rattle.rules.proofs.Demand3.{refused_not, facts}

-- how many U+FFFD a text has
abbrev seen : List ℕ → ℕ
seen t = replacement_characters (utf8_pieces t)

-- a text shows what was replaced in it, and is well-formed, so that what follows it is read apart
abbrev Shows : Converted → Type 0
Shows t = Fine t × (t.replaced ≤ seen t.text_bytes)

module _ (release : ℕ) (s : List ℕ) (h : AreBytes s) where
  all_show : (t : Db2Type) → Texts (conversions_of release) t s Shows
  all_show t =
      let f = all_fine release s h t in
      record {
        of_none = (f.of_none, omega arith);
        of_packed = λ precision scale e. (f.of_packed precision scale e, omega arith);
        of_characters = λ ccsid n. (f.of_characters ccsid n, omega (arith, (characters_counted (drop n s) (bytes_drop n s h) release ccsid).together));
        of_graphics = λ ccsid n. (f.of_graphics ccsid n, omega (arith, (graphics_counted (drop n s) (bytes_drop n s h) release ccsid).together));
        of_inline = λ n. (f.of_inline n, omega (arith, texts.utf8_counted (drop n s) (bytes_drop n s h)));
        of_locator = λ n. (f.of_locator n, omega arith);
        of_row_id = (f.of_row_id, omega arith);
      }

item_seen : (x : Item) → TextOf Shows x → (r : List ℕ) → item_replaced x + seen r ≤ seen (item_text x ++ r)
unfolding item_replaced item_text
item_seen nothing f r = omega arith
item_seen (numeric x) f r = omega arith
item_seen (boolean b) f r = omega arith
item_seen (part k from n) f r = omega arith
item_seen (text k t) f r = omega (arith, f.1, counted_append t.text_bytes r f.0)

cell_seen : (release : ℕ) (p : Cell) → PieceBytes p → (r : List ℕ) → item_replaced (cell_item (conversions_of release) p) + seen r ≤ seen (item_text (cell_item (conversions_of release) p) ++ r)
unfolding cell_item
cell_seen release absent h r = item_seen nothing tt r
cell_seen release (present c at s) h r = item_seen (item_in (conversions_of release) c s) (item_text_lem (conversions_of release) Shows c s (all_show release s h c.db2_type)) r

row_seen : (release : ℕ) (ps : List Cell) → AllBytes ps → row_replaced (conversions_of release) ps ≤ seen (row_texts (conversions_of release) ps)
unfolding row_replaced row_texts
row_seen release [] h = omega arith
row_seen release (p ∷ ps) h = omega (arith, cell_seen release p h.0 (row_texts (conversions_of release) ps), row_seen release ps h.1)

replaced_shown_with : (release : ℕ) → ReplacedShown (answer_with (conversions_of release)) (text_with (conversions_of release))
unfolding answer_of text_after walk_body
replaced_shown_with release columns s d h e =
    let f = facts (conversions_of release) columns s d e in
    let ps = pieces_of (walk_row (covered columns) s) in
    let ts = row_texts (conversions_of release) ps in
    let b = walk_bytes (skip_of s) (covered columns) (skip_of s) (drop (skip_of s) s) (bytes_drop (skip_of s) s h) f.over in
    rw (f.decided, filled_together (conversions_of release) ps, take_at ts (drop (length ts) d) (length ts) refl) (row_seen release ps b)

-- of the row call
pub replaced_shown : (release : ℕ) → ReplacedShown (row_answer release) (row_text release)
replaced_shown release = at_release release ReplacedShown (replaced_shown_with release) (λ columns s d h e. absurd (refused_not 22 [] e))
