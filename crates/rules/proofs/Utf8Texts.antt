-- Every text of a row is well-formed UTF-8 (D86 of the Unicode Standard; the rules' T1), whatever its column and its bytes. Assumes nothing.
use Prim.Native.Nat.{ℕ, zero, suc, ◌+◌, ◌-◌, ◌<◌}
use mathlib.Core.Bool.{Bool, true, false, cond}
use mathlib.Core.List.{List, [], ◌∷◌, ◌++◌, map, append_assoc}
use mathlib.Core.Path.{◌≡◌, refl, sym, ap, subst}
use native.Mathlib.Omega.{arith}
use lib.Dec.{eqb, ltb}
use lib.ListN.{length, get_or, take, drop, replicate, length-append}
use lib.Seq.{take_at, drop_at}
use borrow.Author.Tests.{lt-ltb, le-leb}
use Rattle.unicode_standard.specs.Unicode.{utf8}
use Rattle.unicode_standard.specs.Ascii.{all_ascii}
use Rattle.unicode_standard.specs.Laws.{WellFormed, AreBytes}
use Rattle.unicode_standard.proofs.Ranges.{both}
use Rattle.unicode_standard.proofs.Bytes.{bytes_drop, bytes_take}
use Rattle.unicode_standard.proofs.Laws.{texts}
use Rattle.conversion.proofs.Utf8Texts.{ascii_well_formed, ascii_append, characters_well_formed, graphics_well_formed, locator_well_formed, row_id_well_formed}
use Rattle.packed.specs.Packed.{nibbles, sign_nibble, sign_text, character, digit_text, trimmed, whole_part, zeros, fraction, decimal_text}
use Rattle.types.specs.declared.Db2Type.{Db2Type}
use Rattle.types.specs.declared.ColumnDescriptor.{ColumnDescriptor}
use Rattle.types.specs.declared.ValuePlace.{ValuePlace}
use Rattle.types.specs.Places.{max_columns, filled, blank_value}
use Rattle.types.specs.Held.{held}
use Rattle.buffer.specs.Buffer.{Converted, overwritten}
use Rattle.rules.specs.Meaning.{Item, nothing, numeric, boolean, part, text, item_in}
use Rattle.rules.specs.Walk.{column_need, Cell, absent, present, cell_of, Walk, done, short, cons_cell, walk, walk_body, walk_row, skip_of}
use Rattle.rules.specs.Value.{bytes_at}
use Rattle.rules.specs.Row.{place, value_of, item_text, cell_item, cell_value, row_values, row_texts, covered, answer_of, text_after, answer_with, text_with}
use Rattle.rules.specs.Conversions.{conversions_of, row_answer, row_text}
use Rattle.rules.specs.Accepted.{HoldsUtf8, TextsUtf8}
use Rattle.rules.proofs.Walks.{is_done, pieces_of, walk_step, walk_first, walk_rest}
use Rattle.rules.proofs.ItemTexts.{TextOf, Texts, item_text_lem}
use Rattle.rules.proofs.Answers.{number_held, part_held, text_held_lem}
use Rattle.rules.proofs.Releases.{at_release}
use Rattle.rules.proofs.Demand3.{refused_not, facts}

-- ---- the text of a packed decimal is ASCII

abbrev Low : List ℕ → Type 0
Low [] = Unit {0}
Low (v ∷ vs) = (v < 16) × Low vs

nibbles_low : (s : List ℕ) → AreBytes s → Low (nibbles s)
unfolding nibbles
nibbles_low [] h = tt
nibbles_low (b ∷ s) h = (omega (arith, h 0), (omega arith, nibbles_low s (λ i. h (suc i))))

characters_ascii : (n : ℕ) (vs : List ℕ) → Low vs → all_ascii (map character (take n vs)) ≡ true
unfolding all_ascii
characters_ascii zero vs l = refl
characters_ascii (suc n) [] l = refl
characters_ascii (suc n) (v ∷ vs) l = rw (lt-ltb (0x30 + v) 0x80 (omega (arith, l.0))) (characters_ascii n vs l.1)

ascii_take : (n : ℕ) (s : List ℕ) → all_ascii s ≡ true → all_ascii (take n s) ≡ true
unfolding all_ascii
ascii_take zero s e = refl
ascii_take (suc n) [] e = refl
ascii_take (suc n) (b ∷ s) e =
    let c = both (ltb b 0x80) (all_ascii s) e in
    rw c.0 (ascii_take n s c.1)

ascii_drop : (n : ℕ) (s : List ℕ) → all_ascii s ≡ true → all_ascii (drop n s) ≡ true
unfolding all_ascii
ascii_drop zero s e = e
ascii_drop (suc n) [] e = refl
ascii_drop (suc n) (b ∷ s) e = ascii_drop n s (both (ltb b 0x80) (all_ascii s) e).1

zeros_ascii : (n : ℕ) → all_ascii (zeros n) ≡ true
unfolding all_ascii
zeros_ascii zero = refl
zeros_ascii (suc n) = zeros_ascii n

trimmed_ascii : (s : List ℕ) → all_ascii s ≡ true → all_ascii (trimmed s) ≡ true
unfolding trimmed all_ascii
trimmed_ascii [] e = refl
trimmed_ascii (b ∷ s) e = go (eqb b 0x30) (trimmed_ascii s (both (ltb b 0x80) (all_ascii s) e).1)
  where
    go : (x : Bool) → all_ascii (trimmed s) ≡ true → all_ascii (cond x (trimmed s) (b ∷ s)) ≡ true
    go true r = r
    go false r = e

sign_ascii : (s : List ℕ) → all_ascii (sign_text s) ≡ true
unfolding sign_text all_ascii
sign_ascii s = go (eqb (sign_nibble s) 0xD)
  where
    go : (x : Bool) → all_ascii (cond x (0x2D ∷ []) []) ≡ true
    go true = refl
    go false = refl

fraction_ascii : (scale : ℕ) (ds : List ℕ) → all_ascii ds ≡ true → all_ascii (fraction scale ds) ≡ true
unfolding fraction all_ascii
fraction_ascii scale ds e = go (eqb scale 0)
  where
    go : (x : Bool) → all_ascii (cond x [] (0x2E ∷ (zeros (scale - length ds) ++ drop (length ds - scale) ds))) ≡ true
    go true = refl
    go false = ascii_append (zeros (scale - length ds)) (drop (length ds - scale) ds) (zeros_ascii (scale - length ds)) (ascii_drop (length ds - scale) ds e)

pub decimal_well_formed : (scale : ℕ) (s : List ℕ) → AreBytes s → WellFormed utf8 (decimal_text scale s)
unfolding decimal_text digit_text
decimal_well_formed scale s h =
    let ds = digit_text s in
    let e : all_ascii ds ≡ true = characters_ascii (length (nibbles s) - 1) (nibbles s) (nibbles_low s h) in
    ascii_well_formed (decimal_text scale s)
    (ascii_append (sign_text s) (trimmed (whole_part scale ds) ++ fraction scale ds) (sign_ascii s)
    (ascii_append (trimmed (whole_part scale ds)) (fraction scale ds) (trimmed_ascii (whole_part scale ds) (ascii_take (length ds - scale) ds e)) (fraction_ascii scale ds e)))

-- ---- the texts of items

abbrev pub Fine : Converted → Type 0
Fine t = WellFormed utf8 t.text_bytes

pub nothing_written : WellFormed utf8 []
unfolding all_ascii
nothing_written = ascii_well_formed [] refl

module _ (release : ℕ) (s : List ℕ) (h : AreBytes s) where
  inline_fine : (n : ℕ) → Fine ((conversions_of release).inline_text (drop n s))
  inline_fine n = texts.utf8_text_lem (drop n s) (bytes_drop n s h)

  pub all_fine : (t : Db2Type) → Texts (conversions_of release) t s Fine
  all_fine t =
      record {
        of_none = nothing_written;
        of_packed = λ precision scale e. decimal_well_formed scale s h;
        of_characters = λ ccsid n. characters_well_formed (drop n s) (bytes_drop n s h) release ccsid;
        of_graphics = λ ccsid n. graphics_well_formed (drop n s) (bytes_drop n s h) release ccsid;
        of_inline = inline_fine;
        of_locator = λ n. locator_well_formed (drop n s) (bytes_drop n s h);
        of_row_id = row_id_well_formed s h;
      }

  -- the text of a column's value is well-formed, whatever its bytes
  pub item_well_formed : (c : ColumnDescriptor) → TextOf Fine (item_in (conversions_of release) c s)
  item_well_formed c = item_text_lem (conversions_of release) Fine c s (all_fine c.db2_type)

-- ---- the texts of a row

-- the bytes of a piece are bytes of the row
abbrev pub PieceBytes : Cell → Type 0
PieceBytes absent = Unit {0}
PieceBytes (present c at s) = AreBytes s

abbrev pub AllBytes : List Cell → Type 0
AllBytes [] = Unit {0}
AllBytes (p ∷ ps) = PieceBytes p × AllBytes ps

piece_bytes : (t : Bool) (c : ColumnDescriptor) (at : ℕ) (s : List ℕ) → AreBytes s → PieceBytes (cell_of t c at s)
unfolding cell_of
piece_bytes true c at [] h = tt
piece_bytes true c at (b ∷ s) h = go (eqb b 255)
  where
    go : (t : Bool) → PieceBytes (cond t absent (present c (at + 1) s))
    go true = tt
    go false = λ i. h (suc i)
piece_bytes false c at s h = h

cons_bytes : (p : Cell) (w : Walk) → PieceBytes p → AllBytes (pieces_of w) → AllBytes (pieces_of (cons_cell p w))
unfolding cons_cell
cons_bytes p (done ps k) h hs = (h, hs)
cons_bytes p (short e a) h hs = tt

pub walk_bytes : (start : ℕ) (cs : List ColumnDescriptor) (at : ℕ) (s : List ℕ) → AreBytes s → is_done (walk start cs at s) ≡ true → AllBytes (pieces_of (walk start cs at s))
unfolding walk
walk_bytes start [] at s h d = tt
walk_bytes start (c ∷ cs) at s h d =
    let k = column_need c s in
    let ih = walk_bytes start cs (at + k) (drop k s) (bytes_drop k s h) (walk_rest start c cs at s d) in
    subst (λ (w : Walk). AllBytes (pieces_of w)) (sym (walk_step start c cs at s k refl (walk_first start c cs at s d)))
    (cons_bytes (cell_of c.nullable c at (take k s)) (walk start cs (at + k) (drop k s)) (piece_bytes c.nullable c at (take k s) (bytes_take k s h)) ih)

-- a text stands where its value says, behind the texts a
pub text_there : (a t b : List ℕ) → bytes_at (place (length a) (length t)) (a ++ (t ++ b)) ≡ t
unfolding bytes_at
text_there a t b =
    rw (le-leb (length a + length t) (length (a ++ (t ++ b))) (omega (arith, length-append a (t ++ b), length-append t b)), drop_at a (t ++ b) (length a) refl)
    (take_at t b (length t) refl)

item_utf8 : (x : Item) (at : ℕ) (a b : List ℕ) → TextOf Fine x → HoldsUtf8 (held (value_of x at (length a))) (a ++ (item_text x ++ b))
unfolding value_of item_text
item_utf8 nothing at a b f = tt
item_utf8 (numeric x) at a b f = rw (number_held x).1 tt
item_utf8 (boolean x) at a b f = tt
item_utf8 (part k from l) at a b f = rw part_held tt
item_utf8 (text k t) at a b f = rw (text_held_lem, text_there a t.text_bytes b) f

piece_utf8 : (release : ℕ) (p : Cell) → PieceBytes p → (a b : List ℕ) → HoldsUtf8 (held (cell_value (conversions_of release) p (length a)).value) (a ++ (item_text (cell_item (conversions_of release) p) ++ b))
unfolding cell_item cell_value blank_value
piece_utf8 release absent h a b = tt
piece_utf8 release (present c at s) h a b = item_utf8 (item_in (conversions_of release) c s) at a b (item_well_formed release s h c)

abbrev AllUtf8 : List ValuePlace → List ℕ → Type 0
AllUtf8 [] d = Unit {0}
AllUtf8 (v ∷ vs) d = HoldsUtf8 (held v.value) d × AllUtf8 vs d

values_utf8 : (release : ℕ) (ps : List Cell) → AllBytes ps → (a b : List ℕ) → AllUtf8 (row_values (conversions_of release) ps (length a)) (a ++ (row_texts (conversions_of release) ps ++ b))
unfolding row_values row_texts
values_utf8 release [] h a b = tt
values_utf8 release (p ∷ ps) h a b =
    let t = item_text (cell_item (conversions_of release) p) in
    let r = row_texts (conversions_of release) ps in
    let e : a ++ ((t ++ r) ++ b) ≡ a ++ (t ++ (r ++ b)) = ap (λ (l : List ℕ). a ++ l) (append_assoc t r b) in
    let n : length (a ++ t) ≡ length a + length t = length-append a t in
    let rest : AllUtf8 (row_values (conversions_of release) ps (length a + length t)) (a ++ (t ++ (r ++ b))) = rw (append_assoc a t (r ++ b), n) at (values_utf8 release ps h.1 (a ++ t) b) in
    rw e (piece_utf8 release p h.0 a (r ++ b), rest)

blanks_utf8 : (k : ℕ) (d : List ℕ) → AllUtf8 (replicate k blank_value) d
unfolding blank_value
blanks_utf8 zero d = tt
blanks_utf8 (suc k) d = (tt, blanks_utf8 k d)

append_utf8 : (vs ws : List ValuePlace) (d : List ℕ) → AllUtf8 vs d → AllUtf8 ws d → AllUtf8 (vs ++ ws) d
append_utf8 [] ws d h k = k
append_utf8 (v ∷ vs) ws d h k = (h.0, append_utf8 vs ws d h.1 k)

at_utf8 : (vs : List ValuePlace) (d : List ℕ) (i : ℕ) → AllUtf8 vs d → HoldsUtf8 (held (get_or vs i blank_value).value) d
unfolding blank_value
at_utf8 [] d i h = tt
at_utf8 (v ∷ vs) d zero h = h.0
at_utf8 (v ∷ vs) d (suc i) h = at_utf8 vs d i h.1

texts_utf8_with : (release : ℕ) → TextsUtf8 (answer_with (conversions_of release)) (text_with (conversions_of release))
unfolding answer_of text_after filled walk_body
texts_utf8_with release columns s d h e i =
    let f = facts (conversions_of release) columns s d e in
    let cs = covered columns in
    let ps = pieces_of (walk_row cs s) in
    let vs = row_values (conversions_of release) ps 0 in
    let k = max_columns - length vs in
    let ts = row_texts (conversions_of release) ps in
    let b = walk_bytes (skip_of s) cs (skip_of s) (drop (skip_of s) s) (bytes_drop (skip_of s) s h) f.over in
    rw f.decided
    (at_utf8 (vs ++ replicate k blank_value) (overwritten ts d) i
    (append_utf8 vs (replicate k blank_value) (overwritten ts d) (values_utf8 release ps b [] (drop (length ts) d)) (blanks_utf8 k (overwritten ts d))))

-- of the row call
pub texts_utf8 : (release : ℕ) → TextsUtf8 (row_answer release) (row_text release)
texts_utf8 release = at_release release TextsUtf8 (texts_utf8_with release) (λ columns s d h e i. absurd (refused_not 22 [] e))
