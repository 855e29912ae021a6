-- What value_bytes shows of an accepted row is what the walk found for each column (specs/Shown.antt). Assumes nothing.
use Prim.Native.Nat.{ℕ, zero, suc, ◌+◌, ◌-◌, ◌≤◌}
use mathlib.Core.Bool.{Bool, true, false, cond}
use mathlib.Core.List.{List, [], ◌∷◌, ◌++◌, append_assoc}
use mathlib.Core.Path.{◌≡◌, refl, sym, ap, subst, ◌∙◌}
use native.Mathlib.Omega.{arith}
use lib.Dec.{eqb}
use lib.ListN.{length, get_or, take, drop, replicate, length-append, length-drop, take-append-drop}
use lib.Seq.{length-take-le}
use borrow.Author.Tests.{le-leb, ne_eqb}
use Rattle.types.specs.declared.ColumnDescriptor.{ColumnDescriptor}
use Rattle.types.specs.declared.ValuePlace.{ValuePlace}
use Rattle.types.specs.Places.{max_columns, filled, blank_value}
use Rattle.rules.specs.Meaning.{Item, nothing, numeric, boolean, part, text, Conversions, item_in}
use Rattle.rules.specs.Walk.{column_need, Cell, absent, present, cell_of, Walk, done, short, cons_cell, walk, walk_body, walk_row, skip_of}
use Rattle.rules.specs.Value.{bytes_at, value_bytes}
use Rattle.rules.specs.Row.{Decision, covered, place, start_of, value_of, item_text, cell_item, cell_value, row_values, row_texts, answer_of, text_after}
use Rattle.rules.specs.Conversions.{conversions_of}
use Rattle.rules.specs.Shown.{shown_of, cell_shown, ValuesShown}
use Rattle.rules.proofs.Walks.{is_done, pieces_of, walk_step, walk_first, walk_rest}
use Rattle.rules.proofs.Rows.{skip_fits}
use Rattle.rules.proofs.Answers.{Inside, item_inside, number_held, part_held, text_held_lem}
use Rattle.rules.proofs.Utf8Texts.{text_there}
use Rattle.rules.proofs.Demand3.{facts}

-- ---- the bytes of a piece stand in the input, at its place

-- b stands at place `at` of s
pub record StandsAt (s : List ℕ) (at : ℕ) (b : List ℕ) : Type 0 where
  pub before : List ℕ
  pub behind : List ℕ
  pub split : s ≡ before ++ (b ++ behind)
  pub begins : length before ≡ at

abbrev Stands : List ℕ → Cell → Type 0
Stands s absent = Unit {0}
Stands s (present c at b) = StandsAt s at b

abbrev AllStand : List ℕ → List Cell → Type 0
AllStand s [] = Unit {0}
AllStand s (p ∷ ps) = Stands s p × AllStand s ps

piece_stands : (s a z : List ℕ) (at : ℕ) → length a ≡ at → (t : Bool) (c : ColumnDescriptor) (b : List ℕ) → s ≡ a ++ (b ++ z) → Stands s (cell_of t c at b)
unfolding cell_of
piece_stands s a z at h true c [] e = tt
piece_stands s a z at h true c (x ∷ b) e = go (eqb x 255)
  where
    go : (t : Bool) → Stands s (cond t absent (present c (at + 1) b))
    go true = tt
    go false =
        record { before = a ++ (x ∷ []); behind = z; split = e ∙ sym (append_assoc a (x ∷ []) (b ++ z)); begins = length-append a (x ∷ []) ∙ ap (λ (k : ℕ). k + 1) h }
piece_stands s a z at h false c b e = record { before = a; behind = z; split = e; begins = h }

cons_stands : (s : List ℕ) (p : Cell) (w : Walk) → Stands s p → AllStand s (pieces_of w) → AllStand s (pieces_of (cons_cell p w))
unfolding cons_cell
cons_stands s p (done ps k) h hs = (h, hs)
cons_stands s p (short e a) h hs = tt

walk_stands : (s a : List ℕ) (start : ℕ) (cs : List ColumnDescriptor) (at : ℕ) (r : List ℕ) → length a ≡ at → s ≡ a ++ r → is_done (walk start cs at r) ≡ true
    → AllStand s (pieces_of (walk start cs at r))
unfolding walk
walk_stands s a start [] at r h e d = tt
walk_stands s a start (c ∷ cs) at r h e d =
    let k = column_need c r in
    let there = walk_first start c cs at r d in
    let whole : s ≡ a ++ (take k r ++ drop k r) = e ∙ ap (λ (l : List ℕ). a ++ l) (sym (take-append-drop k r)) in
    let n : length (a ++ take k r) ≡ at + k = omega (arith, length-append a (take k r), length-take-le k r there, h) in
    let ih = walk_stands s (a ++ take k r) start cs (at + k) (drop k r) n (whole ∙ sym (append_assoc a (take k r) (drop k r))) (walk_rest start c cs at r d) in
    subst (λ (w : Walk). AllStand s (pieces_of w)) (sym (walk_step start c cs at r k refl there))
    (cons_stands s (cell_of c.nullable c at (take k r)) (walk start cs (at + k) (drop k r)) (piece_stands s a (drop k r) at h c.nullable c (take k r) whole) ih)

-- ---- what a value shows

part_shown : (s b : List ℕ) (at from n : ℕ) → StandsAt s at b → n ≤ length b - from → bytes_at (place (start_of n (at + from)) n) s ≡ take n (drop from b)
unfolding bytes_at start_of
part_shown s b at from zero h i = rw (le-leb 0 (length s) (omega arith))
part_shown s b at from (suc n) h i =
    let m = take (suc n) (drop from b) in
    let u = drop (suc n) (drop from b) in
    let a = h.before ++ take from b in
    let w : s ≡ a ++ (m ++ (u ++ h.behind)) =
    h.split
    ∙ ap (λ (l : List ℕ). h.before ++ (l ++ h.behind)) (sym (take-append-drop from b))
    ∙ ap (λ (l : List ℕ). h.before ++ l) (append_assoc (take from b) (drop from b) h.behind)
    ∙ sym (append_assoc h.before (take from b) (drop from b ++ h.behind))
    ∙ ap (λ (l : List ℕ). a ++ (l ++ h.behind)) (sym (take-append-drop (suc n) (drop from b)))
    ∙ ap (λ (l : List ℕ). a ++ l) (append_assoc m u h.behind) in
    let p : length a ≡ at + from = omega (arith, length-append h.before (take from b), length-take-le from b (omega arith), h.begins) in
    let q : length m ≡ suc n = length-take-le (suc n) (drop from b) (omega (arith, length-drop from b)) in
    let more : eqb (suc n) 0 ≡ false = ne_eqb (suc n) 0 (λ e. omega (arith, e)) in
    rw more (rw (p, q, sym w) at (text_there a m (u ++ h.behind)))

item_shown : (x : Item) (at : ℕ) (s b a z : List ℕ) → StandsAt s at b → Inside (length b) x → value_bytes (value_of x at (length a)) s (a ++ (item_text x ++ z)) ≡ shown_of x b
unfolding value_bytes value_of item_text
item_shown nothing at s b a z h i = refl
item_shown (numeric x) at s b a z h i = rw (number_held x).1
item_shown (boolean t) at s b a z h i = refl
item_shown (part k from n) at s b a z h i = rw part_held (part_shown s b at from n h i)
item_shown (text k t) at s b a z h i = rw text_held_lem (text_there a t.text_bytes z)

module _ (L : Conversions) (s : List ℕ) where
  piece_shown : (p : Cell) → Stands s p → (a z : List ℕ) → value_bytes (cell_value L p (length a)).value s (a ++ (item_text (cell_item L p) ++ z)) ≡ cell_shown L p
  unfolding cell_item cell_value blank_value value_bytes
  piece_shown absent h a z = refl
  piece_shown (present c at b) h a z = item_shown (item_in L c b) at s b a z h (item_inside L c b)

  all_shown : (ps : List Cell) → AllStand s ps → (a z : List ℕ) (i : ℕ)
      → value_bytes (get_or (row_values L ps (length a)) i blank_value).value s (a ++ (row_texts L ps ++ z)) ≡ cell_shown L (get_or ps i absent)
  unfolding row_values row_texts blank_value value_bytes
  all_shown [] h a z i = refl
  all_shown (p ∷ ps) h a z zero =
      let t = item_text (cell_item L p) in
      rw (append_assoc t (row_texts L ps) z) (piece_shown p h.0 a (row_texts L ps ++ z))
  all_shown (p ∷ ps) h a z (suc i) =
      let t = item_text (cell_item L p) in
      let r = row_texts L ps in
      let n : length (a ++ t) ≡ length a + length t = length-append a t in
      rw (append_assoc t r z) (rw (append_assoc a t (r ++ z), n) at (all_shown ps h.1 (a ++ t) z i))

blanks_after : (vs : List ValuePlace) (k i : ℕ) → get_or (vs ++ replicate k blank_value) i blank_value ≡ get_or vs i blank_value
blanks_after [] zero i = refl
blanks_after [] (suc k) zero = refl
blanks_after [] (suc k) (suc i) = blanks_after [] k i
blanks_after (v ∷ vs) k zero = refl
blanks_after (v ∷ vs) k (suc i) = blanks_after vs k i

-- for every choice of the conversions
pub values_shown_with : (L : Conversions) → ValuesShown L
unfolding answer_of text_after filled walk_body
values_shown_with L columns s d ps n e i =
    let f = facts L columns s d (ap (λ (x : Decision). (answer_of L x).outcome) e) in
    let cs = covered columns in
    let same : ps ≡ pieces_of (walk_row cs s) = let decided = f.decided in cc in
    let k = skip_of s in
    let stand : AllStand s ps =
    subst (AllStand s) (sym same)
    (walk_stands s (take k s) k cs k (drop k s) (length-take-le k s (skip_fits s)) (sym (take-append-drop k s)) f.over) in
    let vs = row_values L ps 0 in
    rw (e, blanks_after vs (max_columns - length vs) i) (all_shown L s ps stand [] (drop (length (row_texts L ps)) d) i)

-- of the row call
pub values_shown : (release : ℕ) → ValuesShown (conversions_of release)
values_shown release = values_shown_with (conversions_of release)
