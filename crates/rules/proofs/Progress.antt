-- The laws of the loops that go through a row's columns: of the columns cs, i are passed, and the next byte is at place `at` of the input s.
--     Seeking     is there a DecFloat column? None is among the columns passed
--     Walking     going through the columns for the first time: does each have its bytes?
--     Going       going through them again, where the walk is done
--     Measuring   going again, adding the lengths of the texts
--     Placing     going again, writing the texts into a buffer one after the other, and adding how many U+FFFD were put in
-- Each has a law for its start, for a turn and for its end. A turn is given the column c, by `drop i cs ≡ c ∷ drop (i + 1) cs`, and the rest of the row r, by
-- `r ≡ drop at s`; column_at_lem, covered_at and rest_is give these two. Assumes nothing.
use Prim.Native.Nat.{ℕ, suc, ◌+◌, ◌-◌, ◌≤◌, ◌<◌}
use mathlib.Core.Path.{◌≡◌, refl, sym, ap, ◌∙◌}
use mathlib.Core.Bool.{Bool, true, false, cond, false≢true}
use mathlib.Core.List.{List, [], ◌∷◌, ◌++◌, append_assoc, append-nil}
use native.Mathlib.Omega.{arith}
use lib.ListN.{length, get_or, take, drop, set, replicate, length-append, length-drop, drop_of_length-le}
use lib.Seq.{drop-drop, get_or-take, length-take-le, set-append_seam, append_snoc}
use lib.Dec.{eqb}
use borrow.Author.Tests.{lt-leb}
-- what is lent of the input, `&s[at..]`, is rest_is
pub use Rattle.std.proofs.lemmas.List.{take_rest as rest_is}
use Rattle.std.proofs.lemmas.List.{drop_more}
use Rattle.types.specs.declared.ColumnDescriptor.{ColumnDescriptor}
use Rattle.types.specs.declared.ValuePlace.{ValuePlace}
use Rattle.types.specs.Names.{is_dec_float}
use Rattle.types.specs.Places.{max_columns, filled, blank_value}
use Rattle.buffer.specs.Buffer.{overwritten}
use Rattle.buffer.proofs.Writing as writing
use Rattle.rules.specs.Extent.{extent_of}
use Rattle.rules.specs.Meaning.{Conversions}
use Rattle.rules.specs.Walk.{column_need, Cell, absent, present, cell_of, Walk, done, short, cons_cell, cell_short, walk, walk_body}
use Rattle.rules.specs.Row.{item_text, item_replaced, cell_item, cell_value, row_values, row_texts, row_replaced, any_dec_float}
use Rattle.rules.proofs.Walks.{is_done, used_of, pieces_of, walk_step, walk_first, walk_used}

-- ---- what a turn is given

pub column_at_lem : (cs : List ColumnDescriptor) (i : ℕ) (d : ColumnDescriptor) → i < length cs → drop i cs ≡ get_or cs i d ∷ drop (i + 1) cs
column_at_lem cs i d h = drop_more cs i d h

-- the first n of a longer list
pub covered_at : (cs : List ColumnDescriptor) (n i : ℕ) (d : ColumnDescriptor) → n ≤ length cs → i < n → drop i (take n cs) ≡ get_or cs i d ∷ drop (i + 1) (take n cs)
covered_at cs n i d h k =
    column_at_lem (take n cs) i d (omega (arith, length-take-le n cs h))
    ∙ ap (λ (c : ColumnDescriptor). c ∷ drop (i + 1) (take n cs)) (get_or-take n cs i d k)

abbrev pub piece_at : ColumnDescriptor → ℕ → List ℕ → Cell
piece_at c at r = cell_of c.nullable c at (take (column_need c r) r)

-- ---- looking for a DecFloat column

module _ (cs : List ColumnDescriptor) where
  pub record Seeking (i : ℕ) : Type 0 where
    pub same : any_dec_float cs ≡ any_dec_float (drop i cs)

  pub seeking_start : Seeking 0
  seeking_start = record { same = refl }

  module _ {i : ℕ} (g : Seeking i) (c : ColumnDescriptor) (e : drop i cs ≡ c ∷ drop (i + 1) cs) where
    pub seeking_found : is_dec_float c ≡ true → any_dec_float cs ≡ true
    unfolding any_dec_float
    seeking_found h = g.same ∙ rw (e, h)

    pub seeking_step : is_dec_float c ≡ false → Seeking (i + 1)
    unfolding any_dec_float
    seeking_step h = record { same = g.same ∙ rw (e, h) }

  pub seeking_end : {i : ℕ} → Seeking i → length cs ≤ i → any_dec_float cs ≡ false
  unfolding any_dec_float
  seeking_end g h = g.same ∙ rw (drop_of_length-le cs h)

-- ---- walks and what is put before them

abbrev pub onto : List Cell → Walk → Walk
onto ps (done qs n) = done (ps ++ qs) n
onto ps (short e a) = short e a

onto_nothing : (w : Walk) → w ≡ onto [] w
onto_nothing (done ps n) = refl
onto_nothing (short e a) = refl

onto_cons : (ps : List Cell) (p : Cell) (w : Walk) → onto ps (cons_cell p w) ≡ onto (ps ++ (p ∷ [])) w
unfolding cons_cell
onto_cons ps p (done qs n) = ap (λ (l : List Cell). done l n) (sym (append_assoc ps (p ∷ []) qs))
onto_cons ps p (short e a) = refl

pub cons_inverse : (p : Cell) (w : Walk) (qs : List Cell) (n : ℕ) → cons_cell p w ≡ done qs n → (w ≡ done (pieces_of w) n) × (qs ≡ p ∷ pieces_of w)
unfolding cons_cell
cons_inverse p (done ps m) qs n h = (ap (λ (k : ℕ). done ps k) (ap used_of h), sym (ap pieces_of h))
cons_inverse p (short e a) qs n h = absurd (false≢true (ap is_done h))

-- ---- going through the columns

module _ (cs : List ColumnDescriptor) (start : ℕ) (s : List ℕ) where
  pub record Walking (i at : ℕ) : Type 0 where
    pub after : start ≤ at
    pub within : at ≤ length s
    pub passed : List Cell
    pub so_far : walk_body cs start s ≡ onto passed (walk start (drop i cs) at (drop at s))

  pub walking_start : start ≤ length s → Walking 0 start
  unfolding walk_body
  walking_start h = record { after = omega arith; within = h; passed = []; so_far = onto_nothing (walk start cs start (drop start s)) }

  module _ {i at : ℕ} (w : Walking i at) (c : ColumnDescriptor) (e : drop i cs ≡ c ∷ drop (i + 1) cs) (r : List ℕ) (q : r ≡ drop at s) where
    here : walk_body cs start s ≡ onto w.passed (walk start (c ∷ drop (i + 1) cs) at r)
    here = w.so_far ∙ rw (e, q)

    pub walking_step : (n : ℕ) → n ≡ column_need c r → n ≤ length r → Walking (i + 1) (at + n)
    walking_step n z h =
        let l = length-drop at s in
        let k : drop n r ≡ drop (at + n) s = rw q (drop-drop n at s) in
        record {
          after = omega (arith, w.after);
          within = omega (arith, w.within, ap length q);
          passed = w.passed ++ (cell_of c.nullable c at (take n r) ∷ []);
          so_far =
              here
              ∙ ap (onto w.passed) (walk_step start c (drop (i + 1) cs) at r n (sym z) h)
              ∙ onto_cons w.passed (cell_of c.nullable c at (take n r)) (walk start (drop (i + 1) cs) (at + n) (drop n r))
              ∙ rw k;
        }

    -- the column has too few bytes
    pub walking_short : length r < column_need c r → (x y : ℕ) → cell_short c.nullable (extent_of c) (at - start) r ≡ short x y → walk_body cs start s ≡ short x y
    unfolding walk
    walking_short h x y z = here ∙ rw (lt-leb (column_need c r) (length r) h, z)

  pub walking_end : {i at : ℕ} → (w : Walking i at) → length cs ≤ i → walk_body cs start s ≡ done w.passed at
  unfolding walk
  walking_end w h = w.so_far ∙ rw (drop_of_length-le cs h, append-nil)

  -- ---- going through them again

  module _ (ps : List Cell) (end : ℕ) where
    -- where the walk ends
    pub end_within : start ≤ length s → walk_body cs start s ≡ done ps end → (start ≤ end) × (end ≤ length s)
    unfolding walk_body
    end_within h d =
        let u = walk_used start cs start (drop start s) (ap is_done d) in
        omega (arith, ap used_of d, length-drop start s)

    pub record Going (i at : ℕ) (passed : List Cell) : Type 0 where
      pub within : at ≤ length s
      pub ahead : List Cell
      pub all : ps ≡ passed ++ ahead
      pub rest : walk start (drop i cs) at (drop at s) ≡ done ahead end

    pub going_start : start ≤ length s → walk_body cs start s ≡ done ps end → Going 0 start []
    unfolding walk_body
    going_start h d = record { within = h; ahead = ps; all = refl; rest = d }

    module _ {i at : ℕ} {passed : List Cell} (g : Going i at passed) (c : ColumnDescriptor) (e : drop i cs ≡ c ∷ drop (i + 1) cs) (r : List ℕ) (q : r ≡ drop at s) where
      again : walk start (c ∷ drop (i + 1) cs) at r ≡ done g.ahead end
      again = rw (q, ← e) g.rest

      -- the column has its bytes
      pub going_there : column_need c r ≤ length r
      going_there = walk_first start c (drop (i + 1) cs) at r (ap is_done again)

      abbrev pub following : Walk
      following = walk start (drop (i + 1) cs) (at + column_need c r) (drop (column_need c r) r)

      turn : (following ≡ done (pieces_of following) end) × (g.ahead ≡ piece_at c at r ∷ pieces_of following)
      turn =
          cons_inverse (piece_at c at r) following g.ahead end
          (sym (walk_step start c (drop (i + 1) cs) at r (column_need c r) refl going_there) ∙ again)

      pub going_ahead : g.ahead ≡ piece_at c at r ∷ pieces_of following
      going_ahead = turn.1

      pub going_step : (n : ℕ) → n ≡ column_need c r → Going (i + 1) (at + n) (passed ++ (piece_at c at r ∷ []))
      going_step n z =
          let k : drop (column_need c r) r ≡ drop (at + column_need c r) s = rw q (drop-drop (column_need c (drop at s)) at s) in
          record {
            within = omega (arith, g.within, going_there, ap length q, length-drop at s);
            ahead = pieces_of following;
            all = g.all ∙ ap (λ (l : List Cell). passed ++ l) going_ahead ∙ sym (append_assoc passed (piece_at c at r ∷ []) (pieces_of following));
            rest = rw (z, ← k) turn.0;
          }

    pub going_end : {i at : ℕ} {passed : List Cell} → (g : Going i at passed) → length cs ≤ i → (ps ≡ passed) × (g.ahead ≡ []) × (end ≡ at)
    unfolding walk
    going_end {i} {at} {passed} g h =
        let k : done [] at ≡ done g.ahead end = (rw (drop_of_length-le cs h) at g.rest) in
        let n : g.ahead ≡ [] = sym (ap pieces_of k) in
        (g.all ∙ rw (n, append-nil), n, sym (ap used_of k))

-- ---- texts and values of pieces

module _ (L : Conversions) where
  -- a piece's item does not depend on where the piece is
  item_anywhere : (b : Bool) (c : ColumnDescriptor) (at other : ℕ) (t : List ℕ) → cell_item L (cell_of b c at t) ≡ cell_item L (cell_of b c other t)
  unfolding cell_item cell_of
  item_anywhere true c at other [] = refl
  item_anywhere true c at other (x ∷ t) = go (eqb x 0xFF)
    where
      go : (f : Bool) → cell_item L (cond f absent (present c (at + 1) t)) ≡ cell_item L (cond f absent (present c (other + 1) t))
      go true = refl
      go false = refl
  item_anywhere false c at other t = refl

  -- the text of the column c in the rest r
  abbrev pub text_in : ColumnDescriptor → List ℕ → List ℕ
  text_in c r = item_text (cell_item L (piece_at c 0 r))

  text_anywhere : (c : ColumnDescriptor) (at : ℕ) (r : List ℕ) → item_text (cell_item L (piece_at c at r)) ≡ text_in c r
  text_anywhere c at r = ap item_text (item_anywhere c.nullable c at 0 (take (column_need c r) r))

  texts_append : (ps qs : List Cell) → row_texts L (ps ++ qs) ≡ row_texts L ps ++ row_texts L qs
  unfolding row_texts
  texts_append [] qs = refl
  texts_append (p ∷ ps) qs = ap (λ (l : List ℕ). item_text (cell_item L p) ++ l) (texts_append ps qs) ∙ sym (append_assoc (item_text (cell_item L p)) (row_texts L ps) (row_texts L qs))

  -- one piece more
  texts_more : (ps : List Cell) (c : ColumnDescriptor) (at : ℕ) (r : List ℕ) → row_texts L (ps ++ (piece_at c at r ∷ [])) ≡ row_texts L ps ++ text_in c r
  unfolding row_texts
  texts_more ps c at r = texts_append ps (piece_at c at r ∷ []) ∙ rw (text_anywhere c at r, append-nil)

  texts_next : (qs : List Cell) (c : ColumnDescriptor) (at : ℕ) (r : List ℕ) → row_texts L (piece_at c at r ∷ qs) ≡ text_in c r ++ row_texts L qs
  unfolding row_texts
  texts_next qs c at r = rw (text_anywhere c at r)

  -- how many U+FFFD were put into the text of the column c in the rest r
  abbrev pub replaced_in : ColumnDescriptor → List ℕ → ℕ
  replaced_in c r = item_replaced (cell_item L (piece_at c 0 r))

  replaced_more : (ps : List Cell) (c : ColumnDescriptor) (at : ℕ) (r : List ℕ) → row_replaced L (ps ++ (piece_at c at r ∷ [])) ≡ row_replaced L ps + replaced_in c r
  unfolding row_replaced
  replaced_more [] c at r = let z = ap item_replaced (item_anywhere c.nullable c at 0 (take (column_need c r) r)) in omega (arith, z)
  replaced_more (p ∷ ps) c at r = omega (arith, replaced_more ps c at r)

  values_more : (ps : List Cell) (p : Cell) (next : ℕ) → row_values L (ps ++ (p ∷ [])) next ≡ row_values L ps next ++ (cell_value L p (next + length (row_texts L ps)) ∷ [])
  unfolding row_values row_texts
  values_more [] p next = let z : next + 0 ≡ next = omega arith in rw z
  values_more (o ∷ ps) p next =
      let l = length-append (item_text (cell_item L o)) (row_texts L ps) in
      let z : next + length (item_text (cell_item L o)) + length (row_texts L ps) ≡ next + length (item_text (cell_item L o) ++ row_texts L ps) = omega arith in
      ap (λ (l : List ValuePlace). cell_value L o next ∷ l) (values_more ps p (next + length (item_text (cell_item L o)))) ∙ rw z

  pub values_length : (ps : List Cell) (next : ℕ) → length (row_values L ps next) ≡ length ps
  unfolding row_values
  values_length [] next = refl
  values_length (p ∷ ps) next = ap suc (values_length ps (next + length (item_text (cell_item L p))))

  -- a value more, where the next text's first byte is known
  pub values_next : (ps : List Cell) (p : Cell) (next : ℕ) → next ≡ length (row_texts L ps) → row_values L (ps ++ (p ∷ [])) 0 ≡ row_values L ps 0 ++ (cell_value L p next ∷ [])
  values_next ps p next e = let z : 0 + length (row_texts L ps) ≡ next = omega arith in values_more ps p 0 ∙ rw z

  module _ (cs : List ColumnDescriptor) (start : ℕ) (s : List ℕ) (ps : List Cell) (end : ℕ) where
    -- ---- measuring

    pub record Measuring (i at total : ℕ) : Type 0 where
      pub passed : List Cell
      pub going : Going cs start s ps end i at passed
      pub sum : total ≡ length (row_texts L passed)

    pub measuring_start : start ≤ length s → walk_body cs start s ≡ done ps end → Measuring 0 start 0
    unfolding row_texts
    measuring_start h d = record { passed = []; going = going_start cs start s ps end h d; sum = refl }

    module _ {i at total : ℕ} (m : Measuring i at total) (c : ColumnDescriptor) (e : drop i cs ≡ c ∷ drop (i + 1) cs) (r : List ℕ) (q : r ≡ drop at s) where
      pub measuring_there : column_need c r ≤ length r
      measuring_there = going_there cs start s ps end m.going c e r q

      -- the sum stays within the length of all texts
      pub measuring_bound : (k : ℕ) → k ≡ length (text_in c r) → total + k ≤ length (row_texts L ps)
      measuring_bound k z =
          let f = following cs start s ps end m.going c e r q in
          let a : row_texts L ps ≡ row_texts L m.passed ++ (text_in c r ++ row_texts L (pieces_of f)) =
          ap (row_texts L) (m.going.all ∙ ap (λ (l : List Cell). m.passed ++ l) (going_ahead cs start s ps end m.going c e r q))
          ∙ texts_append m.passed (piece_at c at r ∷ pieces_of f)
          ∙ ap (λ (l : List ℕ). row_texts L m.passed ++ l) (texts_next (pieces_of f) c at r) in
          omega (arith, m.sum, ap length a, length-append (row_texts L m.passed) (text_in c r ++ row_texts L (pieces_of f)), length-append (text_in c r) (row_texts L (pieces_of f)))

      pub measuring_step : (n k : ℕ) → n ≡ column_need c r → k ≡ length (text_in c r) → Measuring (i + 1) (at + n) (total + k)
      measuring_step n k y z =
          record {
            passed = m.passed ++ (piece_at c at r ∷ []);
            going = going_step cs start s ps end m.going c e r q n y;
            sum = omega (arith, m.sum, ap length (texts_more m.passed c at r), length-append (row_texts L m.passed) (text_in c r));
          }

    pub measuring_end : {i at total : ℕ} → Measuring i at total → length cs ≤ i → total ≡ length (row_texts L ps)
    measuring_end m h = m.sum ∙ ap (λ (l : List Cell). length (row_texts L l)) (sym (going_end cs start s ps end m.going h).0)

    -- ---- writing: d is the buffer as it was, out as it is now, and its next unwritten byte is at `next`

    module _ (d : List ℕ) where
      pub record Placing (passed : List Cell) (i at next replaced : ℕ) (out : List ℕ) : Type 0 where
        pub going : Going cs start s ps end i at passed
        pub sum : next ≡ length (row_texts L passed)
        pub counted : replaced ≡ row_replaced L passed
        pub count : length passed ≡ i
        pub texts : writing.Writing (row_texts L ps) d (row_texts L going.ahead) out next

      pub placing_start : start ≤ length s → walk_body cs start s ≡ done ps end → length (row_texts L ps) ≤ length d → Placing [] 0 start 0 0 d
      unfolding row_texts row_replaced going_start
      placing_start h w k = record { going = going_start cs start s ps end h w; sum = refl; counted = refl; count = refl; texts = writing.start (row_texts L ps) d k }

      module _ {passed : List Cell} {i at next replaced : ℕ} {out : List ℕ} (p : Placing passed i at next replaced out) (c : ColumnDescriptor) (e : drop i cs ≡ c ∷ drop (i + 1) cs) (r : List ℕ) (q : r ≡ drop at s) where
        pub placing_there : column_need c r ≤ length r
        placing_there = going_there cs start s ps end p.going c e r q

        abbrev behind : List Cell
        behind = pieces_of (following cs start s ps end p.going c e r q)

        left_is : row_texts L p.going.ahead ≡ text_in c r ++ row_texts L behind
        left_is = ap (row_texts L) (going_ahead cs start s ps end p.going c e r q) ∙ texts_next behind c at r

        -- what is lent of the buffer, `&mut out[next..]`, has room
        pub placing_room : length (text_in c r) ≤ length (take (length out - next) (drop next out))
        placing_room = writing.fits_rest p.texts (text_in c r) (row_texts L behind) left_is refl

        pub placing_within : (k : ℕ) → k ≡ length (text_in c r) → next + k ≤ length d
        placing_within k z =
            omega (arith, writing.as_long p.texts, writing.fits p.texts, ap length left_is, length-append (text_in c r) (row_texts L behind))

        -- ys is what the writer left in what was lent
        pub placing_step : (n k m : ℕ) → n ≡ column_need c r → k ≡ length (text_in c r) → m ≡ replaced_in c r → (ys : List ℕ) → ys ≡ overwritten (text_in c r) (take (length out - next) (drop next out))
            → Placing (passed ++ (piece_at c at r ∷ [])) (i + 1) (at + n) (next + k) (replaced + m) (take next out ++ (ys ++ drop (length out - next) (drop next out)))
        unfolding going_step walk
        placing_step n k m y z f ys w =
            record {
              going = going_step cs start s ps end p.going c e r q n y;
              sum = omega (arith, p.sum, ap length (texts_more passed c at r), length-append (row_texts L passed) (text_in c r));
              counted = omega (arith, p.counted, f, replaced_more passed c at r);
              count = length-append passed (piece_at c at r ∷ []) ∙ ap (λ (j : ℕ). j + 1) p.count;
              texts = writing.wrote_rest p.texts (text_in c r) (row_texts L behind) left_is ys w k z;
            }

      pub placing_end : {passed : List Cell} {i at next replaced : ℕ} {out : List ℕ} → Placing passed i at next replaced out → length cs ≤ i
          → (ps ≡ passed) × (end ≡ at) × (out ≡ overwritten (row_texts L ps) d) × (replaced ≡ row_replaced L ps)
      unfolding row_texts
      placing_end p h =
          let g = going_end cs start s ps end p.going h in
          (g.0, g.2, writing.end p.texts (ap (row_texts L) g.1), p.counted ∙ ap (row_replaced L) (sym g.0))

-- ---- values in their places

filled_set : {A : Type 0} (b : A) (xs : List A) (x : A) → length xs < max_columns → set (filled b xs) (length xs) x ≡ filled b (xs ++ (x ∷ []))
unfolding filled
filled_set {A} b xs x h =
    let m : ℕ = max_columns - suc (length xs) in
    let l = length-append xs (x ∷ []) in
    let p : max_columns - length xs ≡ suc m = omega arith in
    let q : max_columns - length (xs ++ (x ∷ [])) ≡ m = omega arith in
    rw (p, q) (set-append_seam xs b (replicate m b) x ∙ sym (append_snoc xs x (replicate m b)))

-- the values of the pieces passed stand in the first places, and blanks in the others
pub placed_start : (L : Conversions) → replicate max_columns blank_value ≡ filled blank_value (row_values L [] 0)
unfolding filled row_values
placed_start L = refl

pub placed_step : (L : Conversions) (passed : List Cell) (places : List ValuePlace) → places ≡ filled blank_value (row_values L passed 0)
    → (i next : ℕ) → length passed ≡ i → i < max_columns → next ≡ length (row_texts L passed) → (p : Cell) (v : ValuePlace) → v ≡ cell_value L p next
    → set places i v ≡ filled blank_value (row_values L (passed ++ (p ∷ [])) 0)
placed_step L passed places e i next k h n p v q =
    let l : length (row_values L passed 0) ≡ i = values_length L passed 0 ∙ k in
    rw (e, q, values_next L passed p next n, ← l) (filled_set blank_value (row_values L passed 0) (cell_value L p next) (omega arith))
