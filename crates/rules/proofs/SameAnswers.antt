-- Two choices of conversions and two lists of columns between which no answer tells: one law for what the row call does not look at (specs/LooksAt.antt) and for what
-- the host's release changes (specs/Releases.antt). Assumes nothing.
use Prim.Native.Nat.{ℕ, ◌+◌, ◌-◌}
use mathlib.Core.Path.{◌≡◌, refl, ap, ap₂}
use mathlib.Core.Bool.{Bool, true, false, cond, not, ◌&&◌, true≢false, false≢true}
use mathlib.Core.List.{List, [], ◌∷◌}
use lib.ListN.{length, take, drop}
use lib.Dec.{leb, ltb, eqb}
use Rattle.types.specs.declared.ColumnDescriptor.{ColumnDescriptor}
use Rattle.types.specs.declared.Columns.{Columns}
use Rattle.types.specs.Names.{is_dec_float}
use Rattle.types.specs.Places.{max_columns, covered}
use Rattle.refusal.specs.Refusal.{input_limit}
use Rattle.rules.specs.Extent.{extent_of}
use Rattle.rules.specs.Meaning.{Item, Conversions, item_in, type_refers, is_empty_lob, refers_in}
use Rattle.rules.specs.Walk.{Cell, absent, present, column_need, cell_of, Walk, done, short, cons_cell, cell_short, walk, walk_body, skip_of}
use Rattle.rules.specs.Row.{cell_item, cell_value, row_values, row_texts, row_replaced, item_text, Decision, refuse, accept, any_dec_float, walk_decision, body_decision, row_decision, answer_of, text_after, answer_with, text_with}

-- the column c at the conversions L is what d is at M
pub record SameColumn (L M : Conversions) (c d : ColumnDescriptor) : Type 0 where
  pub nullables : c.nullable ≡ d.nullable
  pub dec_floats : is_dec_float c ≡ is_dec_float d
  pub extents : extent_of c ≡ extent_of d
  pub items : (s : List ℕ) → item_in L c s ≡ item_in M d s
  pub refer : (s : List ℕ) → type_refers c.db2_type c s ≡ type_refers d.db2_type d s

module _ (L M : Conversions) where
  -- two lists of such columns, place by place
  abbrev pub AllSame : List ColumnDescriptor → List ColumnDescriptor → Type 0
  AllSame [] [] = Unit {0}
  AllSame [] (d ∷ ds) = ⊥
  AllSame (c ∷ cs) [] = ⊥
  AllSame (c ∷ cs) (d ∷ ds) = SameColumn L M c d × AllSame cs ds

  same_need : (c d : ColumnDescriptor) → SameColumn L M c d → (s : List ℕ) → column_need c s ≡ column_need d s
  unfolding column_need
  same_need c d h s = rw (h.extents, h.nullables)

  same_refers : (c d : ColumnDescriptor) → SameColumn L M c d → (s : List ℕ) → refers_in L c s ≡ refers_in M d s
  unfolding refers_in
  same_refers c d h s = ap₂ (λ (i : Item) (b : Bool). not (is_empty_lob i) && b) (h.items s) (h.refer s)

  -- ---- cells that an answer does not tell apart

  pub record SameCell (p q : Cell) : Type 0 where
    pub item : cell_item L p ≡ cell_item M q
    pub value : (next : ℕ) → cell_value L p next ≡ cell_value M q next

  abbrev SameCells : List Cell → List Cell → Type 0
  SameCells [] [] = Unit {0}
  SameCells [] (q ∷ qs) = ⊥
  SameCells (p ∷ ps) [] = ⊥
  SameCells (p ∷ ps) (q ∷ qs) = SameCell p q × SameCells ps qs

  abbrev SameWalk : Walk → Walk → Type 0
  SameWalk (done ps n) (done qs m) = SameCells ps qs × (n ≡ m)
  SameWalk (done ps n) (short e a) = ⊥
  SameWalk (short e a) (done qs m) = ⊥
  SameWalk (short e a) (short f b) = (e ≡ f) × (a ≡ b)

  same_present : (c d : ColumnDescriptor) → SameColumn L M c d → (at : ℕ) (s : List ℕ) → SameCell (present c at s) (present d at s)
  unfolding cell_item cell_value
  same_present c d h at s = record { item = h.items s; value = λ next. rw (h.items s, same_refers c d h s) }

  same_cell : (c d : ColumnDescriptor) → SameColumn L M c d → (x y : Bool) (at : ℕ) (s : List ℕ) → x ≡ y → SameCell (cell_of x c at s) (cell_of y d at s)
  unfolding cell_of cell_item cell_value
  same_cell c d h true true at [] e = record { item = refl; value = λ next. refl }
  same_cell c d h true true at (b ∷ s) e = go (eqb b 0xFF)
    where
      go : (t : Bool) → SameCell (cond t absent (present c (at + 1) s)) (cond t absent (present d (at + 1) s))
      go true = record { item = refl; value = λ next. refl }
      go false = same_present c d h (at + 1) s
  same_cell c d h false false at s e = same_present c d h at s
  same_cell c d h true false at s e = absurd (true≢false e)
  same_cell c d h false true at s e = absurd (false≢true e)

  same_cons : (p q : Cell) (v w : Walk) → SameCell p q → SameWalk v w → SameWalk (cons_cell p v) (cons_cell q w)
  unfolding cons_cell
  same_cons p q (done ps n) (done qs m) h k = ((h, k.0), k.1)
  same_cons p q (done ps n) (short f b) h k = absurd k
  same_cons p q (short e a) (done qs m) h k = absurd k
  same_cons p q (short e a) (short f b) h k = k

  same_walk : (start : ℕ) (cs ds : List ColumnDescriptor) → AllSame cs ds → (at : ℕ) (s : List ℕ) → SameWalk (walk start cs at s) (walk start ds at s)
  unfolding walk cell_short
  same_walk start [] [] h at s = (tt, refl)
  same_walk start [] (d ∷ ds) h at s = absurd h
  same_walk start (c ∷ cs) [] h at s = absurd h
  same_walk start (c ∷ cs) (d ∷ ds) h at s =
      rw (same_need c d h.0 s, h.0.extents)
      (go (leb (column_need d s) (length s)) (same_walk start cs ds h.1 (at + column_need d s) (drop (column_need d s) s)))
    where
      n : ℕ
      n = column_need d s

      same_short : (x y : Bool) (u : List ℕ) → x ≡ y → SameWalk (cell_short x (extent_of d) (at - start) u) (cell_short y (extent_of d) (at - start) u)
      same_short true true [] e = (refl, refl)
      same_short true true (b ∷ u) e = (refl, refl)
      same_short false false u e = (refl, refl)
      same_short true false u e = absurd (true≢false e)
      same_short false true u e = absurd (false≢true e)

      go : (t : Bool) → SameWalk (walk start cs (at + n) (drop n s)) (walk start ds (at + n) (drop n s))
          → SameWalk
          (cond t (cons_cell (cell_of c.nullable c at (take n s)) (walk start cs (at + n) (drop n s))) (cell_short c.nullable (extent_of d) (at - start) s))
          (cond t (cons_cell (cell_of d.nullable d at (take n s)) (walk start ds (at + n) (drop n s))) (cell_short d.nullable (extent_of d) (at - start) s))
      go true rest = same_cons (cell_of c.nullable c at (take n s)) (cell_of d.nullable d at (take n s)) (walk start cs (at + n) (drop n s)) (walk start ds (at + n) (drop n s)) (same_cell c d h.0 c.nullable d.nullable at (take n s) h.0.nullables) rest
      go false rest = same_short c.nullable d.nullable s h.0.nullables

  -- ---- what an answer is made of

  same_texts : (ps qs : List Cell) → SameCells ps qs → row_texts L ps ≡ row_texts M qs
  unfolding row_texts
  same_texts [] [] h = refl
  same_texts [] (q ∷ qs) h = absurd h
  same_texts (p ∷ ps) [] h = absurd h
  same_texts (p ∷ ps) (q ∷ qs) h = rw (h.0.item, same_texts ps qs h.1)

  same_replaced : (ps qs : List Cell) → SameCells ps qs → row_replaced L ps ≡ row_replaced M qs
  unfolding row_replaced
  same_replaced [] [] h = refl
  same_replaced [] (q ∷ qs) h = absurd h
  same_replaced (p ∷ ps) [] h = absurd h
  same_replaced (p ∷ ps) (q ∷ qs) h = rw (h.0.item, same_replaced ps qs h.1)

  same_values : (ps qs : List Cell) → SameCells ps qs → (next : ℕ) → row_values L ps next ≡ row_values M qs next
  unfolding row_values
  same_values [] [] h next = refl
  same_values [] (q ∷ qs) h next = absurd h
  same_values (p ∷ ps) [] h next = absurd h
  same_values (p ∷ ps) (q ∷ qs) h next = rw (h.0.item, h.0.value next, same_values ps qs h.1 (next + length (item_text (cell_item M q))))

  -- a decision by its answer and the text buffer that it leaves
  abbrev SameDecision : Decision → Decision → List ℕ → Type 0
  SameDecision x y d = (answer_of L x ≡ answer_of M y) × (text_after L x d ≡ text_after M y d)

  same_decision : (v w : Walk) → SameWalk v w → (d : List ℕ) → SameDecision (walk_decision L v d) (walk_decision M w d) d
  unfolding walk_decision answer_of text_after
  same_decision (done ps n) (done qs m) h d = rw (same_texts ps qs h.0, h.1) (go (ltb (length d) (length (row_texts M qs))))
    where
      go : (t : Bool) → SameDecision (cond t (refuse 9 (length (row_texts M qs) ∷ [])) (accept ps m)) (cond t (refuse 9 (length (row_texts M qs) ∷ [])) (accept qs m)) d
      go true = (refl, refl)
      go false = (rw (same_values ps qs h.0 0, same_replaced ps qs h.0), rw (same_texts ps qs h.0))
  same_decision (done ps n) (short f b) h d = absurd h
  same_decision (short e a) (done qs m) h d = absurd h
  same_decision (short e a) (short f b) h d = rw (h.0, h.1) (refl, refl)

  same_dec_floats : (cs ds : List ColumnDescriptor) → AllSame cs ds → any_dec_float cs ≡ any_dec_float ds
  unfolding any_dec_float
  same_dec_floats [] [] h = refl
  same_dec_floats [] (d ∷ ds) h = absurd h
  same_dec_floats (c ∷ cs) [] h = absurd h
  same_dec_floats (c ∷ cs) (d ∷ ds) h = rw (h.0.dec_floats, same_dec_floats cs ds h.1)

  pub same_answers : (a b : Columns) → a.count ≡ b.count → AllSame (covered a) (covered b)
      → (s d : List ℕ) → (answer_with L a s d ≡ answer_with M b s d) × (text_with L a s d ≡ text_with M b s d)
  unfolding row_decision body_decision walk_body answer_of text_after
  same_answers a b e h s d =
      rw (same_dec_floats (covered a) (covered b) h, ap (ltb max_columns) e) (go (ltb max_columns b.count) (ltb input_limit (length s)) (any_dec_float (covered b)))
    where
      start : ℕ
      start = skip_of s

      body : Conversions → Columns → Decision
      body N l = walk_decision N (walk start (covered l) start (drop start s)) d

      go : (x y z : Bool)
          → SameDecision
          (cond x (refuse 3 []) (cond y (refuse 4 []) (cond z (refuse 5 []) (body L a))))
          (cond x (refuse 3 []) (cond y (refuse 4 []) (cond z (refuse 5 []) (body M b)))) d
      go true y z = (refl, refl)
      go false true z = (refl, refl)
      go false false true = (refl, refl)
      go false false false = same_decision (walk start (covered a) start (drop start s)) (walk start (covered b) start (drop start s)) (same_walk start (covered a) (covered b) h start (drop start s)) d
