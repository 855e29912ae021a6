-- Laws of pieces that the code rests on: what an indicator says, and what a column then takes. Assumes nothing.
use Prim.Native.Nat.{ℕ, ◌+◌, ◌-◌, ◌≤◌, ◌<◌}
use mathlib.Core.Path.{◌≡◌, refl, sym, ap, ◌∙◌}
use mathlib.Core.Bool.{Bool, true, false, cond, not, true≢false}
use mathlib.Core.List.{List, [], ◌∷◌}
use native.Mathlib.Numerals.{one-add}
use native.Mathlib.Omega.{arith}
use lib.ListN.{length, get_or, take, drop}
use borrow.Author.Tests.{eq-eqb, ne_eqb, eqb-true, eqb-false}
use Rattle.types.specs.declared.ColumnDescriptor.{ColumnDescriptor}
use Rattle.rules.specs.Extent.{need, extent_of}
use Rattle.rules.specs.Walk.{nullable_need, cell_need, column_need, Cell, absent, present, cell_of, short, cell_short}
use Rattle.rules.specs.Row.{item_text, item_replaced, cell_item}
use Rattle.rules.specs.Conversions.{conversions_of}
use Rattle.piece.specs.Piece.{is_null, value_in, value_text, value_replaced, cell_in, cell_text, cell_replaced}

-- a test of what is not so
pub said : (b t : Bool) → not b ≡ t → b ≡ not t
said true t e = ap not e
said false t e = ap not e

-- ---- no indicator

module _ (c : ColumnDescriptor) (n : not c.nullable ≡ true) (s : List ℕ) where
  plain : c.nullable ≡ false
  plain = said c.nullable true n

  plain_need : column_need c s ≡ need (extent_of c) s
  unfolding column_need
  plain_need = ap (λ (b : Bool). cell_need b (extent_of c) s) plain

  plain_piece : (at : ℕ) → cell_in c at s ≡ value_in c at s
  unfolding cell_of
  plain_piece at = ap (λ (b : Bool). cell_of b c at (take (column_need c s) s)) plain ∙ ap (λ (k : ℕ). present c at (take k s)) plain_need

  pub plain_short : (offset : ℕ) → cell_short c.nullable (extent_of c) offset s ≡ short (need (extent_of c) s) (length s)
  unfolding cell_short
  plain_short offset = ap (λ (b : Bool). cell_short b (extent_of c) offset s) plain

-- ---- an indicator

module _ (c : ColumnDescriptor) (n : not c.nullable ≡ false) where
  marked : c.nullable ≡ true
  marked = said c.nullable false n

  marked_need : (s : List ℕ) → column_need c s ≡ nullable_need (extent_of c) s
  unfolding column_need
  marked_need s = ap (λ (b : Bool). cell_need b (extent_of c) s) marked

  marked_piece : (at k : ℕ) (s : List ℕ) → column_need c s ≡ k → cell_in c at s ≡ cell_of true c at (take k s)
  marked_piece at k s e = ap (λ (b : Bool). cell_of b c at (take (column_need c s) s)) marked ∙ ap (λ (m : ℕ). cell_of true c at (take m s)) e

  marked_short : (offset : ℕ) (s : List ℕ) → cell_short c.nullable (extent_of c) offset s ≡ cell_short true (extent_of c) offset s
  marked_short offset s = ap (λ (b : Bool). cell_short b (extent_of c) offset s) marked

  none_need : (s : List ℕ) → length s ≡ 0 → column_need c s ≡ 1
  unfolding nullable_need
  none_need [] h = marked_need []
  none_need (b ∷ s) h = absurd (omega (arith, h))

  pub none_short : (offset : ℕ) (s : List ℕ) → length s ≡ 0 → cell_short c.nullable (extent_of c) offset s ≡ short (offset + 1) offset
  unfolding cell_short
  none_short offset [] h = marked_short offset []
  none_short offset (b ∷ s) h = absurd (omega (arith, h))

  pub some_short : (offset : ℕ) (s : List ℕ) → 0 < length s
      → cell_short c.nullable (extent_of c) offset s ≡ short (need (extent_of c) (drop 1 s)) (length s - 1)
  unfolding cell_short
  some_short offset [] h = absurd (omega (arith, h))
  some_short offset (b ∷ s) h = marked_short offset (b ∷ s) ∙ ap (short (need (extent_of c) s)) (omega arith)

  -- FF is Null
  module _ (s : List ℕ) (e : get_or s 0 0 ≡ 0xFF) where
    null_need : column_need c s ≡ 1
    unfolding nullable_need
    null_need = marked_need s ∙ go s e
      where
        go : (t : List ℕ) → get_or t 0 0 ≡ 0xFF → nullable_need (extent_of c) t ≡ 1
        go [] f = refl
        go (b ∷ t) f = rw (eq-eqb b 0xFF f) refl

    null_piece : (at : ℕ) → cell_in c at s ≡ absent
    unfolding cell_of
    null_piece at = marked_piece at 1 s null_need ∙ go s e
      where
        go : (t : List ℕ) → get_or t 0 0 ≡ 0xFF → cell_of true c at (take 1 t) ≡ absent
        go [] f = refl
        go (b ∷ t) f = rw (eq-eqb b 0xFF f) refl

  -- any other means a value
  module _ (s : List ℕ) (h : 0 < length s) (e : get_or s 0 0 ≡ 0xFF → ⊥) where
    value_need : column_need c s ≡ 1 + need (extent_of c) (drop 1 s)
    unfolding nullable_need
    value_need = marked_need s ∙ go s h e
      where
        go : (t : List ℕ) → 0 < length t → (get_or t 0 0 ≡ 0xFF → ⊥) → nullable_need (extent_of c) t ≡ 1 + need (extent_of c) (drop 1 t)
        go [] k f = absurd (omega (arith, k))
        go (b ∷ t) k f = rw (ne_eqb b 0xFF f) refl

    value_piece : (at : ℕ) → cell_in c at s ≡ value_in c (at + 1) (drop 1 s)
    unfolding cell_of
    value_piece at = marked_piece at (1 + need (extent_of c) (drop 1 s)) s value_need ∙ go s h e
      where
        go : (t : List ℕ) → 0 < length t → (get_or t 0 0 ≡ 0xFF → ⊥) → cell_of true c at (take (1 + need (extent_of c) (drop 1 t)) t) ≡ value_in c (at + 1) (drop 1 t)
        go [] k f = absurd (omega (arith, k))
        go (b ∷ t) k f = rw (one-add, ne_eqb b 0xFF f) refl

-- ---- both together: what stands before a value, and whether there is one

abbrev pub lead_of : ColumnDescriptor → ℕ
lead_of c = cond c.nullable 1 0

module _ (c : ColumnDescriptor) (s : List ℕ) where
  module _ (h : is_null c.nullable s ≡ true) where
    pub null_takes : column_need c s ≡ 1
    null_takes = go c.nullable refl s refl h
      where
        go : (b : Bool) → c.nullable ≡ b → (t : List ℕ) → s ≡ t → is_null b t ≡ true → column_need c s ≡ 1
        go true e [] q k = none_need c (ap not e) s (ap length q)
        go true e (x ∷ t) q k = null_need c (ap not e) s (ap (λ (l : List ℕ). get_or l 0 0) q ∙ eqb-true x 0xFF k)
        go false e t q k = absurd (true≢false (sym k))

    pub null_absent : 0 < length s → (at : ℕ) → cell_in c at s ≡ absent
    null_absent m at = go c.nullable refl s refl h
      where
        go : (b : Bool) → c.nullable ≡ b → (t : List ℕ) → s ≡ t → is_null b t ≡ true → cell_in c at s ≡ absent
        go true e [] q k = absurd (omega (arith, m, ap length q))
        go true e (x ∷ t) q k = null_piece c (ap not e) s (ap (λ (l : List ℕ). get_or l 0 0) q ∙ eqb-true x 0xFF k) at
        go false e t q k = absurd (true≢false (sym k))

    pub absent_text : (release : ℕ) → 0 < length s → cell_text release c s ≡ []
    unfolding cell_item item_text
    absent_text release m = ap (λ (p : Cell). item_text (cell_item (conversions_of release) p)) (null_absent m 0)

    pub absent_replaced : (release : ℕ) → 0 < length s → cell_replaced release c s ≡ 0
    unfolding cell_item item_replaced
    absent_replaced release m = ap (λ (p : Cell). item_replaced (cell_item (conversions_of release) p)) (null_absent m 0)

  module _ (h : is_null c.nullable s ≡ false) where
    pub lead_within : lead_of c ≤ length s
    lead_within = go c.nullable s h
      where
        go : (b : Bool) (t : List ℕ) → is_null b t ≡ false → cond b 1 0 ≤ length t
        go true [] k = absurd (true≢false k)
        go true (x ∷ t) k = omega arith
        go false t k = omega arith

    -- an indicator that is there, and not FF
    some : (t : List ℕ) → is_null true t ≡ false → (0 < length t) × (get_or t 0 0 ≡ 0xFF → ⊥)
    some [] k = absurd (true≢false k)
    some (x ∷ t) k = (omega arith, eqb-false x 0xFF k)

    pub value_takes : column_need c s ≡ lead_of c + need (extent_of c) (drop (lead_of c) s)
    value_takes = go c.nullable refl h
      where
        go : (b : Bool) → c.nullable ≡ b → is_null b s ≡ false → column_need c s ≡ cond b 1 0 + need (extent_of c) (drop (cond b 1 0) s)
        go true e k = value_need c (ap not e) s (some s k).0 (some s k).1
        go false e k = omega (arith, plain_need c (ap not e) s)

    pub value_stands : (at : ℕ) → cell_in c at s ≡ value_in c (at + lead_of c) (drop (lead_of c) s)
    value_stands at = go c.nullable refl h
      where
        go : (b : Bool) → c.nullable ≡ b → is_null b s ≡ false → cell_in c at s ≡ value_in c (at + cond b 1 0) (drop (cond b 1 0) s)
        go true e k = value_piece c (ap not e) s (some s k).0 (some s k).1 at
        go false e k = let z : at ≡ at + 0 = omega arith in plain_piece c (ap not e) s at ∙ ap (λ (n : ℕ). value_in c n s) z

    pub value_reads : (release : ℕ) → cell_text release c s ≡ value_text release c (drop (lead_of c) s)
    unfolding cell_item
    value_reads release = ap (λ (p : Cell). item_text (cell_item (conversions_of release) p)) (value_stands 0)

    pub value_counts : (release : ℕ) → cell_replaced release c s ≡ value_replaced release c (drop (lead_of c) s)
    unfolding cell_item
    value_counts release = ap (λ (p : Cell). item_replaced (cell_item (conversions_of release) p)) (value_stands 0)
