-- Table 3-7 against Table 3-6: the sequences of a row are the encodings of a range of scalar values, which are Table 3-7's first column, and the rows
-- together have every scalar value. What differs from row to row is arithmetic on its numbers; all else is proved for any row. Assumes nothing.
use Prim.Native.Nat.{ℕ, suc, ◌+◌, ◌*◌, ◌-◌, ◌/◌, ◌%◌, ◌≤◌, ◌<◌}
use mathlib.Core.Bool.{Bool, true, false}
use mathlib.Core.List.{List, [], ◌∷◌, map}
use mathlib.Core.Logic.{◌⊎◌, inl, inr, ⊎_elim}
use mathlib.Core.Option.{some}
use mathlib.Core.Path.{◌≡◌, refl, sym, ap, ap₂, subst, ◌∙◌}
use native.Mathlib.Omega.{arith}
use borrow.Author.Tests.{leb-true, leb-false}
use lib.Dec.{leb}
use Rattle.unicode_standard.specs.Unicode.{utf8, Range, Sequence, range, sequence, trail, within, table_3_7, sequence_in, scalar_from, is_scalar_value}
use Rattle.unicode_standard.proofs.Ranges.{Scalar, scalar_ranges, is_scalar_lem, inside, is_inside, is_above}
use Rattle.unicode_standard.proofs.ScalarBytes.{utf8_one, utf8_two, utf8_three, utf8_four}

-- ---- the bytes after the first

-- as many bytes as ranges, each in its range
abbrev pub Fits : List Range → List ℕ → Type 0
Fits [] [] = Unit {0}
Fits [] (b ∷ bs) = ⊥
Fits (r ∷ rs) [] = ⊥
Fits (r ∷ rs) (b ∷ bs) = ((r.low ≤ b) × (b ≤ r.high)) × Fits rs bs

-- ranges of trail bytes, none of them empty
abbrev pub Trails : List Range → Type 0
Trails [] = Unit {0}
Trails (r ∷ rs) = ((0x80 ≤ r.low) × (r.low ≤ r.high) × (r.high ≤ 0xBF)) × Trails rs

abbrev pub lows : List Range → List ℕ
lows rs = map (λ r. r.low) rs

abbrev pub highs : List Range → List ℕ
highs rs = map (λ r. r.high) rs

-- values lie between those of the lowest and the highest bytes
between : (rs : List Range) (bs : List ℕ) (a v c : ℕ) → Trails rs → Fits rs bs → a ≤ v → v ≤ c → (scalar_from a (lows rs) ≤ scalar_from v bs) × (scalar_from v bs ≤ scalar_from c (highs rs))
unfolding scalar_from
between [] [] a v c t f h k = (h, k)
between [] (b ∷ bs) a v c t f h k = absurd f
between (r ∷ rs) [] a v c t f h k = absurd f
between (r ∷ rs) (b ∷ bs) a v c t f h k =
    between rs bs (a * 64 + (r.low - 0x80)) (v * 64 + (b - 0x80)) (c * 64 + (r.high - 0x80)) t.1 f.1 (omega (arith, t.0, f.0)) (omega (arith, t.0, f.0))

-- and two sequences of one value are the same
abbrev Same : ℕ → List ℕ → ℕ → List ℕ → Type 0
Same v bs w cs = (v ≡ w) × (bs ≡ cs)

alike : (rs : List Range) (bs cs : List ℕ) (v w : ℕ) → Trails rs → Fits rs bs → Fits rs cs → scalar_from v bs ≡ scalar_from w cs → Same v bs w cs
unfolding scalar_from
alike [] [] [] v w t f g e = (e, refl)
alike [] [] (c ∷ cs) v w t f g e = absurd g
alike [] (b ∷ bs) cs v w t f g e = absurd f
alike (r ∷ rs) [] cs v w t f g e = absurd f
alike (r ∷ rs) (b ∷ bs) [] v w t f g e = absurd g
alike (r ∷ rs) (b ∷ bs) (c ∷ cs) v w t f g e =
    let i : Same (v * 64 + (b - 0x80)) bs (w * 64 + (c - 0x80)) cs = alike rs bs cs (v * 64 + (b - 0x80)) (w * 64 + (c - 0x80)) t.1 f.1 g.1 e in
    let x : v ≡ w = omega (arith, i.0, t.0, f.0, g.0) in
    let y : b ≡ c = omega (arith, i.0, t.0, f.0, g.0) in
    (x, ap₂ (λ (z : ℕ) (zs : List ℕ). z ∷ zs) y i.1)

-- ---- a row

-- the least and the greatest value of a row's sequences: Table 3-7's first column
abbrev pub least : Sequence → ℕ
least r = scalar_from (r.first.low - r.base) (lows r.trails)

abbrev pub greatest : Sequence → ℕ
greatest r = scalar_from (r.first.high - r.base) (highs r.trails)

-- the bytes of v, by Table 3-6, are a sequence of the row, of the value v
pub record Encoded (r : Sequence) (v : ℕ) : Type 0 where
  pub lead : ℕ
  pub rest : List ℕ
  pub bytes : utf8 v ≡ lead ∷ rest
  pub from : r.first.low ≤ lead
  pub to : lead ≤ r.first.high
  pub fits : Fits r.trails rest
  pub same : scalar_from (lead - r.base) rest ≡ v

-- a row's arithmetic, and that it encodes each value from its least to its greatest
pub record Agrees (r : Sequence) : Type 0 where
  pub bits : r.base ≤ r.first.low
  pub trails : Trails r.trails
  pub scalars : (v : ℕ) → least r ≤ v → v ≤ greatest r → Scalar v
  pub encoded : (v : ℕ) → least r ≤ v → v ≤ greatest r → Encoded r v

-- a sequence of the row: its value is a scalar value, whose bytes it is
pub sound : (r : Sequence) → Agrees r → (b : ℕ) (bs : List ℕ) → r.first.low ≤ b → b ≤ r.first.high → Fits r.trails bs
    → (is_scalar_value (scalar_from (b - r.base) bs) ≡ true) × (utf8 (scalar_from (b - r.base) bs) ≡ b ∷ bs)
sound r a b bs h k f =
    let v : ℕ = scalar_from (b - r.base) bs in
    let m : (least r ≤ v) × (v ≤ greatest r) = between r.trails bs (r.first.low - r.base) (b - r.base) (r.first.high - r.base) a.trails f (omega arith) (omega arith) in
    let e : Encoded r v = a.encoded v m.0 m.1 in
    let s : Same (e.lead - r.base) e.rest (b - r.base) bs = alike r.trails e.rest bs (e.lead - r.base) (b - r.base) a.trails e.fits f e.same in
    let x : e.lead ≡ b = omega (arith, s.0, e.from, a.bits) in
    (is_scalar_lem v (a.scalars v m.0 m.1), e.bytes ∙ ap₂ (λ (z : ℕ) (zs : List ℕ). z ∷ zs) x s.1)

-- ---- rows of each length: what is left is arithmetic on the row's numbers

-- a trail byte gives the six low bits
six : (v : ℕ) (ts : List ℕ) → scalar_from (v / 64) ((0x80 + v % 64) ∷ ts) ≡ scalar_from v ts
unfolding scalar_from
six v ts = ap (λ (x : ℕ). scalar_from x ts) (omega arith)

by_64 : (v : ℕ) → v / 4096 ≡ v / 64 / 64
by_64 v = omega arith

six_two : (v b : ℕ) → scalar_from (b + v / 4096 - b) ((0x80 + v / 64 % 64) ∷ (0x80 + v % 64) ∷ []) ≡ v
unfolding scalar_from
six_two v b =
    let e : b + v / 4096 - b ≡ v / 64 / 64 = omega (arith, by_64 v) in
    ap (λ (x : ℕ). scalar_from x ((0x80 + v / 64 % 64) ∷ (0x80 + v % 64) ∷ [])) e ∙ six (v / 64) ((0x80 + v % 64) ∷ []) ∙ six v []

six_three : (v b : ℕ) → scalar_from (b + v / 262144 - b) ((0x80 + v / 4096 % 64) ∷ (0x80 + v / 64 % 64) ∷ (0x80 + v % 64) ∷ []) ≡ v
unfolding scalar_from
six_three v b =
    let e : b + v / 262144 - b ≡ v / 4096 / 64 = omega arith in
    let f : 0 + v / 4096 - 0 ≡ v / 4096 = omega arith in
    ap (λ (x : ℕ). scalar_from x ((0x80 + v / 4096 % 64) ∷ (0x80 + v / 64 % 64) ∷ (0x80 + v % 64) ∷ [])) e
    ∙ six (v / 4096) ((0x80 + v / 64 % 64) ∷ (0x80 + v % 64) ∷ [])
    ∙ ap (λ (x : ℕ). scalar_from x ((0x80 + v / 64 % 64) ∷ (0x80 + v % 64) ∷ [])) (sym f)
    ∙ six_two v 0

one_byte : (hi : ℕ) → ((v : ℕ) → v ≤ hi → v < 0x80) → (v : ℕ) → v ≤ hi - 0 → Encoded (sequence (range 0 hi) 0 []) v
unfolding scalar_from
one_byte hi h v k = record { lead = v; rest = []; bytes = utf8_one v (h v (omega arith)); from = omega arith; to = omega arith; fits = tt; same = omega arith }

module _ (lo hi : ℕ) where
  two_bytes : let r : Sequence = sequence (range lo hi) 0xC0 (trail ∷ []) in
      ((v : ℕ) → least r ≤ v → v ≤ greatest r → (0x80 ≤ v) × (v < 0x800) × (lo ≤ 0xC0 + v / 64) × (0xC0 + v / 64 ≤ hi))
      → (v : ℕ) → least r ≤ v → v ≤ greatest r → Encoded r v
  unfolding scalar_from
  two_bytes h v a b = record {
    lead = 0xC0 + v / 64;
    rest = (0x80 + v % 64) ∷ [];
    bytes = utf8_two v (h v a b).0 (h v a b).1;
    from = (h v a b).2;
    to = (h v a b).3;
    fits = omega arith;
    same = omega arith;
  }

  module _ (t1 t2 : ℕ) where
    three_bytes : let r : Sequence = sequence (range lo hi) 0xE0 (range t1 t2 ∷ trail ∷ []) in
        ((v : ℕ) → least r ≤ v → v ≤ greatest r
        → (0x800 ≤ v) × (v < 0x10000) × (lo ≤ 0xE0 + v / 4096) × (0xE0 + v / 4096 ≤ hi) × (t1 ≤ 0x80 + v / 64 % 64) × (0x80 + v / 64 % 64 ≤ t2))
        → (v : ℕ) → least r ≤ v → v ≤ greatest r → Encoded r v
    unfolding scalar_from
    three_bytes h v a b = record {
      lead = 0xE0 + v / 4096;
      rest = (0x80 + v / 64 % 64) ∷ (0x80 + v % 64) ∷ [];
      bytes = utf8_three v (h v a b).0 (h v a b).1;
      from = (h v a b).2;
      to = (h v a b).3;
      fits = (((h v a b).4, (h v a b).5), omega arith);
      same = six_two v 0xE0;
    }

    four_bytes : let r : Sequence = sequence (range lo hi) 0xF0 (range t1 t2 ∷ trail ∷ trail ∷ []) in
        ((v : ℕ) → least r ≤ v → v ≤ greatest r
        → (0x10000 ≤ v) × (lo ≤ 0xF0 + v / 262144) × (0xF0 + v / 262144 ≤ hi) × (t1 ≤ 0x80 + v / 4096 % 64) × (0x80 + v / 4096 % 64 ≤ t2))
        → (v : ℕ) → least r ≤ v → v ≤ greatest r → Encoded r v
    unfolding scalar_from
    four_bytes h v a b = record {
      lead = 0xF0 + v / 262144;
      rest = (0x80 + v / 4096 % 64) ∷ (0x80 + v / 64 % 64) ∷ (0x80 + v % 64) ∷ [];
      bytes = utf8_four v (h v a b).0;
      from = (h v a b).1;
      to = (h v a b).2;
      fits = (((h v a b).3, (h v a b).4), omega arith);
      same = six_three v 0xF0;
    }

-- ---- Table 3-7

agrees_one : (hi : ℕ) → ((v : ℕ) → v ≤ hi → v < 0x80) → Agrees (sequence (range 0 hi) 0 [])
unfolding scalar_from
agrees_one hi h = record {
  bits = omega arith;
  trails = tt;
  scalars = λ v a b. let k : v < 0x80 = h v (omega arith) in inl (omega arith);
  encoded = λ v a b. one_byte hi h v b;
}

agrees : (r : Sequence) → r.base ≤ r.first.low → Trails r.trails → (greatest r ≤ 0xD7FF) ⊎ ((0xE000 ≤ least r) × (greatest r ≤ 0x10FFFF))
    → ((v : ℕ) → least r ≤ v → v ≤ greatest r → Encoded r v) → Agrees r
agrees r h t (inl k) e = record { bits = h; trails = t; scalars = λ v a b. inl (omega arith); encoded = e }
agrees r h t (inr k) e = record { bits = h; trails = t; scalars = λ v a b. inr (omega arith, omega arith); encoded = e }

abbrev AllAgree : List Sequence → Type 0
AllAgree [] = Unit {0}
AllAgree (r ∷ rs) = Agrees r × AllAgree rs

all_agree : AllAgree table_3_7
unfolding scalar_from
all_agree = (
  agrees_one _ (omega arith),
  (
    agrees _ (omega arith) (omega arith) (inl (omega arith)) (two_bytes _ _ (omega arith)),
    (
      agrees _ (omega arith) (omega arith) (inl (omega arith)) (three_bytes _ _ _ _ (omega arith)),
      (
        agrees _ (omega arith) (omega arith) (inl (omega arith)) (three_bytes _ _ _ _ (omega arith)),
        (
          agrees _ (omega arith) (omega arith) (inl (omega arith)) (three_bytes _ _ _ _ (omega arith)),
          (
            agrees _ (omega arith) (omega arith) (inr (omega arith)) (three_bytes _ _ _ _ (omega arith)),
            (
              agrees _ (omega arith) (omega arith) (inr (omega arith)) (four_bytes _ _ _ _ (omega arith)),
              (
                agrees _ (omega arith) (omega arith) (inr (omega arith)) (four_bytes _ _ _ _ (omega arith)),
                (agrees _ (omega arith) (omega arith) (inr (omega arith)) (four_bytes _ _ _ _ (omega arith)), tt),
              ),
            ),
          ),
        ),
      ),
    ),
  ),
)

-- from p on, the rows' values leave out surrogates only
abbrev Covers : ℕ → List Sequence → Type 0
Covers p [] = 0x10FFFF < p
Covers p (r ∷ rs) = ((v : ℕ) → p ≤ v → v < least r → (0xD800 ≤ v) × (v ≤ 0xDFFF)) × Covers (suc (greatest r)) rs

covers : Covers 0 table_3_7
unfolding scalar_from
covers = omega arith

-- the rows' first bytes ascend, from p on
abbrev Ascends : ℕ → List Sequence → Type 0
Ascends p [] = Unit {0}
Ascends p (r ∷ rs) = (p ≤ r.first.low) × (r.first.low ≤ r.first.high) × Ascends (suc r.first.high) rs

ascends : Ascends 0 table_3_7
ascends = omega arith

-- ---- from a scalar value to its row, and from a first byte to its row

-- the row of v, found by the first byte of its encoding, which is at least p
pub record Found (rs : List Sequence) (p v : ℕ) : Type 0 where
  pub at : Sequence
  pub code : Encoded at v
  pub here : sequence_in rs code.lead ≡ some at
  pub above : p ≤ code.lead

find : (rs : List Sequence) (p q v : ℕ) → AllAgree rs → Ascends p rs → Covers q rs → q ≤ v → Scalar v → Found rs p v
unfolding sequence_in
find [] p q v a o c h s = absurd (⊎_elim (λ k. omega arith) (λ k. omega arith) s)
find (r ∷ rs) p q v a o c h s = go (leb (least r) v) refl (leb v (greatest r)) refl (λ k. find rs (suc r.first.high) (suc (greatest r)) v a.1 o.2 c.1 k s)
  where
    go : (x : Bool) → leb (least r) v ≡ x → (y : Bool) → leb v (greatest r) ≡ y → (suc (greatest r) ≤ v → Found rs (suc r.first.high) v) → Found (r ∷ rs) p v
    go true e true d rec =
        let w : Encoded r v = a.0.encoded v (leb-true (least r) v e) (leb-true v (greatest r) d) in
        record { at = r; code = w; here = rw (is_inside w.lead r.first w.from w.to); above = omega (arith, w.from, o.0) }
    go true e false d rec =
        let f : Found rs (suc r.first.high) v = rec (leb-false v (greatest r) d) in
        record { at = f.at; code = f.code; here = rw (is_above f.code.lead r.first f.above) f.here; above = omega (arith, f.above, o.0, o.1) }
    go false e y d rec =
        let k : (0xD800 ≤ v) × (v ≤ 0xDFFF) = c.0 v h (leb-false (least r) v e) in
        absurd (⊎_elim (λ m. omega arith) (λ m. omega arith) s)

-- each scalar value's bytes are a sequence of the row that they begin
pub find_scalar : (v : ℕ) → is_scalar_value v ≡ true → Found table_3_7 0 v
find_scalar v h = find table_3_7 0 0 v all_agree ascends covers (omega arith) (scalar_ranges v h)

-- the row that b begins agrees, and has b in its first range
pub record Begun (r : Sequence) (b : ℕ) : Type 0 where
  pub agrees_there : Agrees r
  pub from : r.first.low ≤ b
  pub to : b ≤ r.first.high

begun : (rs : List Sequence) → AllAgree rs → (b : ℕ) (r : Sequence) → sequence_in rs b ≡ some r → Begun r b
unfolding sequence_in
begun [] a b r e = let z : ◌≡◌ {A = ℕ} 0 1 = cc in absurd (omega arith)
begun (q ∷ rs) a b r e = go (within b q.first) refl (begun rs a.1 b r)
  where
    go : (t : Bool) → within b q.first ≡ t → (sequence_in rs b ≡ some r → Begun r b) → Begun r b
    go true k rec =
        let x : some q ≡ some r = rw k at e in
        let y : q ≡ r = cc in
        let i : (q.first.low ≤ b) × (b ≤ q.first.high) = inside b q.first k in
        subst (λ (w : Sequence). Begun w b) y (record { agrees_there = a.0; from = i.0; to = i.1 })
    go false k rec = rec (rw k at e)

pub begun_row : (b : ℕ) (r : Sequence) → sequence_in table_3_7 b ≡ some r → Begun r b
begun_row b r e = begun table_3_7 all_agree b r e
