-- The first piece of UTF-8 bytes: a scalar value's bytes are read as that value, what is read as a scalar value is its bytes, and what is malformed is
-- the longest beginning of a sequence of Table 3-7. Assumes nothing.
use Prim.Native.Nat.{ℕ, zero, suc, ◌-◌, ◌≤◌}
use mathlib.Core.Bool.{Bool, true, false, cond}
use mathlib.Core.List.{List, [], ◌∷◌, ◌++◌, append-nil}
use mathlib.Core.Logic.{◌⊎◌, inl, inr}
use mathlib.Core.Option.{Option, none, some}
use mathlib.Core.Path.{◌≡◌, refl, ap}
use native.Mathlib.Omega.{arith}
use borrow.Author.Tests.{eqb-true, eq-eqb}
use lib.Dec.{eqb}
use lib.ListN.{length, take, drop, drop_of_length-le}
use lib.Seq.{take_at}
use Rattle.unicode_standard.specs.Unicode.{scalar, utf8, Range, Sequence, within, is_scalar_value, table_3_7, sequence_in, fit, scalar_from, first_by, first_of}
use Rattle.unicode_standard.proofs.Reading.{never_scalar}
use Rattle.unicode_standard.proofs.Ranges.{inside, is_inside}
use Rattle.unicode_standard.proofs.Forms.{Leads}
use Rattle.unicode_standard.proofs.Rows.{Fits, Trails, lows, Encoded, sound, Found, find_scalar, Begun, begun_row}

-- ---- the bytes that fit a row

fits_length : (rs : List Range) (bs : List ℕ) → Fits rs bs → length bs ≡ length rs
fits_length [] [] f = refl
fits_length [] (b ∷ bs) f = absurd f
fits_length (r ∷ rs) [] f = absurd f
fits_length (r ∷ rs) (b ∷ bs) f = ap suc (fits_length rs bs f.1)

fit_all : (rs : List Range) (bs rest : List ℕ) → Fits rs bs → fit rs (bs ++ rest) ≡ length rs
unfolding fit
fit_all [] [] rest f = refl
fit_all [] (b ∷ bs) rest f = absurd f
fit_all (r ∷ rs) [] rest f = absurd f
fit_all (r ∷ rs) (b ∷ bs) rest f = rw (is_inside b r f.0.0 f.0.1) (ap suc (fit_all rs bs rest f.1))

pub fit_short : (rs : List Range) (bs : List ℕ) → fit rs bs ≤ length bs
unfolding fit
fit_short [] bs = omega arith
fit_short (r ∷ rs) [] = omega arith
fit_short (r ∷ rs) (b ∷ bs) = go (within b r) (fit_short rs bs)
  where
    go : (t : Bool) → fit rs bs ≤ length bs → cond t (suc (fit rs bs)) zero ≤ suc (length bs)
    go true h = omega arith
    go false h = omega arith

lowest : (rs : List Range) → Trails rs → Fits rs (lows rs)
lowest [] t = tt
lowest (r ∷ rs) t = (omega (arith, t.0), lowest rs t.1)

-- what fits, filled up with the lowest bytes of the ranges that are left
fit_filled : (rs : List Range) (bs : List ℕ) → Trails rs → Fits rs (take (fit rs bs) bs ++ lows (drop (fit rs bs) rs))
unfolding fit
fit_filled [] bs t = tt
fit_filled (r ∷ rs) [] t = lowest (r ∷ rs) t
fit_filled (r ∷ rs) (b ∷ bs) t = go (within b r) refl (fit_filled rs bs t.1)
  where
    go : (x : Bool) → within b r ≡ x → Fits rs (take (fit rs bs) bs ++ lows (drop (fit rs bs) rs))
        → Fits (r ∷ rs) (take (cond x (suc (fit rs bs)) zero) (b ∷ bs) ++ lows (drop (cond x (suc (fit rs bs)) zero) (r ∷ rs)))
    go true e f = (inside b r e, f)
    go false e f = lowest (r ∷ rs) t

-- the first k bytes fit, if they are the first k of some that fit
fit_least : (rs : List Range) (k : ℕ) (bs rest : List ℕ) → k ≤ length bs → Fits rs (take k bs ++ rest) → k ≤ fit rs bs
unfolding fit
fit_least rs zero bs rest h f = omega arith
fit_least [] (suc k) [] rest h f = omega arith
fit_least [] (suc k) (b ∷ bs) rest h f = absurd f
fit_least (r ∷ rs) (suc k) [] rest h f = omega arith
fit_least (r ∷ rs) (suc k) (b ∷ bs) rest h f =
    let i : k ≤ fit rs bs = fit_least rs k bs rest (omega arith) f.1 in
    rw (is_inside b r f.0.0 f.0.1) (omega arith)

fits_of : (rs : List Range) (bs : List ℕ) → Trails rs → fit rs bs ≡ length rs → Fits rs (take (fit rs bs) bs)
fits_of rs bs t e =
    let f : Fits rs (take (fit rs bs) bs ++ lows (drop (fit rs bs) rs)) = fit_filled rs bs t in
    let d : drop (fit rs bs) rs ≡ [] = drop_of_length-le rs {i = fit rs bs} (omega arith) in
    rw append-nil at (rw d at f)

-- ---- the first piece

-- a sequence of the row r
filled : (r : Sequence) (b : ℕ) (bs rest : List ℕ) → Fits r.trails bs → first_by (some r) b (bs ++ rest) ≡ record { piece = scalar (scalar_from (b - r.base) bs); more = length bs }
unfolding first_by
filled r b bs rest f =
    let n : fit r.trails (bs ++ rest) ≡ length r.trails = fit_all r.trails bs rest f in
    let l : length bs ≡ length r.trails = fits_length r.trails bs f in
    rw (n, eq-eqb (length r.trails) (length r.trails) refl, ← l, take_at bs rest (length bs) refl)

-- a scalar value's bytes, and then anything
pub leads : (v : ℕ) → is_scalar_value v ≡ true → Leads utf8 first_of v
unfolding first_of
leads v h =
    let f : Found table_3_7 0 v = find_scalar v h in
    let e : Encoded f.at v = f.code in
    record {
      unit = e.lead;
      others = e.rest;
      code = e.bytes;
      read = λ rest. rw (f.here, filled f.at e.lead e.rest rest e.fits, e.same);
    }

-- what is read as a scalar value
abbrev Read : Option Sequence → ℕ → List ℕ → Type 0
Read o b bs = (v : ℕ) → (first_by o b bs).piece ≡ scalar v → (is_scalar_value v ≡ true) × (utf8 v ≡ b ∷ take (first_by o b bs).more bs)

read_row : (r : Sequence) (b : ℕ) (bs : List ℕ) → Begun r b → Read (some r) b bs
unfolding first_by
read_row r b bs w v e = go (eqb n (length r.trails)) refl
  where
    n : ℕ
    n = fit r.trails bs

    go : (t : Bool) → eqb n (length r.trails) ≡ t → (is_scalar_value v ≡ true) × (utf8 v ≡ b ∷ take n bs)
    go true q =
        let e' : scalar (scalar_from (b - r.base) (take n bs)) ≡ scalar v = rw q at e in
        let x : scalar_from (b - r.base) (take n bs) ≡ v = cc in
        rw (← x) (sound r w.agrees_there b (take n bs) w.from w.to (fits_of r.trails bs w.agrees_there.trails (eqb-true n (length r.trails) q)))
    go false q = never_scalar v (rw q at e)

read_by : (o : Option Sequence) (b : ℕ) (bs : List ℕ) → ((r : Sequence) → o ≡ some r → Begun r b) → Read o b bs
unfolding first_by
read_by none b bs h v e = never_scalar v e
read_by (some r) b bs h v e = read_row r b bs (h r refl) v e

pub first_read : (b : ℕ) (bs : List ℕ) (v : ℕ) → (first_of b bs).piece ≡ scalar v → (is_scalar_value v ≡ true) × (utf8 v ≡ b ∷ take (first_of b bs).more bs)
unfolding first_of
first_read b bs v e = read_by (sequence_in table_3_7 b) b bs (begun_row b) v e

-- where the first piece is a scalar value, its encoding is the sequence's own bytes
pub first_text : (b : ℕ) (bs : List ℕ) (v : ℕ) → (first_of b bs).piece ≡ scalar v → utf8 v ≡ b ∷ take (first_of b bs).more bs
first_text b bs v e = (first_read b bs v e).1

-- what is malformed begins a well-formed sequence, or is one byte
abbrev Begins : Option Sequence → ℕ → List ℕ → Type 0
Begins o b bs = ((first_by o b bs).more ≡ 0) ⊎ ((v : ℕ) × (rest : List ℕ) × (is_scalar_value v ≡ true) × (utf8 v ≡ b ∷ (take (first_by o b bs).more bs ++ rest)))

begins_by : (o : Option Sequence) (b : ℕ) (bs : List ℕ) → ((r : Sequence) → o ≡ some r → Begun r b) → Begins o b bs
unfolding first_by
begins_by none b bs h = inl refl
begins_by (some r) b bs h =
    let w : Begun r b = h r refl in
    let n : ℕ = fit r.trails bs in
    let cs : List ℕ = take n bs ++ lows (drop n r.trails) in
    let s : (is_scalar_value (scalar_from (b - r.base) cs) ≡ true) × (utf8 (scalar_from (b - r.base) cs) ≡ b ∷ cs) =
    sound r w.agrees_there b cs w.from w.to (fit_filled r.trails bs w.agrees_there.trails) in
    inr (scalar_from (b - r.base) cs, lows (drop n r.trails), s.0, s.1)

pub first_begins : (b : ℕ) (bs : List ℕ) → ((first_of b bs).more ≡ 0) ⊎ ((v : ℕ) × (rest : List ℕ) × (is_scalar_value v ≡ true) × (utf8 v ≡ b ∷ (take (first_of b bs).more bs ++ rest)))
unfolding first_of
first_begins b bs = begins_by (sequence_in table_3_7 b) b bs (begun_row b)

-- and no more bytes than it has begin one
pub first_longest : (b : ℕ) (bs : List ℕ) (k v : ℕ) (rest : List ℕ) → is_scalar_value v ≡ true → k ≤ length bs → utf8 v ≡ b ∷ (take k bs ++ rest) → k ≤ (first_of b bs).more
unfolding first_of first_by
first_longest b bs k v rest h l e =
    let f : Found table_3_7 0 v = find_scalar v h in
    let x : f.code.lead ≡ b = cc f.code.bytes in
    let y : f.code.rest ≡ take k bs ++ rest = cc f.code.bytes in
    rw (← x, f.here) (fit_least f.at.trails k bs rest l (rw y at f.code.fits))

pub first_short : (b : ℕ) (bs : List ℕ) → (first_of b bs).more ≤ length bs
unfolding first_of first_by
first_short b bs = go (sequence_in table_3_7 b)
  where
    go : (o : Option Sequence) → (first_by o b bs).more ≤ length bs
    go none = omega arith
    go (some r) = fit_short r.trails bs
