-- Likely text, piece by piece. Assumes nothing.
use Prim.Native.Nat.{ℕ, zero, suc, ◌+◌, ◌-◌, ◌/◌, ◌%◌, ◌≤◌, ◌<◌}
use mathlib.Core.Bool.{Bool, true, false, cond, ◌||◌}
use mathlib.Core.List.{List, [], ◌∷◌}
use mathlib.Core.Path.{◌≡◌, refl, sym, ap, subst, ◌∙◌}
use native.Mathlib.Omega.{arith}
use borrow.Author.Tests.{lt-ltb, le-ltb, le-leb, lt-leb, ne_eqb, ltb-true, ltb-false}
use lib.Dec.{T, ltb, eqb}
use lib.ListN.{length, take, drop, get_or, length-drop, drop_of_length-le}
use lib.Seq.{drop-cons, drop-drop, get_or-drop}
use Rattle.unicode_standard.specs.Unicode.{Piece, scalar, malformed, utf8, first_by, first_of, fit, scalar_from, table_3_7, within, range, read_from}
use Rattle.utf.specs.Utf8Code.{first_at, trail_at, is_scalar}
use Rattle.unicode_standard.specs.Likely.{is_control, is_tab_or_line_end, likely_piece, all_likely, likely_text}
use Rattle.std.specs.Prelude.{Some, None}
use Rattle.std.specs.Bool.{then_some}
use Rattle.utf.specs.LikelyCode.{LikelyAt}
use Rattle.unicode_standard.proofs.Reading.{read_cons}
use Rattle.unicode_standard.proofs.ScalarBytes.{utf8_one, utf8_two, utf8_three, utf8_four}
use Rattle.utf.proofs.Utf8Laws.{row_at, past, inside}
use Rattle.unicode_standard.proofs.Utf8Bytes.{first_text}
use Rattle.utf.proofs.Utf8Runs.{more_length}

-- ---- the piece at a position decides

likely_next : (s : List ℕ) (e : ℕ) → e < length s → likely_text (drop e s) ≡ cond (likely_piece (first_at s e).piece) (likely_text (drop (e + suc (first_at s e).more) s)) false
unfolding likely_text all_likely first_at
likely_next s e h =
    let m : ℕ = (first_of (get_or s e 0) (drop (suc e) s)).more in
    let q : suc e + m ≡ e + suc m = omega arith in
    rw (drop-cons s e 0 h, read_cons first_of (get_or s e 0) (drop (suc e) s), drop-drop m (suc e) s, q)

module _ (s : List ℕ) (e : ℕ) (h : e < length s) where
  pub unlikely : likely_piece (first_at s e).piece ≡ false → LikelyAt s e None
  unlikely q = likely_next s e h ∙ rw q

  pub likely : (n : ℕ) → n ≡ suc (first_at s e).more → likely_piece (first_at s e).piece ≡ true → LikelyAt s e (Some n)
  unfolding first_at
  likely n k q = (omega arith, (omega (arith, more_length (get_or s e 0) (drop (suc e) s), length-drop (suc e) s), likely_next s e h ∙ rw (q, k)))

  pub likely_if : (x : Bool) (n : ℕ) → n ≡ suc (first_at s e).more → likely_piece (first_at s e).piece ≡ x → LikelyAt s e (then_some x n)
  likely_if true n k q = likely n k q
  likely_if false n k q = unlikely q

-- ---- ASCII

pub ascii_piece : (s : List ℕ) (e : ℕ) → get_or s e 0 < 0x80 → (first_at s e).piece ≡ scalar (get_or s e 0)
unfolding first_at first_of first_by fit scalar_from
ascii_piece s e h =
    let z : get_or s e 0 - 0 ≡ get_or s e 0 = omega arith in
    rw (row_at table_3_7 0 (get_or s e 0) (omega arith)) (ap scalar z)

-- ---- other characters, by their first byte

large : (v : ℕ) → 0xA0 ≤ v → likely_piece (scalar v) ≡ true
unfolding likely_piece is_control
large v h = rw (le-ltb v 0x20 (omega arith), le-leb 0x7F v (omega arith), le-ltb v 0xA0 h)

small : (v : ℕ) → 0x80 ≤ v → v < 0xA0 → likely_piece (scalar v) ≡ false
unfolding likely_piece is_control is_tab_or_line_end
small v h k = rw (le-ltb v 0x20 (omega arith), le-leb 0x7F v (omega arith), lt-ltb v 0xA0 k, ne_eqb v 0x9 (omega arith), ne_eqb v 0xA (omega arith), ne_eqb v 0xD (omega arith))

-- the first byte of a scalar value's encoding, by the value's size
module _ (v b : ℕ) (t : List ℕ) (e : utf8 v ≡ b ∷ t) where
  one : v < 0x80 → v ≡ b
  one h = let q : v ∷ [] ≡ b ∷ t = sym (utf8_one v h) ∙ e in cc

  two : 0x80 ≤ v → v < 0x800 → (0xC0 + v / 64 ≡ b) × ((0x80 + v % 64) ∷ [] ≡ t)
  two h k = let q : (0xC0 + v / 64) ∷ (0x80 + v % 64) ∷ [] ≡ b ∷ t = sym (utf8_two v h k) ∙ e in (cc, cc)

  three : 0x800 ≤ v → v < 0x10000 → 0xE0 + v / 4096 ≡ b
  three h k = let q : (0xE0 + v / 4096) ∷ (0x80 + v / 64 % 64) ∷ (0x80 + v % 64) ∷ [] ≡ b ∷ t = sym (utf8_three v h k) ∙ e in cc

  four : 0x10000 ≤ v → 0xF0 + v / 262144 ≡ b
  four h = let q : (0xF0 + v / 262144) ∷ (0x80 + v / 4096 % 64) ∷ (0x80 + v / 64 % 64) ∷ (0x80 + v % 64) ∷ [] ≡ b ∷ t = sym (utf8_four v h) ∙ e in cc

  -- not C2: no control character
  other : 0x80 ≤ b → (b ≡ 0xC2 → ⊥) → likely_piece (scalar v) ≡ true
  other h k = go (ltb v 0x80) (ltb v 0xA0) refl refl
    where
      go : (x y : Bool) → ltb v 0x80 ≡ x → ltb v 0xA0 ≡ y → likely_piece (scalar v) ≡ true
      go true y p q = let z : ⊥ = omega (arith, ltb-true v 0x80 p, one (ltb-true v 0x80 p)) in absurd z
      go false true p q =
          let l : 0x80 ≤ v = ltb-false v 0x80 p in
          let m : v < 0xA0 = ltb-true v 0xA0 q in
          let f = two l (omega arith) in
          let g : b ≡ 0xC2 = omega (arith, f.0) in
          absurd (k g)
      go false false p q = large v (ltb-false v 0xA0 q)

  -- C2: the value is the second byte
  c2 : b ≡ 0xC2 → (0x80 ≤ v) × (t ≡ v ∷ [])
  c2 h = go (ltb v 0x80) (ltb v 0x800) (ltb v 0x10000) refl refl refl
    where
      go : (x y z : Bool) → ltb v 0x80 ≡ x → ltb v 0x800 ≡ y → ltb v 0x10000 ≡ z → (0x80 ≤ v) × (t ≡ v ∷ [])
      go true y z p q r = let o : ⊥ = omega (arith, ltb-true v 0x80 p, one (ltb-true v 0x80 p)) in absurd o
      go false true z p q r =
          let l : 0x80 ≤ v = ltb-false v 0x80 p in
          let f = two l (ltb-true v 0x800 q) in
          let g : 0x80 + v % 64 ≡ v = omega (arith, f.0) in
          (l, sym f.1 ∙ ap (λ (x : ℕ). x ∷ []) g)
      go false false true p q r =
          let l : 0x800 ≤ v = ltb-false v 0x800 q in
          let o : ⊥ = omega (arith, three l (ltb-true v 0x10000 r)) in
          absurd o
      go false false false p q r =
          let l : 0x10000 ≤ v = ltb-false v 0x10000 r in
          let o : ⊥ = omega (arith, four l) in
          absurd o

taken : (n : ℕ) (l : List ℕ) (x : ℕ) (xs : List ℕ) → take n l ≡ x ∷ xs → (0 < length l) × (get_or l 0 0 ≡ x)
taken zero l x xs e = let z : ⊥ = omega (arith, ap length e) in absurd z
taken (suc n) [] x xs e = let z : ⊥ = omega (arith, ap length e) in absurd z
taken (suc n) (y ∷ l) x xs e = (omega arith, cc)

module _ (s : List ℕ) (e : ℕ) where
  broken : (p : Piece) → is_scalar p ≡ false → likely_piece p ≡ false
  unfolding likely_piece
  broken (scalar v) q = absurd (subst T q tt)
  broken malformed q = refl

  pub malformed_piece : is_scalar (first_at s e).piece ≡ false → likely_piece (first_at s e).piece ≡ false
  malformed_piece q = broken (first_at s e).piece q

  module _ (h : 0x80 ≤ get_or s e 0) where
    not_c2 : (p : Piece) → (first_at s e).piece ≡ p → is_scalar p ≡ true → (get_or s e 0 ≡ 0xC2 → ⊥) → likely_piece p ≡ true
    unfolding first_at
    not_c2 malformed q k l = absurd (subst T (sym k) tt)
    not_c2 (scalar v) q k l = other v (get_or s e 0) _ (first_text (get_or s e 0) (drop (suc e) s) v q) h l

    pub other_piece : is_scalar (first_at s e).piece ≡ true → (get_or s e 0 ≡ 0xC2 → ⊥) → likely_piece (first_at s e).piece ≡ true
    other_piece k l = not_c2 _ refl k l

  -- the second byte of a sequence that begins C2 is its value, and is there
  second : (v : ℕ) → (first_at s e).piece ≡ scalar v → get_or s e 0 ≡ 0xC2 → (0x80 ≤ v) × ((e + 1 < length s) × (get_or s (e + 1) 0 ≡ v))
  unfolding first_at
  second v q k =
      let m : ℕ = (first_of (get_or s e 0) (drop (suc e) s)).more in
      let f = c2 v (get_or s e 0) (take m (drop (suc e) s)) (first_text (get_or s e 0) (drop (suc e) s) v q) k in
      let g = taken m (drop (suc e) s) v [] f.1 in
      let z : suc e + 0 ≡ e + 1 = omega arith in
      (f.0, (omega (arith, g.0, length-drop (suc e) s), ap (λ (n : ℕ). get_or s n 0) (sym z) ∙ sym (get_or-drop (suc e) s 0 0) ∙ g.1))

  by_second : (p : Piece) → (first_at s e).piece ≡ p → is_scalar p ≡ true → get_or s e 0 ≡ 0xC2 → (t : Bool) → trail_at s (e + 1) 0x80 0x9F ≡ t → likely_piece p ≡ cond t false true
  unfolding trail_at
  by_second malformed q k l t r = absurd (subst T (sym k) tt)
  by_second (scalar v) q k l t r = go (ltb v 0xA0) refl
    where
      f : (0x80 ≤ v) × ((e + 1 < length s) × (get_or s (e + 1) 0 ≡ v))
      f = second v q l

      at : within v (range 0x80 0x9F) ≡ t
      at = ap (λ (x : ℕ). within x (range 0x80 0x9F)) (sym f.1.1) ∙ (rw (lt-ltb (e + 1) (length s) f.1.0) at r)

      go : (x : Bool) → ltb v 0xA0 ≡ x → likely_piece (scalar v) ≡ cond t false true
      go true p = let w : t ≡ true = sym at ∙ inside v (range 0x80 0x9F) f.0 (omega (arith, ltb-true v 0xA0 p)) in small v f.0 (ltb-true v 0xA0 p) ∙ rw w
      go false p = let w : t ≡ false = sym at ∙ past v (range 0x80 0x9F) (omega (arith, ltb-false v 0xA0 p)) in large v (ltb-false v 0xA0 p) ∙ rw w

  module _ (k : is_scalar (first_at s e).piece ≡ true) (l : get_or s e 0 ≡ 0xC2) where
    pub control_piece : trail_at s (e + 1) 0x80 0x9F ≡ true → likely_piece (first_at s e).piece ≡ false
    control_piece r = by_second _ refl k l true r

    pub no_control_piece : trail_at s (e + 1) 0x80 0x9F ≡ false → likely_piece (first_at s e).piece ≡ true
    no_control_piece r = by_second _ refl k l false r

-- ---- an ASCII character

module _ (b : ℕ) where
  pub tab_or_line_end : b < 0x20 → (eqb b 0x9 || eqb b 0xA || eqb b 0xD) ≡ likely_piece (scalar b)
  unfolding likely_piece is_control is_tab_or_line_end
  tab_or_line_end h = rw (lt-ltb b 0x20 h) (go (eqb b 0x9) (eqb b 0xA))
    where
      go : (t u : Bool) → (t || u || eqb b 0xD) ≡ cond t true (cond u true (eqb b 0xD))
      go true u = refl
      go false true = refl
      go false false = refl

  pub no_delete : 0x20 ≤ b → b < 0x80 → ltb b 0x7F ≡ likely_piece (scalar b)
  unfolding likely_piece is_control is_tab_or_line_end
  no_delete h k = go (ltb b 0x7F) refl
    where
      go : (t : Bool) → ltb b 0x7F ≡ t → ltb b 0x7F ≡ likely_piece (scalar b)
      go true p = rw (p, le-ltb b 0x20 h, lt-leb 0x7F b (ltb-true b 0x7F p))
      go false p =
          let l : 0x7F ≤ b = ltb-false b 0x7F p in
          rw (p, le-ltb b 0x20 h, le-leb 0x7F b l, lt-ltb b 0xA0 (omega arith), ne_eqb b 0x9 (omega arith), ne_eqb b 0xA (omega arith), ne_eqb b 0xD (omega arith))

pub likely_end : (s : List ℕ) (e : ℕ) → length s ≤ e → true ≡ likely_text (drop e s)
unfolding likely_text all_likely read_from
likely_end s e h = rw (drop_of_length-le s h)
