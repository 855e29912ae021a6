-- How long a text can be, for the bytes it is read from. Assumes nothing.
use Prim.Native.Nat.{ℕ, zero, suc, ◌+◌, ◌*◌, ◌-◌, ◌/◌, ◌%◌, ◌≤◌}
use mathlib.Core.Bool.{Bool, true, false, cond}
use mathlib.Core.List.{List, [], ◌∷◌}
use mathlib.Core.Path.{◌≡◌, refl, sym, ap, subst, ◌∙◌}
use native.Mathlib.Omega.{arith}
use native.Mathlib.Nat.{mul-add}
use lib.Dec.{ltb}
use lib.ListN.{length, length-append, length-take}
use Rattle.unicode_standard.specs.Unicode.{Piece, scalar, malformed, utf8, piece_text, pieces_text, First, read_from, first_of, units, within, high_surrogates, low_surrogates, pair_of, unit_of}
use Rattle.unicode_standard.specs.Unicode.{utf8_text}
use Rattle.unicode_standard.specs.Unicode.{utf16_text}
use Rattle.unicode_standard.proofs.Utf8Bytes.{first_text}
use Rattle.utf.proofs.Utf8Runs.{more_length}

-- a reading in which what takes m + 1 units is at most c bytes long for each, gives at most c bytes a unit
module _ (c : ℕ) (first : ℕ → List ℕ → First) (short : (u : ℕ) (us : List ℕ) → length (piece_text (first u us).piece) ≤ c * suc (first u us).more)
    (there : (u : ℕ) (us : List ℕ) → (first u us).more ≤ length us) where
  pub read_bound : (k : ℕ) (s : List ℕ) → length (pieces_text (read_from first k s)) ≤ c * (length s - k)
  unfolding read_from pieces_text
  read_bound k [] = omega arith
  read_bound zero (u ∷ us) =
      let m : ℕ = (first u us).more in
      let e : suc m + (length us - m) ≡ suc (length us) = omega (arith, there u us) in
      let d : c * suc m + c * (length us - m) ≡ c * suc (length us) = sym (mul-add c (suc m) (length us - m)) ∙ ap (λ (n : ℕ). c * n) e in
      let q : length (pieces_text (read_from first 0 (u ∷ us))) ≡ length (piece_text (first u us).piece) + length (pieces_text (read_from first m us)) = length-append (piece_text (first u us).piece) (pieces_text (read_from first m us)) in
      let z : suc (length us) ≡ suc (length us) - 0 = omega arith in
      let h : length (pieces_text (read_from first 0 (u ∷ us))) ≤ c * suc (length us) = omega (arith, short u us, read_bound m us) in
      subst (λ (n : ℕ). length (pieces_text (read_from first 0 (u ∷ us))) ≤ c * n) z h
  read_bound (suc k) (u ∷ us) =
      let z : length us - k ≡ suc (length us) - suc k = omega arith in
      subst (λ (n : ℕ). length (pieces_text (read_from first k us)) ≤ c * n) z (read_bound k us)

four_cond : (a b c : Bool) (A B C D : List ℕ) → length A ≤ 4 → length B ≤ 4 → length C ≤ 4 → length D ≤ 4 → length (cond a A (cond b B (cond c C D))) ≤ 4
four_cond true b c A B C D h i j k = h
four_cond false true c A B C D h i j k = i
four_cond false false true A B C D h i j k = j
four_cond false false false A B C D h i j k = k

pub utf8_four : (v : ℕ) → length (utf8 v) ≤ 4
unfolding utf8
utf8_four v =
    four_cond (ltb v 0x80) (ltb v 0x800) (ltb v 0x10000) (v ∷ []) ((0xC0 + v / 64) ∷ (0x80 + v % 64) ∷ [])
    ((0xE0 + v / 4096) ∷ (0x80 + v / 64 % 64) ∷ (0x80 + v % 64) ∷ [])
    ((0xF0 + v / 262144) ∷ (0x80 + v / 4096 % 64) ∷ (0x80 + v / 64 % 64) ∷ (0x80 + v % 64) ∷ []) (omega arith) (omega arith) (omega arith) (omega arith)

-- ---- UTF-8: three bytes for each

piece_short : (b : ℕ) (bs : List ℕ) (p : Piece) → (first_of b bs).piece ≡ p → length (piece_text p) ≤ 3 * suc (first_of b bs).more
unfolding piece_text utf8
piece_short b bs malformed e = omega arith
piece_short b bs (scalar v) e = omega (arith, ap length (first_text b bs v e), length-take (first_of b bs).more bs)

pub utf8_bound : (s : List ℕ) → length (utf8_text s) ≤ 3 * length s
unfolding utf8_text
utf8_bound s = omega (arith, read_bound 3 first_of (λ b bs. piece_short b bs _ refl) more_length 0 s)

-- ---- UTF-16: four for each unit

units_length : (s : List ℕ) → 2 * length (units s) ≤ length s
unfolding units
units_length [] = omega arith
units_length (a ∷ []) = omega arith
units_length (a ∷ b ∷ bs) = omega (arith, units_length bs)

four_each : (p : Piece) (m : ℕ) → length (piece_text p) ≤ 4 * suc m
unfolding piece_text
four_each (scalar v) m = omega (arith, utf8_four v)
four_each malformed m = omega (arith, utf8_four 0xFFFD)

pair_there : (u : ℕ) (us : List ℕ) → (pair_of u us).more ≤ length us
unfolding pair_of
pair_there u [] = omega arith
pair_there u (v ∷ us) = go (within v low_surrogates)
  where
    go : (t : Bool) → (cond {A = First} t (record { piece = scalar (0x10000 + (u - 0xD800) * 0x400 + (v - 0xDC00)); more = 1 }) (record { piece = malformed; more = zero })).more ≤ suc (length us)
    go true = omega arith
    go false = omega arith

unit_there : (u : ℕ) (us : List ℕ) → (unit_of u us).more ≤ length us
unfolding unit_of
unit_there u us = go (within u high_surrogates) (pair_there u us)
  where
    go : (t : Bool) → (pair_of u us).more ≤ length us → (cond {A = First} t (pair_of u us) (record { piece = cond (within u low_surrogates) malformed (scalar u); more = zero })).more ≤ length us
    go true h = h
    go false h = omega arith

pub utf16_bound : (s : List ℕ) → length (utf16_text s) ≤ 2 * length s
unfolding utf16_text
utf16_bound s = omega (arith, units_length s, read_bound 4 unit_of (λ u us. four_each _ _) unit_there 0 (units s))
