-- The text of a packed decimal denotes its number (definitions: specs/Denoted.antt). Assumes nothing.
--     text_denotes      the law: digits 0 to 9, any sign
--     text_denotes_z    the signs A, C, D, E and F: the number is that of z/Architecture
--     text_denotes_B    the sign B: it is plus where z/Architecture has minus, a listed difference
--     sign_agrees, sign_B, sign_digit     the same of the sign alone; a sign 0 to 9 is plus here and invalid there
use Prim.Native.Nat.{ℕ, zero, suc, ◌+◌, ◌*◌, ◌-◌, ◌<◌, ◌≤◌}
use mathlib.Core.Bool.{Bool, true, false}
use mathlib.Core.List.{List, [], ◌∷◌, ◌++◌, map, append-nil}
use mathlib.Core.Path.{◌≡◌, refl, sym, ap, ◌∙◌}
use native.Mathlib.Omega.{arith}
use borrow.Author.Tests.{lt-ltb, le-ltb, ne_eqb, eqb-true, ltb-true, ltb-false}
use lib.Dec.{ltb, eqb}
use lib.ListN.{length, take, drop, replicate, length-append, length-take, length-drop, length-map, length-replicate, take-append-drop}
use lib.Seq.{get_or-take, get_or-drop, take_all}
use Rattle.std.proofs.lemmas.List.{take-map, drop-map}
use Rattle.zdecimal.specs.ZDecimal.{base10, Sign, plus, minus, invalid, z_sign}
use Rattle.zdecimal.proofs.Base10.{from, from_append, from_zeros, from_base10}
use Rattle.packed.specs.Packed.{sign_nibble, sign_text, digit_nibbles, character, digit_text, trimmed, whole_part, zeros, fraction, decimal_text}
use Rattle.packed.specs.Denoted.{denoted, is_digit, read_digits, read_point, read_whole, denotes, ValidDigits, ported_sign, packed_number}

-- ---- the sign

-- the signs A, C, D, E and F are taken as z/Architecture takes them
pub sign_agrees : (n : ℕ) → 0xA ≤ n → (n ≡ 0xB → ⊥) → ported_sign n ≡ z_sign n
sign_agrees n a b = rw (le-ltb n 0xA a, ne_eqb n 0xB b)

-- the sign B is minus there, and plus here
pub sign_B : (ported_sign 0xB ≡ plus) × (z_sign 0xB ≡ minus)
sign_B = (refl, refl)

-- 0 to 9 are no signs there, and plus here
pub sign_digit : (n : ℕ) → n < 0xA → (ported_sign n ≡ plus) × (z_sign n ≡ invalid)
sign_digit n h = rw (ne_eqb n 0xD (λ q. omega arith), lt-ltb n 0xA h) (refl, refl)

-- ---- digits 0 to 9, and their characters

valid_take : (n : ℕ) (vs : List ℕ) → ValidDigits vs → ValidDigits (take n vs)
valid_take n vs h k q = rw (get_or-take n vs k 0 (omega (arith, length-take n vs))) (h k (omega (arith, length-take n vs)))

-- zeros put in front of the digits from n on
valid_zeros_drop : (z n : ℕ) (vs : List ℕ) → ValidDigits vs → ValidDigits (replicate z 0 ++ drop n vs)
valid_zeros_drop zero n vs h k q = rw (get_or-drop n vs k 0) (h (n + k) (omega (arith, length-drop n vs)))
valid_zeros_drop (suc z) n vs h zero q = omega arith
valid_zeros_drop (suc z) n vs h (suc k) q = valid_zeros_drop z n vs h k (omega arith)

tail : (d : ℕ) (ds : List ℕ) → ValidDigits (d ∷ ds) → ValidDigits ds
tail d ds h k q = h (suc k) (omega arith)

zeros_drop_map : (z n : ℕ) (vs : List ℕ) → zeros z ++ drop n (map character vs) ≡ map character (replicate z 0 ++ drop n vs)
zeros_drop_map zero n vs = drop-map character n vs
zeros_drop_map (suc z) n vs = ap (λ (l : List ℕ). 0x30 ∷ l) (zeros_drop_map z n vs)

-- ---- what the reader makes of digits

is_digit_lem : (d : ℕ) → d < 10 → is_digit (character d) ≡ true
is_digit_lem d h = rw (le-ltb (character d) 0x30 (omega arith), lt-ltb (character d) 0x3A (omega arith))

read : (v n : ℕ) (vs r : List ℕ) → ValidDigits vs → read_digits v n (map character vs ++ r) ≡ read_digits (from v vs) (n + length vs) r
unfolding from read_digits
read v n [] r h =
    let e : n ≡ n + 0 = omega arith in
    ap (λ (m : ℕ). read_digits v m r) e
read v n (d ∷ ds) r h =
    let e : character d - 0x30 ≡ d = omega arith in
    let q : n + 1 + length ds ≡ n + suc (length ds) = omega arith in
    rw (is_digit_lem d (h 0 (omega arith)), e)
    (read (10 * v + d) (n + 1) ds r (tail d ds h) ∙ ap (λ (m : ℕ). read_digits (from (10 * v + d) ds) m r) q)

-- ---- the whole part

-- the digits vs without their leading zeros: at least one digit, and the same number
record Shown (vs : List ℕ) : Type 0 where
  first : ℕ
  others : List ℕ
  text : trimmed (map character vs) ≡ map character (first ∷ others)
  valid : ValidDigits (first ∷ others)
  magnitude : from 0 (first ∷ others) ≡ from 0 vs

shown : (vs : List ℕ) → ValidDigits vs → Shown vs
unfolding trimmed from
shown [] h = record { first = 0; others = []; text = refl; valid = valid_zeros_drop 1 0 [] h; magnitude = refl }
shown (d ∷ ds) h = go (shown ds (tail d ds h)) (eqb (character d) 0x30) refl
  where
    go : Shown ds → (t : Bool) → eqb (character d) 0x30 ≡ t → Shown (d ∷ ds)
    go w true p =
        let e : d ≡ 0 = omega (arith, eqb-true (character d) 0x30 p) in
        record { first = w.first; others = w.others; text = rw p w.text; valid = w.valid; magnitude = w.magnitude ∙ rw e }
    go w false p = record { first = d; others = ds; text = rw p; valid = h; magnitude = refl }

-- r begins with no digit
abbrev Stops : List ℕ → Type 0
Stops r = (v n : ℕ) → read_digits v n r ≡ record { magnitude = v; count = n; rest = r }

module _ (vs r : List ℕ) (h : ValidDigits vs) (stops : Stops r) where
  abbrev t : List ℕ
  t = trimmed (map character vs) ++ r

  read_whole_lem : (g : Sign) → read_whole g (read_digits 0 0 t) ≡ read_point g (from 0 vs) r
  read_whole_lem g =
      let w = shown vs h in
      let n = length (w.first ∷ w.others) in
      let z : eqb (0 + n) 0 ≡ false = ne_eqb (0 + n) 0 (λ q. omega arith) in
      rw (w.text, read 0 0 (w.first ∷ w.others) r w.valid, stops (from 0 (w.first ∷ w.others)) (0 + n), z, w.magnitude)

  -- a text that begins with no sign
  unsigned : denotes t ≡ read_whole plus (read_digits 0 0 t)
  unsigned =
      let w = shown vs h in
      rw (w.text, ne_eqb (character w.first) 0x2D (λ q. omega arith))

-- ---- the fraction

module _ (scale : ℕ) (vs : List ℕ) (h : ValidDigits vs) where
  abbrev ds : List ℕ
  ds = map character vs

  -- the fraction digits
  abbrev fs : List ℕ
  fs = replicate (scale - length vs) 0 ++ drop (length vs - scale) vs

  fs_length : 0 + length fs ≡ scale
  fs_length =
      omega (
        arith,
        length-append (replicate (scale - length vs) 0) (drop (length vs - scale) vs),
        length-replicate {A = ℕ} (scale - length vs) 0,
        length-drop (length vs - scale) vs,
      )

  fs_value : from (from 0 (take (length vs - scale) vs)) fs ≡ from 0 vs
  unfolding from
  fs_value = go (ltb (length vs) scale) refl
    where
      go : (t : Bool) → ltb (length vs) scale ≡ t → from (from 0 (take (length vs - scale) vs)) fs ≡ from 0 vs
      go true p =
          let e : length vs - scale ≡ 0 = omega (arith, ltb-true (length vs) scale p) in
          rw e (from_append 0 (replicate (scale - length vs) 0) vs ∙ rw (from_zeros (scale - length vs)))
      go false p =
          let e : scale - length vs ≡ 0 = omega (arith, ltb-false (length vs) scale p) in
          let w : ℕ = length vs - scale in
          rw e (sym (from_append 0 (take w vs) (drop w vs)) ∙ ap (from 0) (take-append-drop w vs))

  fraction_stops : Stops (fraction scale ds)
  unfolding fraction read_digits
  fraction_stops v n = go (eqb scale 0) refl
    where
      go : (t : Bool) → eqb scale 0 ≡ t → read_digits v n (fraction scale ds) ≡ record { magnitude = v; count = n; rest = fraction scale ds }
      go true p = rw p
      go false p = rw p

  read_all : (v : ℕ) → read_digits v 0 (map character fs) ≡ record { magnitude = from v fs; count = 0 + length fs; rest = [] }
  unfolding read_digits
  read_all v = ap (read_digits v 0) (sym (append-nil (map character fs))) ∙ read v 0 fs [] (valid_zeros_drop (scale - length vs) (length vs - scale) vs h)

  read_point_lem : (g : Sign) → read_point g (from 0 (take (length vs - scale) vs)) (fraction scale ds) ≡ denoted (record { signed = g; magnitude = from 0 vs; fraction_digits = scale })
  unfolding fraction
  read_point_lem g = go (eqb scale 0) refl
    where
      go : (t : Bool) → eqb scale 0 ≡ t → read_point g (from 0 (take (length vs - scale) vs)) (fraction scale ds) ≡ denoted (record { signed = g; magnitude = from 0 vs; fraction_digits = scale })
      go true p =
          let e : scale ≡ 0 = eqb-true scale 0 p in
          rw (p, take_all (length vs - scale) vs (omega arith), e)
      go false p = rw (p, length-map vs character, zeros_drop_map (scale - length vs) (length vs - scale) vs, read_all (from 0 (take (length vs - scale) vs)), fs_length, p, fs_value)

  -- the text without its sign
  abbrev unsigned_text : List ℕ
  unsigned_text = trimmed (whole_part scale ds) ++ fraction scale ds

  read_magnitude : (g : Sign) → read_whole g (read_digits 0 0 unsigned_text) ≡ denoted (record { signed = g; magnitude = base10 vs; fraction_digits = scale })
  read_magnitude g =
      let w : ℕ = length vs - scale in
      let e : from 0 vs ≡ base10 vs = omega (arith, from_base10 0 vs) in
      rw (length-map vs character, take-map character w vs, ← e)
      (read_whole_lem (take w vs) (fraction scale ds) (valid_take w vs h) fraction_stops g ∙ read_point_lem g)

  denotes_magnitude : denotes unsigned_text ≡ read_whole plus (read_digits 0 0 unsigned_text)
  denotes_magnitude =
      let w : ℕ = length vs - scale in
      rw (length-map vs character, take-map character w vs) (unsigned (take w vs) (fraction scale ds) (valid_take w vs h) fraction_stops)

-- ---- the law

module _ (scale : ℕ) (s : List ℕ) (h : ValidDigits (digit_nibbles s)) where
  -- Where every digit nibble is 0 to 9, the text denotes the number that the digits, the scale and the ported sign give: it is minus exactly where
  -- the sign nibble is D, its value is that of the digits in base ten, and `scale` of them are fraction digits
  pub text_denotes : denotes (decimal_text scale s) ≡ denoted (packed_number (ported_sign (sign_nibble s)) scale s)
  unfolding decimal_text sign_text digit_text
  text_denotes = go (eqb (sign_nibble s) 0xD) refl
    where
      go : (t : Bool) → eqb (sign_nibble s) 0xD ≡ t → denotes (decimal_text scale s) ≡ denoted (packed_number (ported_sign (sign_nibble s)) scale s)
      go true p = rw p (read_magnitude scale (digit_nibbles s) h minus)
      go false p = rw p (denotes_magnitude scale (digit_nibbles s) h ∙ read_magnitude scale (digit_nibbles s) h plus)

  -- For the signs A, C, D, E and F that is the number of z/Architecture
  pub text_denotes_z : 0xA ≤ sign_nibble s → (sign_nibble s ≡ 0xB → ⊥) → denotes (decimal_text scale s) ≡ denoted (packed_number (z_sign (sign_nibble s)) scale s)
  text_denotes_z a b = text_denotes ∙ ap (λ (g : Sign). denoted (packed_number g scale s)) (sign_agrees (sign_nibble s) a b)

  -- For the sign B it is z/Architecture's number with a plus for the minus
  pub text_denotes_B : sign_nibble s ≡ 0xB → (denotes (decimal_text scale s) ≡ denoted (packed_number plus scale s)) × (z_sign (sign_nibble s) ≡ minus)
  text_denotes_B b = (text_denotes ∙ ap (λ (n : ℕ). denoted (packed_number (ported_sign n) scale s)) b, ap z_sign b)
