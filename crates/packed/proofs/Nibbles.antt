-- The nibbles and digits of bytes, at a place, and the parts of the text. Assumes nothing.
use Prim.Native.Nat.{ℕ, zero, suc, ◌+◌, ◌*◌, ◌-◌, ◌/◌, ◌%◌, ◌<◌, ◌≤◌}
use mathlib.Core.Bool.{Bool, true, false, cond}
use mathlib.Core.List.{List, [], ◌∷◌, ◌++◌}
use mathlib.Core.Path.{◌≡◌, refl, sym, ap, ◌∙◌}
use native.Mathlib.Omega.{arith}
use native.Mathlib.Numerals.{add-one}
use borrow.Author.Tests.{eq-eqb, ne_eqb, eqb-true}
use lib.Dec.{eqb}
use lib.ListN.{length, take, drop, get_or, length-append, length-drop, length-map, length-replicate, take-append-drop, get_or-map}
use lib.Seq.{slice, length-slice, slice-cons, slice_empty, drop-append-le, get_or-take, take_all, take-take, length-take-le}
use mir.Val.{bool_byte}
use Rattle.zdecimal.specs.ZDecimal.{z_digits}
use Rattle.packed.specs.Packed.{nibbles, sign_nibble, sign_text, digit_nibbles, character, digit_text, trimmed, zeros, fraction, decimal_text}
use Rattle.packed.specs.Inner.{Trimmed}

-- ---- nibbles

pub nibbles_length : (s : List ℕ) → length (nibbles s) ≡ 2 * length s
unfolding nibbles
nibbles_length [] = refl
nibbles_length (b ∷ bs) = omega (arith, nibbles_length bs)

nibble_high : (s : List ℕ) (i : ℕ) → i < length s → get_or (nibbles s) (2 * i) 0 ≡ get_or s i 0 / 16
unfolding nibbles
nibble_high [] i h = let z : ⊥ = omega arith in absurd z
nibble_high (b ∷ bs) zero h = refl
nibble_high (b ∷ bs) (suc i) h =
    let e : 2 * suc i ≡ suc (suc (2 * i)) = omega arith in
    rw e (nibble_high bs i (omega arith))

nibble_low : (s : List ℕ) (i : ℕ) → i < length s → get_or (nibbles s) (2 * i + 1) 0 ≡ get_or s i 0 % 16
unfolding nibbles
nibble_low [] i h = let z : ⊥ = omega arith in absurd z
nibble_low (b ∷ bs) zero h = refl
nibble_low (b ∷ bs) (suc i) h =
    let e : 2 * suc i + 1 ≡ suc (suc (2 * i + 1)) = omega arith in
    rw e (nibble_low bs i (omega arith))

module _ (s : List ℕ) (k : ℕ) (h : k < 2 * length s) where
  pub even : k % 2 ≡ 0 → 0x30 + get_or s (k / 2) 0 / 16 ≡ character (get_or (nibbles s) k 0)
  even e =
      let q : k ≡ 2 * (k / 2) = omega arith in
      ap character (sym (ap (λ (n : ℕ). get_or (nibbles s) n 0) q ∙ nibble_high s (k / 2) (omega arith)))

  pub odd : (k % 2 ≡ 0 → ⊥) → 0x30 + get_or s (k / 2) 0 % 16 ≡ character (get_or (nibbles s) k 0)
  odd e =
      let q : k ≡ 2 * (k / 2) + 1 = omega arith in
      ap character (sym (ap (λ (n : ℕ). get_or (nibbles s) n 0) q ∙ nibble_low s (k / 2) (omega arith)))

-- ---- the sign

pub sign_nibble_lem : (s : List ℕ) → 0 < length s → get_or s (length s - 1) 0 % 16 ≡ sign_nibble s
sign_nibble_lem s h =
    let q : length (nibbles s) - 1 ≡ 2 * (length s - 1) + 1 = omega (arith, nibbles_length s) in
    sym (ap (λ (n : ℕ). get_or (nibbles s) n 0) q ∙ nibble_low s (length s - 1) (omega arith))

module _ (s : List ℕ) {t : Bool} (e : t ≡ eqb (sign_nibble s) 0xD) where
  pub minus : t ≡ true → sign_text s ≡ 0x2D ∷ []
  unfolding sign_text
  minus q = rw (sym e ∙ q)

  pub plus : t ≡ false → sign_text s ≡ []
  unfolding sign_text
  plus q = rw (sym e ∙ q)

pub sign_length : (s : List ℕ) (t : Bool) → t ≡ eqb (sign_nibble s) 0xD → (bool_byte t ≡ length (sign_text s)) × (bool_byte t ≤ 1)
unfolding sign_text
sign_length s true e = rw (sym e) (refl, omega arith)
sign_length s false e = rw (sym e) (refl, omega arith)

-- ---- z/Architecture's digits, which are split otherwise, are these

pub digits_agree : (s : List ℕ) → z_digits s ≡ digit_nibbles s
unfolding z_digits nibbles
digits_agree [] = refl
digits_agree (b ∷ []) = refl
digits_agree (b ∷ c ∷ s) =
    let m : ℕ = length (nibbles (c ∷ s)) in
    let e : suc (suc m) - 1 ≡ suc (suc (m - 1)) = omega (arith, nibbles_length (c ∷ s)) in
    rw e (ap (λ (l : List ℕ). b / 16 ∷ b % 16 ∷ l) (digits_agree (c ∷ s)))

-- ---- digits

pub digits_length : (s : List ℕ) → length (digit_text s) ≡ 2 * length s - 1
unfolding digit_text
digits_length s =
    length-map (digit_nibbles s) character ∙ length-take-le (length (nibbles s) - 1) (nibbles s) (omega arith) ∙ rw (nibbles_length s)

digit : (s : List ℕ) (k : ℕ) → k + 1 < 2 * length s → get_or (digit_text s) k 0x30 ≡ character (get_or (nibbles s) k 0)
unfolding digit_text
digit s k h =
    get_or-map character (digit_nibbles s) k 0
    ∙ ap character (get_or-take (length (nibbles s) - 1) (nibbles s) k 0 (omega (arith, nibbles_length s)))

-- how many digits a run of them has
pub run_length : (s : List ℕ) (a e : ℕ) → e < 2 * length s → length (slice a e (digit_text s)) ≡ e - a
run_length s a e h = length-slice a e (digit_text s) (omega (arith, digits_length s))

-- the digits from k up to e: the digit k is the next
pub slice_next : (s : List ℕ) (k e b : ℕ) → k < e → e < 2 * length s → b ≡ character (get_or (nibbles s) k 0) → slice k e (digit_text s) ≡ b ∷ slice (k + 1) e (digit_text s)
slice_next s k e b h j q = rw (q ∙ sym (digit s k (omega arith)), add-one k) (slice-cons k e (digit_text s) 0x30 h (omega (arith, digits_length s)))

-- the digits of the bytes from k up to j: the two of the byte k are the next
pub bytes_next : (s : List ℕ) (k j : ℕ) → k < j → j < length s
    → slice (2 * k) (2 * j) (digit_text s) ≡ character (get_or s k 0 / 16) ∷ character (get_or s k 0 % 16) ∷ slice (2 * (k + 1)) (2 * j) (digit_text s)
bytes_next s k j h q =
    let e : 2 * k + 1 + 1 ≡ 2 * (k + 1) = omega arith in
    slice_next s (2 * k) (2 * j) (character (get_or s k 0 / 16)) (omega arith) (omega arith) (ap character (sym (nibble_high s k (omega arith))))
    ∙ ap (λ (l : List ℕ). character (get_or s k 0 / 16) ∷ l)
    (slice_next s (2 * k + 1) (2 * j) (character (get_or s k 0 % 16)) (omega arith) (omega arith) (ap character (sym (nibble_low s k (omega arith))))
    ∙ ap (λ (n : ℕ). character (get_or s k 0 % 16) ∷ slice n (2 * j) (digit_text s)) e)

pub slice_done : (ds : List ℕ) (k e : ℕ) → k ≤ e → e ≤ k → slice k e ds ≡ []
slice_done ds k e h j =
    let q : k ≡ e = omega arith in
    ap (λ (n : ℕ). slice n e ds) q ∙ slice_empty e ds

-- a run of digits in two
pub slice_split : (ds : List ℕ) (a b e : ℕ) → a ≤ b → b ≤ e → e ≤ length ds → slice a e ds ≡ slice a b ds ++ slice b e ds
slice_split ds a b e h k q =
    let x : List ℕ = take e ds in
    ap (drop a) (sym (take-append-drop b x))
    ∙ drop-append-le a (take b x) (drop b x) (omega (arith, length-take-le b x (omega (arith, length-take-le e ds q))))
    ∙ ap (λ (l : List ℕ). drop a l ++ drop b x) (take-take b e ds k)

-- ---- the whole part

pub no_whole : (ds : List ℕ) (w : ℕ) → w ≡ 0 → trimmed (take w ds) ≡ 0x30 ∷ []
unfolding trimmed
no_whole ds w e = rw e

-- the first w digits keep what they say without those before z
abbrev pub Left : List ℕ → ℕ → ℕ → Type 0
Left s w z = trimmed (take w (digit_text s)) ≡ trimmed (slice z w (digit_text s))

-- b is the digit z
module _ (s : List ℕ) (w z b : ℕ) (h : w < 2 * length s) (k : z < w) (e : Left s w z) (c : b ≡ character (get_or (nibbles s) z 0)) where
  next : slice z w (digit_text s) ≡ b ∷ slice (z + 1) w (digit_text s)
  next = slice_next s z w b k h c

  pub zero_goes : b ≡ 0x30 → Left s w (z + 1)
  unfolding trimmed
  zero_goes q = e ∙ rw (next, eq-eqb b 0x30 q)

  pub digit_stays : (b ≡ 0x30 → ⊥) → Trimmed (digit_text s) w z
  unfolding trimmed
  digit_stays q = record { below = k; left = e ∙ rw (next, ne_eqb b 0x30 q) }

pub last_stays : (s : List ℕ) (w z : ℕ) → w < 2 * length s → z < w → Left s w z → w ≤ z + 1 → Trimmed (digit_text s) w z
unfolding trimmed
last_stays s w z h k e q = record { below = k; left = e ∙ rw one (go (eqb b 0x30) refl) }
  where
    b : ℕ
    b = character (get_or (nibbles s) z 0)

    one : slice z w (digit_text s) ≡ b ∷ []
    one = slice_next s z w b k h refl ∙ ap (λ (l : List ℕ). b ∷ l) (slice_done (digit_text s) (z + 1) w (omega arith) q)

    go : (t : Bool) → eqb b 0x30 ≡ t → cond (eqb b 0x30) (0x30 ∷ []) (b ∷ []) ≡ b ∷ []
    go true p = rw (p, eqb-true b 0x30 p)
    go false p = rw p

-- ---- the fraction

pub no_fraction : (scale : ℕ) (ds : List ℕ) → scale ≡ 0 → fraction scale ds ≡ []
unfolding fraction
no_fraction scale ds e = rw (eq-eqb scale 0 e)

pub some_fraction : (scale : ℕ) (ds : List ℕ) (t : ℕ) → length ds ≡ t → (scale ≡ 0 → ⊥) → fraction scale ds ≡ 0x2E ∷ (zeros (scale - t) ++ slice (t - scale) t ds)
unfolding fraction
some_fraction scale ds t q e =
    rw (ne_eqb scale 0 e, q) (ap (λ (l : List ℕ). 0x2E ∷ (zeros (scale - t) ++ drop (t - scale) l)) (sym (take_all t ds (omega arith))))

pub fraction_length : (scale : ℕ) (ds : List ℕ) → (scale ≡ 0 → ⊥) → 1 + scale ≡ length (fraction scale ds)
unfolding fraction
fraction_length scale ds e =
    rw (ne_eqb scale 0 e)
    (omega (arith, length-append (zeros (scale - length ds)) (drop (length ds - scale) ds), length-replicate {A = ℕ} (scale - length ds) 0x30, length-drop (length ds - scale) ds))

-- ---- the whole text

-- w digits before the point, f after it
pub parts : (scale : ℕ) (s : List ℕ) (w f : ℕ) → f ≡ scale → w ≡ (2 * length s - 1) - f
    → decimal_text scale s ≡ sign_text s ++ (trimmed (take w (digit_text s)) ++ fraction f (digit_text s))
unfolding decimal_text
parts scale s w f e h = rw (h, e, digits_length s)
