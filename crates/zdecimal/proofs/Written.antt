-- What is read of a number that is written as packed decimal (how: specs/Written.antt). Assumes nothing.
--     read-back     where the number has no more digits than the bytes, and the sign's code is a nibble
use Prim.Native.Nat.{ℕ, zero, suc, ◌+◌, ◌-◌, ◌*◌, ◌/◌, ◌%◌, ◌^◌, ◌<◌}
use mathlib.Core.Bool.{Bool, true, false, ◌&&◌}
use mathlib.Core.List.{List, [], ◌∷◌, ◌++◌}
use mathlib.Core.Path.{◌≡◌, refl, ap, ◌∙◌}
use native.Mathlib.Omega.{arith}
use native.Mathlib.Nat.{pow-suc, pow-zero}
use borrow.Author.Tests.{lt-ltb}
use lib.Dec.{ltb}
use lib.ListN.{length, length-append}
use lib.Seq.{get_or-append_seam}
use Rattle.zdecimal.specs.ZDecimal.{z_digits, z_sign_code, are_digits, base10}
use Rattle.zdecimal.specs.Written.{digit_bytes, packed_bytes}
use Rattle.zdecimal.proofs.Base10.{from, from_append, from_base10}

-- the digits of bytes that are not the last: two of each
inner : List ℕ → List ℕ
inner [] = []
inner (b ∷ s) = b / 16 ∷ b % 16 ∷ inner s

inner_append : (s t : List ℕ) → inner (s ++ t) ≡ inner s ++ inner t
unfolding inner
inner_append [] t = refl
inner_append (b ∷ s) t = ap (λ (l : List ℕ). b / 16 ∷ b % 16 ∷ l) (inner_append s t)

split : (s : List ℕ) (b : ℕ) → z_digits (s ++ (b ∷ [])) ≡ inner s ++ (b / 16 ∷ [])
unfolding inner z_digits
split [] b = refl
split (a ∷ []) b = refl
split (a ∷ c ∷ s) b = ap (λ (l : List ℕ). a / 16 ∷ a % 16 ∷ l) (split (c ∷ s) b)

digits_append : (ds es : List ℕ) → are_digits ds ≡ true → are_digits es ≡ true → are_digits (ds ++ es) ≡ true
unfolding are_digits
digits_append [] es h k = k
digits_append (d ∷ ds) es h k = go (λ r. digits_append ds es r k) (ltb d 10) refl
  where
    go : (are_digits ds ≡ true → are_digits (ds ++ es) ≡ true) → (t : Bool) → ltb d 10 ≡ t → (t && are_digits (ds ++ es)) ≡ true
    go r true p = r (rw p at h)
    go r false p = rw p at h

one_digit : (d : ℕ) → d < 10 → are_digits (d ∷ []) ≡ true
unfolding are_digits
one_digit d h = rw (lt-ltb d 10 h)

two_digits : (d e : ℕ) → d < 10 → e < 10 → are_digits (d ∷ e ∷ []) ≡ true
unfolding are_digits
two_digits d e h k = rw (lt-ltb d 10 h, lt-ltb e 10 k)

-- ---- the bytes before the last

bytes_long : (n m : ℕ) → length (digit_bytes n m) ≡ n
unfolding digit_bytes
bytes_long zero m = refl
bytes_long (suc n) m = omega (arith, length-append (digit_bytes n (m / 100)) ((m / 10 % 10 * 16 + m % 10) ∷ []), bytes_long n (m / 100))

-- the two digits of the last of them
module _ (m : ℕ) where
  abbrev byte : ℕ
  byte = m / 10 % 10 * 16 + m % 10

  high : byte / 16 ≡ m / 10 % 10
  high = omega arith

  low : byte % 16 ≡ m % 10
  low = omega arith

bytes_inner : (n m : ℕ) → inner (digit_bytes (suc n) m) ≡ inner (digit_bytes n (m / 100)) ++ (m / 10 % 10 ∷ m % 10 ∷ [])
unfolding digit_bytes inner
bytes_inner n m = inner_append (digit_bytes n (m / 100)) (byte m ∷ []) ∙ rw (high m, low m)

bytes_digits : (n m : ℕ) → are_digits (inner (digit_bytes n m)) ≡ true
unfolding digit_bytes inner are_digits
bytes_digits zero m = refl
bytes_digits (suc n) m =
    rw (bytes_inner n m) (digits_append (inner (digit_bytes n (m / 100))) (m / 10 % 10 ∷ m % 10 ∷ []) (bytes_digits n (m / 100)) (two_digits (m / 10 % 10) (m % 10) (omega arith) (omega arith)))

bytes_number : (n m : ℕ) → m < 100 ^ n → from 0 (inner (digit_bytes n m)) ≡ m
unfolding digit_bytes inner from
bytes_number zero m h = omega (arith, pow-zero 100)
bytes_number (suc n) m h =
    let r = bytes_number n (m / 100) (omega (arith, pow-suc 100 n)) in
    rw (bytes_inner n m) (from_append 0 (inner (digit_bytes n (m / 100))) (m / 10 % 10 ∷ m % 10 ∷ []) ∙ rw r (omega arith))

-- ten to the 2 n + 1 is ten times a hundred to the n
powers : (n : ℕ) → 10 ^ (2 * n + 1) ≡ 100 ^ n * 10
powers zero = refl
powers (suc n) =
    let e : 2 * suc n + 1 ≡ suc (suc (2 * n + 1)) = omega arith in
    rw e (omega (arith, pow-suc 10 (suc (2 * n + 1)), pow-suc 10 (2 * n + 1), pow-suc 100 n, powers n))

-- ---- with the last byte

pub record ReadBack (n m g : ℕ) : Type 0 where
  pub bytes : length (packed_bytes n m g) ≡ n + 1
  pub valid : are_digits (z_digits (packed_bytes n m g)) ≡ true
  pub sign : z_sign_code (packed_bytes n m g) ≡ g
  pub magnitude : base10 (z_digits (packed_bytes n m g)) ≡ m

module _ (n m g : ℕ) (h : m < 10 ^ (2 * n + 1)) (k : g < 16) where
  abbrev last : ℕ
  last = m % 10 * 16 + g

  digit : last / 16 ≡ m % 10
  digit = omega arith

  all : z_digits (packed_bytes n m g) ≡ inner (digit_bytes n (m / 10)) ++ (m % 10 ∷ [])
  all = split (digit_bytes n (m / 10)) last ∙ rw digit

  long : length (packed_bytes n m g) ≡ n + 1
  long = omega (arith, length-append (digit_bytes n (m / 10)) (last ∷ []), bytes_long n (m / 10))

  code : z_sign_code (packed_bytes n m g) ≡ g
  code =
      let e : length (packed_bytes n m g) - 1 ≡ length (digit_bytes n (m / 10)) = omega (arith, long, bytes_long n (m / 10)) in
      let q : last % 16 ≡ g = omega arith in
      rw (e, get_or-append_seam (digit_bytes n (m / 10)) last [] 0) q

  number : base10 (z_digits (packed_bytes n m g)) ≡ m
  unfolding from
  number =
      let p : m / 10 < 100 ^ n = omega (arith, powers n) in
      let f : from 0 (z_digits (packed_bytes n m g)) ≡ m =
      ap (from 0) all ∙ from_append 0 (inner (digit_bytes n (m / 10))) (m % 10 ∷ []) ∙ rw (bytes_number n (m / 10) p) (omega arith) in
      omega (arith, from_base10 0 (z_digits (packed_bytes n m g)))

  pub read_back : ReadBack n m g
  read_back =
      record {
        bytes = long;
        valid = rw all (digits_append (inner (digit_bytes n (m / 10))) (m % 10 ∷ []) (bytes_digits n (m / 10)) (one_digit (m % 10) (omega arith)));
        sign = code;
        magnitude = number;
      }
