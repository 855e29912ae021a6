-- Laws on numbers, each over the width. Assumes nothing.
use mathlib.Core.Path.{◌≡◌, refl, sym, ap, ◌∙◌, subst}
use mathlib.Core.Bool.{true, false}
use mathlib.Core.List.{List, [], ◌∷◌}
use Prim.Native.Nat.{ℕ, zero, suc, ◌+◌, ◌*◌, ◌%◌, ◌≤◌, ◌<◌}
use native.Mathlib.Omega.{arith}
use borrow.Author.Tests.{lt-ltb, le-ltb}
use lib.IntN.{ℤ}
use lib.Ieee.{Format, nan_bits, top, hid, ones}
use lib.Ieee.Bits.{nan_bits_above}
use lib.ListN.{length, take, drop, get_or}
use lib.Seq.{drop-cons}
use mir.Syntax.{Width}
use mir.Val.{Fits, SFits, to_z, of_z}
use mir.ValLaws.{to_z-Fits, to_z-of_z}

-- a signed number that was handed over is the one whose bits these are
pub signed_is : (w : Width) (n : ℕ) → Fits w n → (z : ℤ) → z ≡ to_z w n → (m : ℕ) → n ≡ m → to_z w (of_z w z) ≡ to_z w m
signed_is w n f z e m d = to_z-of_z w z (subst (SFits w) (sym e) (to_z-Fits w n f)) ∙ e ∙ ap (to_z w) d

-- ---- the test for a NaN's pattern: one comparison
pub a_nan : (f : Format) (n : ℕ) → ones f * hid f < n % top f → nan_bits f n ≡ true
a_nan f n h = nan_bits_above f n ∙ lt-ltb _ _ h

pub no_nan : (f : Format) (n : ℕ) → n % top f ≤ ones f * hid f → nan_bits f n ≡ false
no_nan f n h = nan_bits_above f n ∙ le-ltb _ _ h

-- ---- the first bytes, one by one: at a numeral n `bytes_from s 0 n` computes to `get_or s 0 0 ∷ get_or s 1 0 ∷ ..`
abbrev pub bytes_from : List ℕ → ℕ → ℕ → List ℕ
bytes_from s i zero = []
bytes_from s i (suc n) = get_or s i 0 ∷ bytes_from s (suc i) n

take_bytes : (s : List ℕ) (i n : ℕ) → i + n ≤ length s → take n (drop i s) ≡ bytes_from s i n
take_bytes s i zero h = refl
take_bytes s i (suc n) h =
    let at : i < length s = omega arith in
    let rest : suc i + n ≤ length s = omega arith in
    rw (drop-cons s i 0) (ap (λ (l : List ℕ). get_or s i 0 ∷ l) (take_bytes s (suc i) n rest))

pub take_first : (s : List ℕ) (n : ℕ) → n ≤ length s → take n s ≡ bytes_from s 0 n
take_first s n h = take_bytes s 0 n (omega arith)
