-- The UTF-8 bytes of a scalar value, by its size. Assumes nothing.
use Prim.Native.Nat.{ℕ, ◌+◌, ◌/◌, ◌%◌, ◌<◌, ◌≤◌}
use mathlib.Core.List.{[], ◌∷◌}
use mathlib.Core.Path.{◌≡◌, refl, ap}
use mathlib.Core.Bool.{Bool, true, false}
use native.Mathlib.Omega.{arith}
use borrow.Author.Tests.{lt-ltb, le-ltb, ltb-true, ltb-false}
use lib.Dec.{ltb}
use lib.ListN.{length}
use Rattle.unicode_standard.specs.Unicode.{utf8}

module _ (v : ℕ) where
  pub utf8_one : v < 0x80 → utf8 v ≡ v ∷ []
  unfolding utf8
  utf8_one h = rw (lt-ltb v 0x80 h)

  pub utf8_two : 0x80 ≤ v → v < 0x800 → utf8 v ≡ (0xC0 + v / 64) ∷ (0x80 + v % 64) ∷ []
  unfolding utf8
  utf8_two h k = rw (le-ltb v 0x80 h, lt-ltb v 0x800 k)

  pub utf8_three : 0x800 ≤ v → v < 0x10000 → utf8 v ≡ (0xE0 + v / 4096) ∷ (0x80 + v / 64 % 64) ∷ (0x80 + v % 64) ∷ []
  unfolding utf8
  utf8_three h k = rw (le-ltb v 0x80 (omega arith), le-ltb v 0x800 h, lt-ltb v 0x10000 k)

  pub utf8_four : 0x10000 ≤ v → utf8 v ≡ (0xF0 + v / 262144) ∷ (0x80 + v / 4096 % 64) ∷ (0x80 + v / 64 % 64) ∷ (0x80 + v % 64) ∷ []
  unfolding utf8
  utf8_four h = rw (le-ltb v 0x80 (omega arith), le-ltb v 0x800 (omega arith), le-ltb v 0x10000 h)

  -- at most two bytes below 800
  pub utf8_short : v < 0x800 → length (utf8 v) ≤ 2
  utf8_short h = go (ltb v 0x80) refl
    where
      go : (t : Bool) → ltb v 0x80 ≡ t → length (utf8 v) ≤ 2
      go true e = omega (arith, ap length (utf8_one (ltb-true v 0x80 e)))
      go false e = omega (arith, ap length (utf8_two (ltb-false v 0x80 e) h))
