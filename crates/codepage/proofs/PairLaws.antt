-- The UTF-8 of code points below 100, as one number each, and the table of those of code page 037. Assumes nothing.
use Prim.Native.Nat.{ℕ, zero, suc, ◌+◌, ◌*◌, ◌/◌, ◌%◌, ◌≤◌, ◌<◌}
use mathlib.Core.Bool.{Bool, true, false}
use mathlib.Core.List.{List, [], ◌∷◌, map}
use mathlib.Core.Path.{◌≡◌, refl, ◌∙◌}
use native.Mathlib.Omega.{arith}
use borrow.Author.Tests.{ltb-true, ltb-false, lt-ltb, le-ltb}
use lib.Dec.{ltb}
use lib.ListN.{length, take, get_or, set}
use lib.Seq.{take-suc, take-suc-set, take_all}
use Rattle.unicode_standard.specs.Unicode.{utf8}
use Rattle.unicode_standard.proofs.ScalarBytes.{utf8_one, utf8_two}
use Rattle.codepage.specs.CodePage.{table037, code_point037}
use Rattle.codepage.specs.Pairs.{utf8_pair, pairs037}
use native.Mathlib.Numerals.{add-one}

map_at : (f : ℕ → ℕ) (l : List ℕ) (k : ℕ) → k < length l → get_or (map f l) k 0 ≡ f (get_or l k 0)
map_at f [] k h = let z : ⊥ = omega arith in absurd z
map_at f (x ∷ l) zero h = refl
map_at f (x ∷ l) (suc k) h = map_at f l k (omega arith)

table_size : length table037 ≡ 256
unfolding table037
table_size = refl

pairs_size : length pairs037 ≡ 256
unfolding table037 pairs037
pairs_size = refl

pub pair_at : (b : ℕ) → b < 256 → get_or pairs037 b 0 ≡ utf8_pair (code_point037 b)
unfolding pairs037 code_point037
pair_at b h = map_at utf8_pair table037 b (omega (arith, table_size))

-- A table that is made from its first entry on: one entry more, and the whole
module _ (l : List ℕ) (size : length l ≡ 256) (i : ℕ) (made : take i l ≡ take i pairs037) where
  pub made_next : i < 256 → (t : ℕ) → t ≡ utf8_pair (code_point037 i) → take (i + 1) (set l i t) ≡ take (i + 1) pairs037
  made_next h t e =
      let k : i < length l = omega arith in
      let m : i < length pairs037 = omega (arith, pairs_size) in
      rw (add-one i, take-suc-set l i t k, take-suc pairs037 i 0 m, made, e, pair_at i h)

  pub made_all : 256 ≤ i → l ≡ pairs037
  made_all h = rw (take_all i l (omega arith), take_all i pairs037 (omega (arith, pairs_size))) at made

-- the pair t of a code point v
module _ (v : ℕ) (h : v < 0x100) (t : ℕ) (e : t ≡ utf8_pair v) where
  one : v < 0x80 → t ≡ v
  unfolding utf8_pair
  one k = e ∙ rw (lt-ltb v 0x80 k)

  two : 0x80 ≤ v → t ≡ 0xC0 + v / 64 + 256 * (0x80 + v % 64)
  unfolding utf8_pair
  two k = e ∙ rw (le-ltb v 0x80 k)

  pub pair_first : t % 256 ≡ get_or (utf8 v) 0 0
  pair_first = go (ltb v 0x80) refl
    where
      go : (x : Bool) → ltb v 0x80 ≡ x → t % 256 ≡ get_or (utf8 v) 0 0
      go true q = let k = ltb-true v 0x80 q in rw (utf8_one v k) (omega (arith, one k))
      go false q = let k = ltb-false v 0x80 q in rw (utf8_two v k (omega arith)) (omega (arith, two k))

  pub pair_second : 0x80 ≤ v → t / 256 ≡ 0x80 + v % 64
  pair_second k = omega (arith, two k)

  pub pair_count : 1 + t / 32768 ≡ length (utf8 v)
  pair_count = go (ltb v 0x80) refl
    where
      go : (x : Bool) → ltb v 0x80 ≡ x → 1 + t / 32768 ≡ length (utf8 v)
      go true q = let k = ltb-true v 0x80 q in rw (utf8_one v k) (omega (arith, one k))
      go false q = let k = ltb-false v 0x80 q in rw (utf8_two v k (omega arith)) (omega (arith, two k))
