-- What the UTF-16 functions of src/utf16.rt say of a position in a slice: for inner functions; no public promise rests on it. Assumes nothing.
use Rattle.std.specs.Prelude.{ℕ, zero, suc, ◌+◌, ◌*◌, ◌/◌, ◌%◌, ◌≤◌, ◌<◌, Bool, true, false, cond, not, ◌&&◌, ◌||◌, List, [], ◌∷◌, ◌++◌, ◌⊎◌, ◌≡◌, leb, eqb, length, drop, get_or}
use Rattle.std.specs.Int.{from_bool}
use Rattle.buffer.specs.Filling.{Filling}
use Rattle.unicode_standard.specs.Unicode.{range, within, utf8, replacements, utf16_pieces, utf16_text}

-- the code unit at i
abbrev pub unit_at : List ℕ → ℕ → ℕ
unit_at s i = get_or s i 0 * 256 + get_or s (i + 1) 0

-- At i the text goes on with the scalar value v, and then with what stands n bytes further; r is 1 where v stands for an unpaired surrogate, else 0
pub record Utf16Next (s : List ℕ) (i v n r : ℕ) : Type 0 where
  pub here : utf16_text (drop i s) ≡ utf8 v ++ utf16_text (drop (i + n) s)
  pub fits : i + n ≤ length s
  pub some : 2 ≤ n
  pub scalar : v < 0x110000
  pub part : replacements (utf16_pieces (drop i s)) ≡ r + replacements (utf16_pieces (drop (i + n) s))

-- the unit of the bytes a and b is no high surrogate before a low one, whose first byte is c
abbrev pub single : ℕ → ℕ → Bool
single a c = not (within a (range 0xD8 0xDB) && within c (range 0xDC 0xDF))

-- How many bytes of the text, beyond one, a unit of the bytes a and b stands for
unfoldable pub extra_of : ℕ → ℕ → ℕ → ℕ
extra_of a b c = from_bool (single a c && (not (eqb a 0) || leb 0x80 b)) + from_bool (single a c && leb 8 a)

-- the same, r, where `on` is 1, and nothing where it is 0
pub record Extra (on a b c r : ℕ) : Type 0 where
  pub off : on ≡ 0 → r ≡ 0
  pub there : on ≡ 1 → r ≡ extra_of a b c
  pub most : r ≤ 2

-- where units begin in n of them, by byte
unfoldable pub starts : ℕ → List ℕ
starts zero = []
starts (suc n) = 1 ∷ 0 ∷ starts n

-- ---- the text by units: a surrogate of a pair stands for two of its four bytes

-- the units that begin with the byte a take three bytes
abbrev pub takes_three : ℕ → Bool
takes_three a = leb 8 a && not (within a (range 0xD8 0xDF))

-- what the unit of the bytes a and b stands for, where y is the byte before it
unfoldable pub unit_bytes : ℕ → ℕ → ℕ → List ℕ
unit_bytes y a b =
    cond (takes_three a) ((0xE0 + a / 16) ∷ (0x80 + a % 16 * 4 + b / 64) ∷ (0x80 + b % 64) ∷ [])
    (cond (within a (range 0xD8 0xDB)) ((0xF0 + a % 4 + (b / 64 + 1) / 4) ∷ (0x80 + (b / 4 + 16) % 64) ∷ [])
    (cond (within a (range 0xDC 0xDF)) ((0x80 + y % 4 * 16 + a % 4 * 4 + b / 64) ∷ (0x80 + b % 64) ∷ [])
    (cond (not (eqb a 0) || leb 0x80 b) ((0xC0 + a % 8 * 4 + b / 64) ∷ (0x80 + b % 64) ∷ []) (b ∷ []))))

-- how many bytes these are, r, where z begins the unit before and c the next; 0 for an unpaired surrogate
pub record Counted (z a b c r : ℕ) : Type 0 where
  pub size : 0 < r → (y : ℕ) → r ≡ length (unit_bytes y a b)
  pub most : r ≤ 3
  pub after : 0 < r → within a (range 0xDC 0xDF) ≡ true → within z (range 0xD8 0xDB) ≡ true
  pub next : 0 < r → within a (range 0xD8 0xDB) ≡ true → within c (range 0xDC 0xDF) ≡ true
  pub paired : within z (range 0xD8 0xDB) ≡ true → within a (range 0xDC 0xDF) ≡ true → 0 < r

-- the unit at j + 2 is laid out: its first byte, its second one and how many
pub record LaidAt (s : List ℕ) (j f g n : ℕ) : Type 0 where
  pub first : f ≡ get_or (unit_bytes (get_or s (j + 1) 0) (get_or s (j + 2) 0) (get_or s (j + 3) 0)) 0 0
  pub second : 1 < length (unit_bytes (get_or s (j + 1) 0) (get_or s (j + 2) 0) (get_or s (j + 3) 0)) → g ≡ get_or (unit_bytes (get_or s (j + 1) 0) (get_or s (j + 2) 0) (get_or s (j + 3) 0)) 1 0
  pub count : Counted (get_or s j 0) (get_or s (j + 2) 0) (get_or s (j + 3) 0) (get_or s (j + 4) 0) n

abbrev pub Laid : List ℕ → List ℕ → List ℕ → List ℕ → ℕ → Type 0
Laid s f g n k = (j : ℕ) → j < k → LaidAt s j (get_or f j 0) (get_or g j 0) (get_or n j 0)

-- where a block ends: after its last unit, or before it where that is a high surrogate
abbrev pub BlockEnd : List ℕ → ℕ → Type 0
BlockEnd s r = ((r ≡ 128) × (within (get_or s 128 0) (range 0xD8 0xDB) ≡ false)) ⊎ ((r ≡ 126) × (within (get_or s 128 0) (range 0xD8 0xDB) ≡ true))

-- the text after the first unit of s is written into d, which is now `out`, up to the unit that begins `read` bytes on; nothing was replaced
abbrev pub AfterFirst : List ℕ → List ℕ → List ℕ → ℕ → ℕ → Type 0
AfterFirst s d out read written =
    Filling (utf16_text (drop 2 s)) d (utf16_text (drop (read + 2) s)) out written × (replacements (utf16_pieces (drop 2 s)) ≡ replacements (utf16_pieces (drop (read + 2) s)))
