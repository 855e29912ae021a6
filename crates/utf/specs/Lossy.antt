-- What the functions of src/lossy.rt say of parts of a text: for inner functions; no public promise rests on it. Assumes nothing.
use Rattle.std.specs.Prelude.{ℕ, ◌+◌, ◌*◌, ◌/◌, ◌≤◌, ◌<◌, false, List, [], ◌∷◌, ◌≡◌, length, drop, get_or}
use Rattle.buffer.specs.Filling.{Filling}
use Rattle.unicode_standard.specs.Unicode.{within, trail, replacements, utf8_pieces, utf8_text}

-- no byte of l is a trail byte
abbrev pub NoTrail : List ℕ → Type 0
NoTrail l = (j : ℕ) → j < length l → within (get_or l j 0) trail ≡ false

-- how many bytes are C0 or above, where all are below 100
unfoldable pub leads : List ℕ → ℕ
leads [] = 0
leads (b ∷ bs) = b / 192 + leads bs

-- r is their number in s, of which none is a trail byte
pub record Lone (s : List ℕ) (r : ℕ) : Type 0 where
  pub none : NoTrail s
  pub count : r ≡ leads s
  pub most : r ≤ length s

-- the text of the first n bytes of s is m bytes long, and goes on after them
pub record PartLength (s : List ℕ) (n m : ℕ) : Type 0 where
  pub fits : n ≤ length s
  pub text : length (utf8_text s) ≡ m + length (utf8_text (drop n s))
  pub most : m ≤ 3 * n

-- Of the text of s, as far as it is read from the first n bytes, m bytes stand at the beginning of a buffer, which was d and is out; r parts of
-- these bytes were replaced
pub record Wrote (s d out : List ℕ) (n m r : ℕ) : Type 0 where
  pub fits : n ≤ length s
  pub filling : Filling (utf8_text s) d (utf8_text (drop n s)) out m
  pub parts : replacements (utf8_pieces s) ≡ r + replacements (utf8_pieces (drop n s))
