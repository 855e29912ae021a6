-- What the functions of src/likely.rt and src/likely_blocks.rt say of a position in a slice: for inner functions; no public promise rests on it. Assumes
-- nothing.
use Rattle.std.specs.Prelude.{ℕ, ◌+◌, ◌≤◌, ◌<◌, true, false, Option, Some, None, List, ◌≡◌, length, drop, get_or}
use Rattle.unicode_standard.specs.Unicode.{scalar, within, range}
use Rattle.unicode_standard.specs.Likely.{likely_piece, likely_text}
use Rattle.utf.specs.Utf8Blocks.{Follows}

-- at e is a piece of n bytes that a likely text may have, so that what follows it decides; or one that it may not have
abbrev pub LikelyAt : List ℕ → ℕ → Option ℕ → Type 0
LikelyAt s e (Some n) = (0 < n) × ((e + n ≤ length s) × (likely_text (drop e s) ≡ likely_text (drop (e + n) s)))
LikelyAt s e None = likely_text (drop e s) ≡ false

-- The first n bytes of s are pieces that a likely text may have: what follows them decides
pub record LikelyRun (n : ℕ) (s : List ℕ) : Type 0 where
  pub same : likely_text s ≡ likely_text (drop n s)
  pub fits : n ≤ length s

-- d, where it is ASCII, is a character that a likely text may have
abbrev pub Shown : ℕ → Type 0
Shown d = d < 0x80 → likely_piece (scalar d) ≡ true

-- the first n bytes of s are such characters
abbrev pub AllShown : List ℕ → ℕ → Type 0
AllShown s n = (j : ℕ) → j < n → (get_or s j 0 < 0x80) × Shown (get_or s j 0)

-- d may follow a, b and c in a likely text: in one that is well-formed, and neither as a control character nor as the second byte of one
pub record LikelyAfter (a b c d : ℕ) : Type 0 where
  pub follows : Follows a b c d
  pub shown : Shown d
  pub after_c2 : c ≡ 0xC2 → within d (range 0x80 0x9F) ≡ false
