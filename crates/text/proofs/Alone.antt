-- What a conversion answers when it is called alone, and what it leaves in the buffer: where the bytes are too many and where they are not, where the release is
-- none and where it is one. Assumes nothing.
use Prim.Native.Nat.{ℕ, ◌≤◌, ◌<◌}
use mathlib.Core.Bool.{true, false}
use mathlib.Core.List.{List, []}
use mathlib.Core.Path.{◌≡◌}
use borrow.Author.Tests.{lt-ltb, le-ltb}
use lib.ListN.{length}
use Rattle.refusal.specs.Refusal.{input_limit}
use Rattle.buffer.specs.Buffer.{Converted, refused_text, text_answer, text_buffer}
use Rattle.conversion.specs.Conversion.{is_release}
use Rattle.text.specs.Text.{conversion_answer, conversion_buffer, release_answer, release_buffer}

module _ (s d : List ℕ) where
  pub too_long_answer : (x : Converted) → input_limit < length s → conversion_answer s x d ≡ refused_text 4 []
  unfolding conversion_answer
  too_long_answer x h = rw (lt-ltb input_limit (length s) h)

  pub too_long_buffer : (t : List ℕ) → input_limit < length s → conversion_buffer s t d ≡ d
  unfolding conversion_buffer
  too_long_buffer t h = rw (lt-ltb input_limit (length s) h)

  pub short_answer : (x : Converted) → length s ≤ input_limit → conversion_answer s x d ≡ text_answer x d
  unfolding conversion_answer
  short_answer x h = rw (le-ltb input_limit (length s) h)

  pub short_buffer : (t : List ℕ) → length s ≤ input_limit → conversion_buffer s t d ≡ text_buffer t d
  unfolding conversion_buffer
  short_buffer t h = rw (le-ltb input_limit (length s) h)

module _ (release : ℕ) (s d : List ℕ) where
  pub unknown_answer : (x : Converted) → is_release release ≡ false → release_answer release s x d ≡ refused_text 22 []
  unfolding release_answer
  unknown_answer x h = rw h

  pub unknown_buffer : (t : List ℕ) → is_release release ≡ false → release_buffer release s t d ≡ d
  unfolding release_buffer
  unknown_buffer t h = rw h

  pub known_answer : (x : Converted) → is_release release ≡ true → release_answer release s x d ≡ conversion_answer s x d
  unfolding release_answer
  known_answer x h = rw h

  pub known_buffer : (t : List ℕ) → is_release release ≡ true → release_buffer release s t d ≡ conversion_buffer s t d
  unfolding release_buffer
  known_buffer t h = rw h
