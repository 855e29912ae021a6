-- What a text conversion answers when it is called alone: H7, N10a, refusals 4, 9 and 22. Assumes nothing.
use Rattle.std.specs.Prelude.{ℕ, cond, List, [], ltb, length}
use Rattle.refusal.specs.Refusal.{input_limit}
use Rattle.buffer.specs.Buffer.{Converted, TextTold, refused_text, text_answer, text_buffer}
use Rattle.conversion.specs.Conversion.{is_release}

-- The answer for the bytes s, of which c is made, and the text buffer d; and what is left in d, where t is the text. Refusal 4: too many bytes
unfoldable pub conversion_answer : List ℕ → Converted → List ℕ → TextTold
conversion_answer s c d = cond (ltb input_limit (length s)) (refused_text 4 []) (text_answer c d)

unfoldable pub conversion_buffer : List ℕ → List ℕ → List ℕ → List ℕ
conversion_buffer s t d = cond (ltb input_limit (length s)) d (text_buffer t d)

-- the same of a call that states a host release. Refusal 22 comes first
unfoldable pub release_answer : ℕ → List ℕ → Converted → List ℕ → TextTold
release_answer release s c d = cond (is_release release) (conversion_answer s c d) (refused_text 22 [])

unfoldable pub release_buffer : ℕ → List ℕ → List ℕ → List ℕ → List ℕ
release_buffer release s t d = cond (is_release release) (conversion_buffer s t d) d
