-- A text written into a lent buffer, and what a call that writes one answers: H1, H2, refusal 9. Assumes nothing.
use Rattle.std.specs.Prelude.{ℕ, cond, List, [], ◌∷◌, ◌++◌, ltb, length, drop, Result, Ok, Err}
use Rattle.refusal.specs.declared.Refusal.{Refusal}
use Rattle.refusal.specs.Refusal.{Told, accepted, refused, refusal_number, refusal_values}
use Rattle.buffer.specs.declared.Written.{Written}

-- the buffer d with the text t over its first bytes; bytes after the text keep what they had
abbrev pub overwritten : List ℕ → List ℕ → List ℕ
overwritten t d = t ++ drop (length t) d

-- what a conversion makes of bytes: the text, by its UTF-8 bytes, and how many U+FFFD were put in for what was malformed (N4a)
pub record Converted : Type 0 where
  pub text_bytes : List ℕ
  pub replaced : ℕ

-- a text for which none was put in
abbrev pub unreplaced : List ℕ → Converted
unreplaced t = record { text_bytes = t; replaced = 0 }

-- an answer by the rules' numbers: what is said of the input, how many bytes were written, and how many U+FFFD among them were put in
pub record TextTold : Type 0 where
  pub outcome : Told
  pub written : ℕ
  pub replaced : ℕ

-- a refusal writes nothing
abbrev pub refused_text : ℕ → List ℕ → TextTold
refused_text n vs = record { outcome = refused n vs; written = 0; replaced = 0 }

abbrev pub told_text : Result Written Refusal → TextTold
told_text (Ok w) = record { outcome = accepted; written = w.len; replaced = w.replaced }
told_text (Err r) = refused_text (refusal_number r) (refusal_values r)

-- What a call that makes c of its bytes answers for the text buffer d, and what one with the text t leaves there. Refusal 9: the buffer is shorter than the text
unfoldable pub text_answer : Converted → List ℕ → TextTold
text_answer c d =
    let n : ℕ = length c.text_bytes in
    cond (ltb (length d) n) (refused_text 9 (n ∷ [])) (record { outcome = accepted; written = n; replaced = c.replaced })

unfoldable pub text_buffer : List ℕ → List ℕ → List ℕ
text_buffer t d = cond (ltb (length d) (length t)) d (overwritten t d)
