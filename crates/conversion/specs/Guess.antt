-- The text of bytes whose conversion is guessed: for inner functions; no public promise rests on it. Assumes nothing.
use Rattle.std.specs.Prelude.{ℕ, cond, List, ◌≡◌}
use Rattle.unicode_standard.specs.Ascii.{all_ascii}
use Rattle.conversion.specs.Picked.{text_in, character_conversion, graphic_conversion}
use Rattle.conversion.specs.declared.Conversion.{Conversion}
use Rattle.conversion.specs.declared.Conversion.TheVariants.{Plain, Ebcdic037}

-- T6: ASCII or code page 037, by the bytes
abbrev pub guess : List ℕ → Conversion
guess s = cond (all_ascii s) Plain Ebcdic037

unfoldable pub guess_text : List ℕ → List ℕ
guess_text s = text_in (guess s) s

-- the conversion is guessed, of characters and of graphics
pub record Guessed (release ccsid : ℕ) : Type 0 where
  pub characters : (s : List ℕ) → character_conversion release ccsid s ≡ guess s
  pub graphics : (s : List ℕ) → graphic_conversion release ccsid s ≡ guess s
