-- What measuring a text tells: for inner functions; no public promise rests on it. Assumes nothing.
use Rattle.std.specs.Prelude.{ℕ, List, ◌≡◌, length}
use Rattle.conversion.specs.Picked.{text_in, converted_in}
use Rattle.conversion.specs.declared.Conversion.{Conversion}

-- `len` is the length of the text of s by p, and q gives the same text, with as many U+FFFD put in
pub record Measures (p : Conversion) (s : List ℕ) (len : ℕ) (q : Conversion) : Type 0 where
  pub counts : len ≡ length (text_in p s)
  pub alike : converted_in q s ≡ converted_in p s
