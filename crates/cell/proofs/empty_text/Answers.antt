use mathlib.Core.Path.{refl}
use native.Mathlib.Omega.{arith}
use Rattle.unicode_standard.specs.Unicode.{utf8_text, read_from, pieces_text, replacements}
use Rattle.cell.proofs.empty_text.Goals as goal

-- `cell::empty_text` meets its contract: the text of no bytes is empty. Assumes nothing.
pub returns : goal.returns
unfolding utf8_text read_from pieces_text replacements
returns c = λ release s. (refl, (omega arith, tt))
