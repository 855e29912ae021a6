use mathlib.Core.Path.{sym, ◌∙◌}
use Rattle.conversion.specs.Picked.{graphic_conversion}
use Rattle.conversion.proofs.graphic_conversion.Goals as goal

pub returns-then-is_utf16 : goal.returns-then-is_utf16
unfolding graphic_conversion
returns-then-is_utf16 c = simp (sym c.is_utf16.ensures ∙ c.if-is_utf16.true)

pub returns : goal.returns
unfolding graphic_conversion
returns c = c.character_conversion.ensures ∙ simp (sym c.is_utf16.ensures ∙ c.if-is_utf16.false)
