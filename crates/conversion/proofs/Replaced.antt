-- How many U+FFFD a conversion puts in: no more than the text has bytes, and than there were bytes to read. Assumes nothing.
use Prim.Native.Nat.{ℕ, ◌≤◌}
use mathlib.Core.Bool.{Bool, true, false, cond}
use mathlib.Core.List.{List}
use mathlib.Core.Path.{sym, subst}
use native.Mathlib.Omega.{arith}
use lib.Dec.{eqb}
use lib.ListN.{length}
use Rattle.unicode_standard.specs.Unicode.{replacements, utf8_pieces, utf8_text, utf16_pieces, utf16_text}
use Rattle.unicode_standard.proofs.Laws.{texts}
use Rattle.unicode_standard.proofs.Replaced as parts
use Rattle.buffer.specs.Buffer.{Converted, unreplaced}
use Rattle.conversion.specs.Conversion.{is_utf16, character_text, graphic_text, from_characters, from_graphics, from_utf8, characters_by, graphics_by}
use Rattle.conversion.specs.Releases.{ccsid_by, graphic_ccsid_by}
use Rattle.conversion.proofs.Releases.{characters_as, graphics_as}

-- of the bytes s
pub record Few (s : List ℕ) (c : Converted) : Type 0 where
  pub within_text : c.replaced ≤ length c.text_bytes
  pub within_bytes : c.replaced ≤ length s

pub none_few : (s t : List ℕ) → Few s (unreplaced t)
none_few s t = record { within_text = omega arith; within_bytes = omega arith }

module _ (s : List ℕ) where
  -- what a test picks
  picked : (b : Bool) (t u : List ℕ) (m n : ℕ) → Few s (record { text_bytes = t; replaced = m }) → Few s (record { text_bytes = u; replaced = n })
      → Few s (record { text_bytes = cond b t u; replaced = cond b m n })
  picked true t u m n f g = f
  picked false t u m n f g = g

  pub utf8_few : Few s (from_utf8 s)
  unfolding utf8_text
  utf8_few = record { within_text = parts.within_text (utf8_pieces s); within_bytes = texts.utf8_most s }

  utf16_few : Few s (record { text_bytes = utf16_text s; replaced = replacements (utf16_pieces s) })
  unfolding utf16_text
  utf16_few = record { within_text = parts.within_text (utf16_pieces s); within_bytes = omega (arith, texts.utf16_most s) }

  characters_few2 : (ccsid : ℕ) → Few s (from_characters ccsid s)
  unfolding character_text
  characters_few2 ccsid = picked (eqb ccsid 1208) _ _ _ _ utf8_few (none_few s _)

  graphics_few2 : (ccsid : ℕ) → Few s (from_graphics ccsid s)
  unfolding graphic_text
  graphics_few2 ccsid = picked (is_utf16 ccsid (length s)) _ _ _ _ utf16_few (characters_few2 ccsid)

  -- at every release
  pub characters_few : (release ccsid : ℕ) → Few s (characters_by release ccsid s)
  characters_few release ccsid = subst (Few s) (sym (characters_as release ccsid s)) (characters_few2 (ccsid_by release ccsid))

  pub graphics_few : (release ccsid : ℕ) → Few s (graphics_by release ccsid s)
  graphics_few release ccsid = subst (Few s) (sym (graphics_as release ccsid s)) (graphics_few2 (graphic_ccsid_by release ccsid (length s)))
