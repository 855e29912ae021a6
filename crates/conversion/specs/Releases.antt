-- What the host's release changes of a text: N10b, N10d. Statements; proofs/Releases.antt proves them. No contract cites this file. Assumes nothing.
use Rattle.std.specs.Prelude.{ℕ, Bool, true, false, cond, ◌||◌, List, ◌++◌, ◌≡◌, eqb, ltb, length, replicate}
use Rattle.buffer.specs.Buffer.{unreplaced}
use Rattle.unicode_standard.specs.Ascii.{all_ascii}
use Rattle.conversion.specs.Conversion.{is_utf16, from_characters, from_graphics, characters_by, graphics_by}

abbrev pub is_named : ℕ → Bool
is_named ccsid = eqb ccsid 1208 || (eqb ccsid 819 || (eqb ccsid 37 || eqb ccsid 500))

-- the CCSID by which release 2 gives what a release gives: from release 3 on 37 in place of an unnamed one, of graphics only where they are not read as UTF-16
abbrev pub ccsid_by : ℕ → ℕ → ℕ
ccsid_by release ccsid = cond (ltb release 3 || is_named ccsid) ccsid 37

abbrev pub graphic_ccsid_by : ℕ → ℕ → ℕ → ℕ
graphic_ccsid_by release ccsid count = cond (is_utf16 ccsid count) ccsid (ccsid_by release ccsid)

pub record Releases : Type 0 where
  -- release 2 is the Rust's reading
  pub characters2 : (ccsid : ℕ) (s : List ℕ) → characters_by 2 ccsid s ≡ from_characters ccsid s
  pub graphics2 : (ccsid : ℕ) (s : List ℕ) → graphics_by 2 ccsid s ≡ from_graphics ccsid s
  -- release 3 is release 2 with another CCSID
  pub characters3 : (ccsid : ℕ) (s : List ℕ) → characters_by 3 ccsid s ≡ characters_by 2 (ccsid_by 3 ccsid) s
  pub graphics3 : (ccsid : ℕ) (s : List ℕ) → graphics_by 3 ccsid s ≡ graphics_by 2 (graphic_ccsid_by 3 ccsid (length s)) s
  -- so that it changes nothing for a named one, nor for UTF-16; nor where a byte is 80 or above
  pub characters_named : (ccsid : ℕ) (s : List ℕ) → is_named ccsid ≡ true → characters_by 3 ccsid s ≡ characters_by 2 ccsid s
  pub graphics_named : (ccsid : ℕ) (s : List ℕ) → (is_utf16 ccsid (length s) || is_named ccsid) ≡ true → graphics_by 3 ccsid s ≡ graphics_by 2 ccsid s
  pub characters_high : (ccsid : ℕ) (s : List ℕ) → all_ascii s ≡ false → characters_by 3 ccsid s ≡ characters_by 2 ccsid s
  pub graphics_high : (ccsid : ℕ) (s : List ℕ) → all_ascii s ≡ false → graphics_by 3 ccsid s ≡ graphics_by 2 ccsid s
  -- at release 3 no text of an unnamed one goes by a look at all its bytes: it is that of any two parts, one behind the other
  pub parts : (ccsid : ℕ) (s t : List ℕ) → is_named ccsid ≡ false
      → characters_by 3 ccsid (s ++ t) ≡ unreplaced ((characters_by 3 ccsid s).text_bytes ++ (characters_by 3 ccsid t).text_bytes)
  -- a blank field of an unnamed one: n bytes 40 are blanks at release 3, where they were `@`
  pub blanks3 : (ccsid n : ℕ) → is_named ccsid ≡ false → characters_by 3 ccsid (replicate n 0x40) ≡ unreplaced (replicate n 0x20)
  pub blanks2 : (ccsid n : ℕ) → is_named ccsid ≡ false → characters_by 2 ccsid (replicate n 0x40) ≡ unreplaced (replicate n 0x40)
