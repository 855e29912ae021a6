-- For inner functions; no public promise rests on it. The UTF-8 of code points below 100, as one number each. Assumes nothing.
use Rattle.std.specs.Prelude.{ℕ, ◌+◌, ◌*◌, ◌/◌, ◌%◌, cond, List, map, ltb}
use Rattle.codepage.specs.CodePage.{table037}

-- the one byte, or the first and 256 times the second
unfoldable pub utf8_pair : ℕ → ℕ
utf8_pair v = cond (ltb v 0x80) v (0xC0 + v / 64 + 256 * (0x80 + v % 64))

unfoldable pub pairs037 : List ℕ
pairs037 = map utf8_pair table037
