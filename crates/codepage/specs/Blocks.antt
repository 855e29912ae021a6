-- For inner functions; no public promise rests on it. Blocks of a text in ISO 8859-1, and their bytes from 80 on. Assumes nothing.
use Rattle.std.specs.Prelude.{ℕ, ◌+◌, ◌/◌, List, [], ◌∷◌}

-- the bytes of a block, at most: their number fits a byte
abbrev pub block_size : ℕ
block_size = 64

-- how many bytes are 80 or above, where all are below 100
unfoldable pub highs : List ℕ → ℕ
highs [] = 0
highs (b ∷ bs) = b / 128 + highs bs
