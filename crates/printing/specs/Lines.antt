-- What a line keeps, of which 512 bytes are written out together once more come: for inner functions; no public promise rests on it. Assumes nothing.
use Rattle.std.specs.Prelude.{ℕ, List, [], ◌∷◌, ◌++◌, ◌==◌, if◌then◌else◌, length}

abbrev pub with_byte : List ℕ → ℕ → List ℕ
with_byte kept b = if length kept == 512 then b ∷ [] else kept ++ b ∷ []

abbrev pub with_bytes : List ℕ → List ℕ → List ℕ
with_bytes kept [] = kept
with_bytes kept (b ∷ bs) = with_bytes (with_byte kept b) bs
