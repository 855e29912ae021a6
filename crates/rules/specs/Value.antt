-- The bytes of a value: H6. Assumes nothing.
use Rattle.std.specs.Prelude.{ℕ, ◌+◌, cond, List, [], ◌∷◌, length, take, drop, leb}
use Rattle.types.specs.declared.Place.{Place}
use Rattle.types.specs.declared.Db2Value.{Db2Value}
use Rattle.types.specs.declared.ValuePlace.{ValuePlace}
use Rattle.types.specs.Held.{Held, bits, in_row, in_text, held}

-- the part of s at a place, and none where the place does not fit
unfoldable pub bytes_at : Place → List ℕ → List ℕ
bytes_at p s = cond (leb (p.start + p.len) (length s)) (take p.len (drop p.start s)) []

abbrev pub held_bytes : Held → List ℕ → List ℕ → List ℕ
held_bytes (bits n) s d = []
held_bytes (in_row p) s d = bytes_at p s
held_bytes (in_text p) s d = bytes_at p d

-- H6: of the value v, with the row s and the text buffer d
unfoldable pub value_bytes : Db2Value → List ℕ → List ℕ → List ℕ
value_bytes v s d = held_bytes (held v) s d

-- the length of a value's text, and of all texts together
abbrev pub held_text : Held → ℕ
held_text (bits n) = 0
held_text (in_row p) = 0
held_text (in_text p) = p.len

unfoldable pub texts_together : List ValuePlace → ℕ
texts_together [] = 0
texts_together (v ∷ vs) = held_text (held v.value) + texts_together vs
