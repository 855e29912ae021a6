-- ASCII: T6. Such bytes are their own UTF-8: `ascii_text` of Laws.antt. Assumes nothing.
use Rattle.std.specs.Prelude.{ℕ, Bool, true, false, cond, List, [], ◌∷◌, ltb}

unfoldable pub all_ascii : List ℕ → Bool
all_ascii [] = true
all_ascii (b ∷ bs) = cond (ltb b 0x80) (all_ascii bs) false
