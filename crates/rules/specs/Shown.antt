-- What value_bytes shows of an accepted answer: H6. Of each column it is the text that its bytes mean, or the part of its bytes that the value is.
-- A statement; proofs/Shown.antt proves it. Assumes nothing.
use Rattle.std.specs.Prelude.{ℕ, ◌≡◌, List, [], get_or, take, drop}
use Rattle.types.specs.declared.Columns.{Columns}
use Rattle.types.specs.Places.{blank_value}
use Rattle.rules.specs.Meaning.{Item, nothing, numeric, boolean, part, text, Conversions, item_in}
use Rattle.rules.specs.Walk.{Cell, absent, present}
use Rattle.rules.specs.Value.{value_bytes}
use Rattle.rules.specs.Row.{accept, row_decision, answer_with, text_with}

-- what is to be seen of an item, whose value has the bytes b
abbrev pub shown_of : Item → List ℕ → List ℕ
shown_of nothing b = []
shown_of (numeric x) b = []
shown_of (boolean t) b = []
shown_of (part k from n) b = take n (drop from b)
shown_of (text k t) b = t.text_bytes

-- and of what the walk finds for a column
abbrev pub cell_shown : Conversions → Cell → List ℕ
cell_shown L absent = []
cell_shown L (present c at b) = shown_of (item_in L c b) b

-- of an accepted row with the cells ps, value i shows what cell i is; places after them show nothing
abbrev pub ValuesShown : Conversions → Type 0
ValuesShown L =
    (columns : Columns) (s d : List ℕ) (ps : List Cell) (n : ℕ) → row_decision L columns s d ≡ accept ps n
    → (i : ℕ) → value_bytes (get_or (answer_with L columns s d).places i blank_value).value s (text_with L columns s d) ≡ cell_shown L (get_or ps i absent)
