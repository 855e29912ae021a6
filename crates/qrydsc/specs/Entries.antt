-- For inner functions; no public promise rests on it. Both entries as one. Assumes nothing.
use Rattle.std.specs.Prelude.{ℕ, Bool, cond, ◌&&◌, List, [], ltb}
use Rattle.qrydsc.specs.Qrydsc.{DescriptionTold, refused_description, description, whole_description}

-- where only a whole description is taken, or any
abbrev pub entry_answer : Bool → List ℕ → DescriptionTold
entry_answer whole_only s = cond whole_only (whole_description s) (description s)

-- the refusal of more columns than a list holds, of a description of n bytes whose outer triplets end at a place
unfoldable pub full_answer : Bool → ℕ → ℕ → DescriptionTold
full_answer whole_only at n = cond (whole_only && ltb at n) (refused_description 15 []) (refused_description 2 [])
