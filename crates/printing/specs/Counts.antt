-- Numbers as they are printed, with the word for what is counted and where there may be none: for inner functions; no public promise rests on it. Assumes nothing.
use Rattle.std.specs.Prelude.{Option, None, Some, ℕ, List, [], ◌∷◌, ◌++◌, ◌==◌, if◌then◌else◌, decimal}

abbrev pub counted : ℕ → List ℕ → List ℕ → List ℕ
counted n one others = decimal n ++ (32 ∷ (if n == 1 then one else others))

abbrev pub or_dash : Option ℕ → List ℕ
or_dash None = 45 ∷ []
or_dash (Some n) = decimal n
