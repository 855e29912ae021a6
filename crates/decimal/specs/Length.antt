-- The lengths that both readings of a packed decimal refuse: for inner functions; no public promise rests on it. Assumes nothing.
use Rattle.std.specs.Prelude.{cond, List, ℕ, ltb, eqb, length, Result, Ok, Err, ⊤}
use Rattle.refusal.specs.Refusal.{most_bytes}
use Rattle.refusal.specs.declared.Refusal.{Refusal}
use Rattle.refusal.specs.declared.Refusal.TheVariants.{DecimalEmpty, DecimalTooLong}

abbrev pub length_checked : List ℕ → Result ⊤ Refusal
length_checked s = cond (eqb (length s) 0) (Err DecimalEmpty) (cond (ltb most_bytes (length s)) (Err DecimalTooLong) (Ok tt))
