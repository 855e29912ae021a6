use borrow.Author.Rules.{rules}
use Rattle.conversion.specs.Conversion.{is_utf16}
use Rattle.conversion.specs.Picked.{named}
use Rattle.conversion.proofs.Guesses.{is_guess, none_of}
use Rattle.conversion.proofs.is_guessed.Goals as goal

pub returns-then-not-is_utf16 : goal.returns-then-not-is_utf16
unfolding named is_utf16
returns-then-not-is_utf16 c = λ e. is_guess _ _ (search (rules, none_of)) (search rules) e
