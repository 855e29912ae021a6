-- For inner functions; no public promise rests on it. The code points of code page 037 lie below 100: one test over the table, which antt computes, carried
-- to every entry. Assumes nothing.
use Rattle.std.specs.Prelude.{ℕ, zero, suc, ◌<◌, Bool, true, false, cond, List, [], ◌∷◌, ◌≡◌, ltb, get_or}
use Rattle.std.proofs.Common.{refl, lit<}
use borrow.Author.Tests.{ltb-true}
use Rattle.unicode_standard.proofs.Ranges.{both}
use Rattle.codepage.specs.CodePage.{table037, code_point037}

all_small : List ℕ → Bool
all_small [] = true
all_small (x ∷ xs) = cond (ltb x 256) (all_small xs) false

entry_small : (xs : List ℕ) → all_small xs ≡ true → (k : ℕ) → get_or xs k 0 < 256
unfolding all_small
entry_small [] e k = lit< tt
entry_small (x ∷ xs) e zero = ltb-true x 256 (both (ltb x 256) (all_small xs) e).0
entry_small (x ∷ xs) e (suc k) = entry_small xs (both (ltb x 256) (all_small xs) e).1 k

pub code_point_small : (b : ℕ) → b < 256 → code_point037 b < 256
unfolding code_point037 all_small table037
code_point_small b h = entry_small table037 refl b
