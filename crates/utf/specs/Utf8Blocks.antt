-- What the functions of src/blocks.rt say of a byte and the three before it: for inner functions; no public promise rests on it. Assumes nothing.
use Rattle.std.specs.Prelude.{ℕ, suc, ◌≤◌, ◌<◌, Bool, true, false, ◌||◌, List, ◌∷◌, ◌≡◌, leb, length, get_or}
use Rattle.unicode_standard.specs.Unicode.{within, range, trail}

-- after the bytes a, b and c a sequence goes on: c begins one, or b one of three bytes or four, or a one of four
abbrev pub wanted : ℕ → ℕ → ℕ → Bool
wanted a b c = leb 0xC0 c || leb 0xE0 b || leb 0xF0 a

-- d may follow a, b and c: it is a trail byte where one is wanted, and there only; sequences have such a byte; and it suits the byte before it
pub record Follows (a b c d : ℕ) : Type 0 where
  pub place : within d trail ≡ wanted a b c
  pub used : within d (range 0xC0 0xC1) ≡ false
  pub below : d < 0xF5
  pub after_e0 : c ≡ 0xE0 → within d (range 0x80 0x9F) ≡ false
  pub after_ed : c ≡ 0xED → within d (range 0x80 0x9F) ≡ true
  pub after_f0 : c ≡ 0xF0 → within d (range 0x80 0x8F) ≡ false
  pub after_f4 : c ≡ 0xF4 → within d (range 0x80 0x8F) ≡ true

-- R holds of each of the n bytes of l after the first three, with the three before it
abbrev pub Each : (ℕ → ℕ → ℕ → ℕ → Type 0) → List ℕ → ℕ → Type 0
Each R l n = (j : ℕ) → j < n → R (get_or l j 0) (get_or l (suc j) 0) (get_or l (suc (suc j)) 0) (get_or l (suc (suc (suc j))) 0)

-- they each follow the three before them
abbrev pub Joined : List ℕ → ℕ → Type 0
Joined l n = Each Follows l n

-- after them no sequence goes on
abbrev pub Ends : List ℕ → ℕ → Type 0
Ends l n = wanted (get_or l n 0) (get_or l (suc n) 0) (get_or l (suc (suc n)) 0) ≡ false

-- bytes, with three zeros for what is before the first
abbrev pub led : List ℕ → List ℕ
led s = 0 ∷ 0 ∷ 0 ∷ s

-- R holds of each of the first i bytes of s, and the first n of these end whole
pub record JoinedPart (R : ℕ → ℕ → ℕ → ℕ → Type 0) (s : List ℕ) (n : ℕ) : Type 0 where
  pub i : ℕ
  pub fits : i ≤ length s
  pub each : Each R (led s) i
  pub end : (n ≤ i) × Ends (led s) n
