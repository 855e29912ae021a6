-- What the two entries say of descriptions that break off: N6a to N6c. Statements; proofs/Whole.antt proves them of every description. Assumes nothing.
use Rattle.std.specs.Prelude.{ℕ, ◌+◌, ◌≤◌, ◌≡◌, true, false, cond, ◌&&◌, List, [], ◌∷◌, ◌++◌, eqb, leb, length, take}
use Rattle.refusal.specs.Refusal.{accepted, refused, told_number}
use Rattle.triplets.specs.Triplets.{Triplet, reading, breaks_off}
use Rattle.triplets.specs.Descriptors.{columns_of}
use Rattle.qrydsc.specs.Qrydsc.{refused_description, max_qrydsc, description, whole_description}

-- ---- N6a: what breaks off, by the triplets written out

-- a triplet as it is sent: its length, its type, its data
abbrev pub sent : Triplet → List ℕ
sent t = (2 + length t.body) ∷ t.kind ∷ t.body

-- one after the other
unfoldable pub sent_all : List Triplet → List ℕ
sent_all [] = []
sent_all (t ∷ ts) = sent t ++ sent_all ts

-- s is whole exactly where it is triplets, one after the other: those that are read
pub record WholeBytes (s : List ℕ) : Type 0 where
  pub triplets : breaks_off s ≡ false → sent_all (reading 2 s).triplets ≡ s
  pub unbroken : (ts : List Triplet) → sent_all ts ≡ s → breaks_off s ≡ false

-- ---- N6b, N6c: what is answered

-- the ported entry says `broken_off` exactly where it accepts and bytes are left unread
abbrev pub SaysBrokenOff : List ℕ → Type 0
SaysBrokenOff s = (description s).broken_off ≡ (eqb (told_number (description s).outcome) 0 && breaks_off s)

-- both entries give one answer, save that within the length limit the new one tests 15 before all else
abbrev pub AsPorted : List ℕ → Type 0
AsPorted s = whole_description s ≡ cond (leb (length s) max_qrydsc && breaks_off s) (refused_description 15 []) (description s)

-- what it accepts the ported entry accepts with the same answer, which is not broken off; and it accepts all such
pub record AcceptsWhole (s : List ℕ) : Type 0 where
  pub same : (whole_description s).outcome ≡ accepted → whole_description s ≡ description s
  pub unbroken : (whole_description s).outcome ≡ accepted → (description s).broken_off ≡ false
  pub all : (description s).outcome ≡ accepted → (description s).broken_off ≡ false → (whole_description s).outcome ≡ accepted

-- it refuses with 15, and no values, exactly where bytes are left unread within the length limit, also where the ported entry says 2; that one never says 15
pub record RefusesBroken (s : List ℕ) : Type 0 where
  pub broken : told_number (whole_description s).outcome ≡ 15 → (length s ≤ max_qrydsc) × (breaks_off s ≡ true)
  pub all : length s ≤ max_qrydsc → breaks_off s ≡ true → whole_description s ≡ refused_description 15 []
  pub before_2 : (description s).outcome ≡ refused 2 [] → breaks_off s ≡ true → (whole_description s).outcome ≡ refused 15 []
  pub new : told_number (description s).outcome ≡ 15 → ⊥

-- ---- N6a: beginnings

-- m is where one of the triplets ends, or 0
abbrev pub Boundary : List Triplet → ℕ → Type 0
Boundary ts m = (k : ℕ) × (m ≡ length (sent_all (take k ts)))

-- the first m bytes of a description are whole exactly where m is a boundary, and then have the first columns. Of a whole description the last boundary
-- is the end
pub record Beginnings (s : List ℕ) : Type 0 where
  pub boundary : (m : ℕ) → m ≤ length s → breaks_off (take m s) ≡ false → Boundary (reading 2 s).triplets m
  pub unbroken : (m : ℕ) → Boundary (reading 2 s).triplets m → (m ≤ length s) × (breaks_off (take m s) ≡ false)
  pub columns : (m : ℕ) → Boundary (reading 2 s).triplets m → columns_of (take m s) ≡ take (length (columns_of (take m s))) (columns_of s)
  pub end : breaks_off s ≡ false → Boundary (reading 2 s).triplets (length s)
