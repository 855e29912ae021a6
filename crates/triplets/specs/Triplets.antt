-- Bytes read as triplets: Q1, Q7, N6a. Assumes nothing.
use Rattle.std.specs.Prelude.{ℕ, zero, suc, ◌-◌, Bool, cond, ◌&&◌, List, [], ◌∷◌, leb, ltb, length, get_or, take, drop}

-- term: Q1. A triplet by its type byte and its data
pub record Triplet : Type 0 where
  pub kind : ℕ
  pub body : List ℕ

abbrev pub triplet : ℕ → List ℕ → Triplet
triplet k d = record { kind = k; body = d }

abbrev pub first_triplet : List ℕ → Triplet
first_triplet s = triplet (get_or s 1 0) (take (get_or s 0 0 - 2) (drop 2 s))

-- a triplet begins s: at least `least` bytes remain, its length is not below 2 and does not run past the end
abbrev pub begins : ℕ → List ℕ → Bool
begins least s = leb least (length s) && (leb 2 (get_or s 0 0) && leb (get_or s 0 0) (length s))

-- the triplets of some bytes, and the bytes after them, which are not read
pub record Reading : Type 0 where
  pub triplets : List Triplet
  pub unread : List ℕ

abbrev pub stopped : List ℕ → Reading
stopped s = record { triplets = []; unread = s }

abbrev pub cons_triplet : Triplet → Reading → Reading
cons_triplet t r = record { triplets = t ∷ r.triplets; unread = r.unread }

-- the reading of at most n triplets
unfoldable pub reading_of : ℕ → ℕ → List ℕ → Reading
reading_of least zero s = stopped s
reading_of least (suc n) s = cond (begins least s) (cons_triplet (first_triplet s) (reading_of least n (drop (get_or s 0 0) s))) (stopped s)

-- Q1, Q7: `least` is 2, and 3 of inner triplets. There are never more triplets than bytes
unfoldable pub reading : ℕ → List ℕ → Reading
reading least s = reading_of least (length s) s

-- N6a: a description breaks off: its outer triplets leave a byte unread, or more
unfoldable pub breaks_off : List ℕ → Bool
breaks_off s = ltb 0 (length (reading 2 s).unread)
