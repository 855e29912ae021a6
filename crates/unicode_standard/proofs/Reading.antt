-- Reading a list piece by piece, and the text of the pieces. Assumes nothing.
use Prim.Native.Nat.{ℕ, zero, suc, ◌+◌, ◌≤◌}
use mathlib.Core.List.{List, [], ◌∷◌, ◌++◌, append_assoc}
use mathlib.Core.Path.{◌≡◌, refl, sym, ap}
use native.Mathlib.Nat.{zero-add}
use native.Mathlib.Omega.{arith}
use lib.ListN.{length, drop}
use Rattle.unicode_standard.specs.Unicode.{Piece, scalar, malformed, pieces_text, replacements_in, replacements, First, read_from}

pub never_scalar : {A : Type 0} (v : ℕ) → malformed ≡ scalar v → A
never_scalar v e = let z : ◌≡◌ {A = ℕ} 0 1 = cc in absurd (omega arith)

at_most_one : (p : Piece) → replacements_in p ≤ 1
at_most_one (scalar v) = omega arith
at_most_one malformed = omega arith

module _ (first : ℕ → List ℕ → First) where
  -- the pieces after the first k units are those of what is left
  from_drop : (k : ℕ) (s : List ℕ) → read_from first k s ≡ read_from first 0 (drop k s)
  unfolding read_from
  from_drop zero s = refl
  from_drop (suc k) [] = refl
  from_drop (suc k) (u ∷ us) = from_drop k us

  pub read_cons : (u : ℕ) (us : List ℕ) → read_from first 0 (u ∷ us) ≡ (first u us).piece ∷ read_from first 0 (drop (first u us).more us)
  unfolding read_from
  read_cons u us = ap (λ (ps : List Piece). (first u us).piece ∷ ps) (from_drop (first u us).more us)

  -- no more is replaced than there are units
  pub read_most : (k : ℕ) (s : List ℕ) → replacements (read_from first k s) ≤ length s
  unfolding read_from replacements
  read_most k [] = omega arith
  read_most zero (u ∷ us) = omega (arith, at_most_one (first u us).piece, read_most (first u us).more us)
  read_most (suc k) (u ∷ us) = omega (arith, read_most k us)

pub text_append : (ps qs : List Piece) → pieces_text (ps ++ qs) ≡ pieces_text ps ++ pieces_text qs
unfolding pieces_text
text_append [] qs = refl
text_append (p ∷ ps) qs = rw (text_append ps qs, append_assoc)

pub replaced_append : (ps qs : List Piece) → replacements (ps ++ qs) ≡ replacements ps + replacements qs
unfolding replacements
replaced_append [] qs = sym (zero-add (replacements qs))
replaced_append (p ∷ ps) qs = rw (replaced_append ps qs) (omega arith)
