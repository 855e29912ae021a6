-- No more parts are replaced than their text has bytes. Assumes nothing.
use Prim.Native.Nat.{◌≤◌}
use mathlib.Core.List.{List, [], ◌∷◌}
use native.Mathlib.Omega.{arith}
use lib.ListN.{length, length-append}
use Rattle.unicode_standard.specs.Unicode.{Piece, scalar, malformed, utf8, piece_text, pieces_text, replacements_in, replacements}

one_most : (p : Piece) → replacements_in p ≤ length (piece_text p)
unfolding piece_text utf8
one_most (scalar v) = omega arith
one_most malformed = omega arith

pub within_text : (ps : List Piece) → replacements ps ≤ length (pieces_text ps)
unfolding replacements pieces_text
within_text [] = omega arith
within_text (p ∷ ps) = omega (arith, length-append (piece_text p) (pieces_text ps), one_most p, within_text ps)
