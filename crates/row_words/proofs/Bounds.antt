-- The texts of a row are no longer than three bytes for each byte that is used and 258 for each column. Assumes nothing.
use Rattle.std.specs.Prelude.{Ok}
use Prim.Native.Nat.{ℕ, ◌+◌, ◌-◌, ◌*◌, ◌/◌, ◌≤◌, ◌<◌, ◌^◌}
use mathlib.Core.Path.{◌≡◌}
use mathlib.Core.List.{List, [], ◌∷◌}
use native.Mathlib.Omega.{arith}
use lib.ListN.{length}
use Rattle.types.specs.declared.Db2Type.{Db2Type}
use Rattle.types.specs.declared.Db2Type.TheVariants as type
use Rattle.rules.specs.Walk.{walk_body}
use Rattle.rules.proofs.Walks.{pieces_of}
use Rattle.rules.proofs.Progress.{end_within}
use Rattle.piece.specs.Texts.{texts_of}
use Rattle.piece.proofs.Texts.{texts_are}
use Rattle.piece.proofs.Bound.{AreBytes, Scaled, AllScaled, texts_bound}
use Rattle.words.specs.Words.{pack_type}
use Rattle.words.specs.Reading.{column_named}
use Rattle.words.proofs.Bitwise.{type_fits}
use Rattle.row_words.specs.Passes.{columns_named, outline}
use Rattle.row_words.proofs.Named.{named_length}
use Rattle.row_words.proofs.Outlines.{is_done_lem}

-- a Decimal whose word has 24 bits has a scale of 8
scaled : (t : Db2Type) → pack_type t < 2 ^ 24 → Scaled t
scaled t h precision scale e = let k : pack_type (type.Decimal precision scale) < 2 ^ 24 = (rw e at h) in omega arith

all_scaled : (ws : List ℕ) → AllScaled (columns_named ws)
unfolding columns_named
all_scaled [] = tt
all_scaled (a ∷ []) = tt
all_scaled (a ∷ (b ∷ ws)) = (scaled (column_named a b).db2_type (type_fits a b), all_scaled ws)

-- where every column has its bytes, the last of them before place n of the input
module _ (release : ℕ) (ws : List ℕ) (start : ℕ) (s : List ℕ) (n : ℕ) (h : start ≤ length s) (w : Ok n ≡ outline (walk_body (columns_named ws) start s)) where
  pub ends : (start ≤ n) × (n ≤ length s)
  ends = end_within (columns_named ws) start s (pieces_of (walk_body (columns_named ws) start s)) n h (is_done_lem n (walk_body (columns_named ws) start s) w)

  pub named_bound : AreBytes s → length (texts_of release (walk_body (columns_named ws) start s)) ≤ 3 * (n - start) + 258 * (length ws / 2)
  named_bound b =
      rw (texts_are release (walk_body (columns_named ws) start s), ← named_length ws)
      (texts_bound release (columns_named ws) start s (pieces_of (walk_body (columns_named ws) start s)) n (all_scaled ws) b ends.0 (is_done_lem n (walk_body (columns_named ws) start s) w))
