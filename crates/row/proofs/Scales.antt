-- What owning a column list tells of its columns: the scale of a Decimal fits a byte, so it is known how long the texts of a row are at most. Assumes nothing.
use Prim.Native.Nat.{ℕ, zero, suc, ◌+◌, ◌*◌, ◌-◌, ◌≤◌}
use mathlib.Core.Path.{subst}
use mathlib.Core.List.{List, [], ◌∷◌}
use lib.ListN.{length, take}
use mir.Val.{Val}
use denote.Array.{each}
use denote.Shadow.{shadow}
use Rattle.types.specs.declared.Db2Type.{Db2Type}
use Rattle.types.specs.declared.ColumnDescriptor.{ColumnDescriptor}
use Rattle.types.specs.contracts.ColumnDescriptor as column
use Rattle.types.specs.contracts.Db2Type as db2
use Rattle.rules.specs.Walk.{walk_body}
use Rattle.rules.specs.Row.{row_texts}
use Rattle.rules.specs.Conversions.{conversions_of}
use Rattle.rules.proofs.Walks.{pieces_of}
use Rattle.rules.proofs.Progress.{end_within}
use Rattle.piece.proofs.Bound.{Scaled, AllScaled, AreBytes, texts_bound}
use Rattle.row.specs.Whole.{Whole}
use Rattle.row.proofs.Wholes.{whole_is}

-- a column: its type is the ninth field, and a Decimal's scale the second number of that
column_scaled : (c : ColumnDescriptor) (vs : List Val) → shadow ((column.the_row).own_val c vs) → Scaled c.db2_type
column_scaled c vs o precision scale e =
    let t = subst (λ (t : Db2Type). shadow ((db2.the_row).own_val t o.0.1.1.1.1.1.1.1.1.0)) e o.1.1.1.1.1.1.1.1.1.1.0 in
    t.1.1.1.1.1.0.1

pub owned_scaled : (cs : List ColumnDescriptor) (us : List Val) → shadow (each (column.the_row).Denot (column.the_row).own_val cs us) → AllScaled cs
owned_scaled [] us o = tt
owned_scaled (c ∷ cs) [] o = absurd o
owned_scaled (c ∷ cs) (u ∷ us) o = (column_scaled c (u ∷ []) o.0, owned_scaled cs us o.1)

pub covered_scaled : (n : ℕ) (cs : List ColumnDescriptor) → AllScaled cs → AllScaled (take n cs)
covered_scaled zero cs h = tt
covered_scaled (suc n) [] h = tt
covered_scaled (suc n) (c ∷ cs) h = (h.0, covered_scaled n cs h.1)

-- the texts of a row of the columns cs, all of which have their bytes
pub listed_bound : (release : ℕ) (cs : List ColumnDescriptor) → AllScaled cs → (start end : ℕ) (s : List ℕ) → AreBytes s → start ≤ length s
    → Whole (walk_body cs start s) end → length (row_texts (conversions_of release) (pieces_of (walk_body cs start s))) ≤ 3 * (end - start) + 258 * length cs
listed_bound release cs scaled start end s bytes h w =
    let within = end_within cs start s _ end h (whole_is w) in
    texts_bound release cs start s _ end scaled bytes within.0 (whole_is w)
