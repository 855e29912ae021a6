-- What holds while a description is read: the columns in their places and those to come give the description's answer. Assumes nothing.
use Rattle.std.specs.Prelude.{None}
use mathlib.Core.Path.{◌≡◌, refl, sym, ap, ◌∙◌}
use mathlib.Core.Bool.{Bool, true, false}
use mathlib.Core.List.{List, []}
use mathlib.Core.Logic.{◌⊎◌, inl, inr}
use Prim.Native.Nat.{ℕ, ◌+◌, ◌≤◌, ◌<◌}
use native.Mathlib.Omega.{arith}
use lib.Dec.{ltb}
use lib.ListN.{length, set, replicate}
use borrow.Author.Tests.{lt-ltb, le-ltb}
use Rattle.types.specs.declared.ColumnDescriptor.{ColumnDescriptor}
use Rattle.types.specs.Places.{max_columns, blank_column}
use Rattle.triplets.specs.declared.Cursor.{Cursor}
use Rattle.triplets.specs.declared.Cursor.TheVariants as cursor
use Rattle.triplets.specs.Descriptors.{Environment, no_entries, columns_from, columns_of}
use Rattle.triplets.specs.Triplets.{reading, breaks_off}
use Rattle.triplets.specs.Steps.{end_from, outer_at, to_come, CursorWithin, Comes}
use Rattle.triplets.proofs.Slices.{slice_all}
use Rattle.triplets.proofs.StepLaws.{breaks_before}
use Rattle.qrydsc.specs.Qrydsc.{with_index, refused_description, list_answer, max_qrydsc}
use Rattle.qrydsc.specs.Entries.{entry_answer, full_answer}
use Rattle.qrydsc.proofs.Filling.{fill, fill_all}
use Rattle.qrydsc.proofs.Entries.{within_limit, full_entry}

-- places cs of which k are used, with an environment, at a cursor
pub record Progress (s : List ℕ) (cs : List ColumnDescriptor) (k : ℕ) (env : Environment) (c : Cursor) : Type 0 where
  pub within : CursorWithin s c
  pub same : (b : Bool) → fill b cs k (to_come s env c) ≡ list_answer b (columns_of s)
  pub ends : end_from s (outer_at c) ≡ end_from s 0

-- at the start all columns are to come
pub all_to_come : (s : List ℕ) → to_come s no_entries (cursor.Outer None 0) ≡ columns_of s
unfolding to_come columns_of
all_to_come s = ap (λ (t : List ℕ). columns_from None no_entries (reading 2 t).triplets) (slice_all s)

pub progress_start : (s : List ℕ) (b : ColumnDescriptor) → b ≡ blank_column → Progress s (replicate max_columns b) 0 no_entries (cursor.Outer None 0)
progress_start s b e = rw e record { within = omega arith; same = λ b. rw (all_to_come s) (fill_all b (columns_of s)); ends = refl }

module _ {s : List ℕ} {cs : List ColumnDescriptor} {k : ℕ} {env : Environment} {c : Cursor} (i : Progress s cs k env c) where
  -- the reading has ended at a place
  module _ (short : length s ≤ max_qrydsc) (at : ℕ) (none : to_come s env c ≡ []) (h : at ≡ end_from s (outer_at c)) where
    breaks : ltb at (length s) ≡ breaks_off s
    breaks = ap (λ (n : ℕ). ltb n (length s)) (h ∙ i.ends) ∙ breaks_before s

    filled_in : (b : Bool) → fill b cs k [] ≡ list_answer b (columns_of s)
    filled_in b = (rw none at (i.same b))

    pub progress_broken : (whole : Bool) → whole ≡ true → at < length s → refused_description 15 [] ≡ entry_answer whole s
    progress_broken whole w h = rw w (rw (sym breaks ∙ lt-ltb at (length s) h) at (within_limit true s short))

    -- it breaks off and any is taken, or it is whole
    pub progress_end : (whole : Bool) → (at < length s × (whole ≡ false)) ⊎ (length s ≤ at) → fill (ltb at (length s)) cs k [] ≡ entry_answer whole s
    progress_end whole (inl (h, w)) = rw (w, breaks) (filled_in (breaks_off s) ∙ within_limit false s short)
    progress_end true (inr h) = rw (le-ltb at (length s) h) (filled_in false ∙ (rw (sym breaks ∙ le-ltb at (length s) h) at (within_limit true s short)))
    progress_end false (inr h) = rw breaks (filled_in (breaks_off s) ∙ within_limit false s short)

  -- a column more
  module _ {n : Cursor} {after : Environment} {d : ColumnDescriptor} (g : Comes s c env n after d) where
    none_left : max_columns ≤ k → (b : Bool) → refused_description 2 [] ≡ list_answer b (columns_of s)
    unfolding fill
    none_left h b = (rw (g.same, le-ltb k max_columns h) at (i.same b))

    pub progress_full : length s ≤ max_qrydsc → (whole : Bool) → max_columns ≤ k → (at : ℕ) → at ≡ outer_at n
        → full_answer whole (end_from s at) (length s) ≡ entry_answer whole s
    progress_full short whole h at e = rw (e, g.ends ∙ i.ends) (full_entry whole s short (none_left h))

    pub progress_column : k < max_columns → Progress s (set cs k (with_index k d)) (k + 1) after n
    unfolding fill
    progress_column h =
        record { within = g.within; same = λ b. (rw (g.same, lt-ltb k max_columns h) at (i.same b)); ends = g.ends ∙ i.ends }
