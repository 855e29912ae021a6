-- What holds while the next column is looked for: what was to come is still to come. Assumes nothing.
use Rattle.std.specs.Prelude.{Some}
use mathlib.Core.Path.{◌≡◌, refl, ◌∙◌}
use mathlib.Core.List.{List, [], ◌∷◌}
use Prim.Native.Nat.{ℕ, ◌≤◌}
use native.Mathlib.Omega.{arith}
use lib.ListN.{get_or, set}
use Rattle.types.specs.declared.ColumnDescriptor.{ColumnDescriptor}
use Rattle.column.specs.declared.EnvEntry.{EnvEntry}
use Rattle.column.specs.Group.{first_entry, no_entry}
use Rattle.triplets.specs.declared.Cursor.{Cursor}
use Rattle.triplets.specs.declared.Step.TheVariants as step
use Rattle.triplets.specs.Descriptors.{Environment, declare}
use Rattle.triplets.specs.Steps.{end_from, outer_at, to_come, CursorWithin, ahead, Goes, Leads, Comes}

-- from the cursor c in the environment env to the cursor n in the environment `after`, over no column
pub record Reaching (s : List ℕ) (c : Cursor) (env : Environment) (n : Cursor) (after : Environment) : Type 0 where
  pub within : CursorWithin s n
  pub less : ahead s n ≤ ahead s c
  pub same : to_come s env c ≡ to_come s after n
  pub ends : end_from s (outer_at n) ≡ end_from s (outer_at c)

pub reaching_start : (s : List ℕ) (c : Cursor) (env : Environment) → CursorWithin s c → Reaching s c env c env
reaching_start s c env h = record { within = h; less = omega arith; same = refl; ends = refl }

module _ {s : List ℕ} {c n : Cursor} {env after : Environment} (i : Reaching s c env n after) where
  pub reaching_end : (at : ℕ) → Leads s n (step.End at) → (to_come s env c ≡ []) × (at ≡ end_from s (outer_at c))
  reaching_end at g = (i.same ∙ g.0 after, g.1 ∙ i.ends)

  pub reaching_declare : (m : Cursor) (e : EnvEntry) (l : ℕ) → Leads s n (step.Declare m e l)
      → Reaching s c env m (set after l (first_entry (get_or after l no_entry) (Some e)))
  unfolding declare
  reaching_declare m e l g =
      record { within = g.1.within; less = omega (arith, i.less, g.1.less); same = i.same ∙ g.1.same after; ends = g.1.ends ∙ i.ends }

  pub reaching_column : (m : Cursor) (d : Environment → ColumnDescriptor) → Goes s n m (λ e. d e ∷ to_come s e m) → Comes s c env m after (d after)
  reaching_column m d g = record { within = g.within; less = omega (arith, i.less, g.less); same = i.same ∙ g.same after; ends = g.ends ∙ i.ends }
