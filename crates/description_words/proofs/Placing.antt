-- What holds while the words of a description's columns are written: the words of the columns to come are still to be written. Assumes nothing.
use Rattle.std.specs.Prelude.{None}
use mathlib.Core.Path.{◌≡◌, refl, ap, ◌∙◌}
use mathlib.Core.List.{List, [], ◌∷◌}
use Prim.Native.Nat.{ℕ, suc, ◌+◌, ◌*◌, ◌≤◌, ◌<◌}
use native.Mathlib.Omega.{arith}
use lib.ListN.{length, set}
use Rattle.buffer.specs.Buffer.{overwritten}
use Rattle.buffer.proofs.Writing.{Writing, start, stored, fits, end}
use Rattle.types.specs.declared.ColumnDescriptor.{ColumnDescriptor}
use Rattle.types.specs.Places.{max_columns}
use Rattle.triplets.specs.declared.Cursor.{Cursor}
use Rattle.triplets.specs.declared.Cursor.TheVariants as cursor
use Rattle.triplets.specs.Descriptors.{Environment, no_entries, columns_of}
use Rattle.triplets.specs.Steps.{to_come, CursorWithin, Goes, Comes}
use Rattle.qrydsc.specs.Qrydsc.{with_index, numbered}
use Rattle.qrydsc.proofs.Progress.{all_to_come}
use Rattle.words.specs.Words.{first_word, second_word, pack_columns}

-- the words of columns that are numbered from k on
abbrev pub words_from : ℕ → List ColumnDescriptor → List ℕ
words_from k cs = pack_columns (numbered k cs)

pub length_words : (k : ℕ) (cs : List ColumnDescriptor) → length (words_from k cs) ≡ 2 * length cs
unfolding pack_columns numbered
length_words k [] = refl
length_words k (c ∷ cs) = ap (λ (n : ℕ). suc (suc n)) (length_words (k + 1) cs) ∙ omega arith

-- k columns are written into the words d, which are now `out`, with an environment, at a cursor
pub record Placing (s d out : List ℕ) (k : ℕ) (env : Environment) (c : Cursor) : Type 0 where
  pub within : CursorWithin s c
  pub total : k + length (to_come s env c) ≤ max_columns
  pub writing : Writing (words_from 0 (columns_of s)) d (words_from k (to_come s env c)) out (2 * k)

pub placing_start : (s d : List ℕ) → length (columns_of s) ≤ max_columns → 2 * length (columns_of s) ≤ length d → Placing s d d 0 no_entries (cursor.Outer None 0)
placing_start s d few room =
    record {
      within = omega arith;
      total = omega (arith, ap length (all_to_come s));
      writing = rw (all_to_come s) (start (words_from 0 (columns_of s)) d (omega (arith, length_words 0 (columns_of s))));
    }

module _ {s d out : List ℕ} {k : ℕ} {env : Environment} {c : Cursor} (i : Placing s d out k env c) where
  pub placing_end : to_come s env c ≡ [] → out ≡ overwritten (words_from 0 (columns_of s)) d
  unfolding pack_columns numbered
  placing_end none = end i.writing (rw none)

  -- no column, and another environment
  pub placing_on : {n : Cursor} (after : Environment → Environment) → Goes s c n (λ e. to_come s (after e) n) → Placing s d out k (after env) n
  placing_on after g =
      record { within = g.within; total = (rw (g.same env) at i.total); writing = (rw (g.same env) at i.writing) }

  -- a column more
  module _ {n : Cursor} {after : Environment} {x : ColumnDescriptor} (g : Comes s c env n after x) where
    first : ℕ
    first = first_word (with_index k x)

    second : ℕ
    second = second_word (with_index k x)

    split : words_from k (to_come s env c) ≡ first ∷ second ∷ words_from (k + 1) (to_come s after n)
    unfolding pack_columns numbered first second
    split = rw g.same

    pub placing_room : (k < max_columns) × (2 * k + 1 < length out)
    placing_room = (omega (arith, i.total, ap length g.same), omega (arith, fits i.writing, ap length split))

    pub placing_column : Placing s d (set (set out (2 * k) (first_word (with_index k x))) (2 * k + 1) (second_word (with_index k x))) (k + 1) after n
    unfolding first second
    placing_column =
        let w = stored (stored i.writing first (second ∷ words_from (k + 1) (to_come s after n)) split) second (words_from (k + 1) (to_come s after n)) refl in
        let e : 2 * k + 1 + 1 ≡ 2 * (k + 1) = omega arith in
        record { within = g.within; total = omega (arith, i.total, ap length g.same); writing = (rw e at w) }

-- no columns have no words
pub none_written : (s d : List ℕ) → length (columns_of s) ≡ 0 → d ≡ overwritten (words_from 0 (columns_of s)) d
unfolding pack_columns numbered
none_written s d h = go (columns_of s) h
  where
    go : (cs : List ColumnDescriptor) → length cs ≡ 0 → d ≡ overwritten (words_from 0 cs) d
    go [] e = refl
    go (c ∷ cs) e = absurd (omega arith)
