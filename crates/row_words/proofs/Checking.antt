-- What holds while the columns' words are checked: what is found, and what is left gives the rest of the answer. Assumes nothing.
use Prim.Native.Nat.{ℕ, ◌+◌, ◌*◌, ◌/◌, ◌%◌, ◌≤◌, ◌<◌, ◌^◌}
use mathlib.Core.Path.{◌≡◌, refl, sym, ap, ◌∙◌}
use mathlib.Core.Bool.{Bool, true, false, not, ◌||◌}
use mathlib.Core.List.{List}
use Rattle.std.proofs.lemmas.Bool.{not-true, not-false}
use Rattle.std.specs.Prelude.{Option, Some, None}
use native.Mathlib.Omega.{arith}
use borrow.Author.Tests.{eqb-true, eqb-false}
use Rattle.std.specs.Bool.{then_some}
use lib.Dec.{eqb}
use lib.ListN.{length, drop, get_or}
use Rattle.types.specs.Names.{name_of, is_dec_float}
use Rattle.rules.specs.Row.{any_dec_float}
use Rattle.types.specs.declared.Db2Type.TheVariants as type
use Rattle.types.specs.declared.ColumnDescriptor.{ColumnDescriptor}
use Rattle.words.specs.Reading.{column_named, is_column, read_column, joined, read_columns}
use Rattle.words.proofs.Bitwise.{name_read}
use Rattle.words.proofs.Columns.{read_at, read_odd, read_end_lem}
use Rattle.row_words.specs.Passes.{checked_of}

-- what is found of the columns passed, and what is found of the others
abbrev added : Bool → Option Bool → Option Bool
added k (Some n) = Some (k || n)
added k None = None

or_false : (x : Bool) → x || false ≡ x
or_false true = refl
or_false false = refl

dec_float_read : (a b : ℕ) → is_column a b ≡ true → is_dec_float (column_named a b) ≡ eqb 6 (a % 2 ^ 8)
dec_float_read a b h = rw (name_read a b h) (or_false (eqb (name_of (type.DecFloat 0)) (a % 2 ^ 8)))

or_or : (n k m : Bool) → (n || (k || m)) ≡ ((n || k) || m)
or_or true k m = refl
or_or false k m = refl

-- one column more, of which k says whether it is a DecFloat
added_more : (n k : Bool) (c : ColumnDescriptor) → is_dec_float c ≡ k → (x : Option (List ColumnDescriptor))
    → added n (checked_of (joined (Some c) x)) ≡ added (n || k) (checked_of x)
unfolding any_dec_float
added_more n k c e (Some cs) = rw (← e) (ap (λ (m : Bool). Some m) (or_or n (is_dec_float c) (any_dec_float cs)))
added_more n k c e None = refl

module _ (ws : List ℕ) where
  -- the words of i columns are passed
  pub record Checking (n : Bool) (i : ℕ) : Type 0 where
    pub so_far : checked_of (read_columns ws) ≡ added n (checked_of (read_columns (drop (2 * i) ws)))

  module _ {n : Bool} {i : ℕ} (c : Checking n i) where
    -- a and b are the next two words
    module _ (h : i < length ws / 2) (a b : ℕ) (e : (a ≡ get_or ws (2 * i) 0) × (b ≡ get_or ws (2 * i + 1) 0)) where
      here : checked_of (read_columns ws) ≡ added n (checked_of (joined (read_column a b) (read_columns (drop (2 * (i + 1)) ws))))
      here =
          let f : 2 * (i + 1) ≡ 2 * i + 2 = omega arith in
          c.so_far ∙ rw (read_at ws (2 * i) (omega arith), e.0, e.1, f)

      -- r is what the test of the two words says
      pub checking_bad : (r : Bool) → r ≡ is_column a b → not r ≡ true → None ≡ checked_of (read_columns ws)
      unfolding read_column
      checking_bad r q n = sym (here ∙ rw (← q, not-true r n))

      pub checking_step : (r : Bool) → r ≡ is_column a b → not r ≡ false → (m : Bool) → m ≡ (n || eqb 6 (a % 2 ^ 8)) → Checking m (i + 1)
      unfolding read_column
      checking_step r q y m e =
          let k : is_column a b ≡ true = sym q ∙ not-false r y in
          record {
            so_far =
                here
                ∙ rw (k, e)
                (added_more n (eqb 6 (a % 2 ^ 8)) (column_named a b) (dec_float_read a b k) (read_columns (drop (2 * (i + 1)) ws)));
          }

    -- a word is left over
    pub checking_odd : 2 * i ≤ length ws → (2 * i ≡ length ws → ⊥) → length ws ≤ 2 * i + 1 → None ≡ checked_of (read_columns ws)
    checking_odd w d h = let e : 2 * i + 1 ≡ length ws = omega (arith, d, w) in sym (c.so_far ∙ rw (read_odd ws (2 * i) e))

    pub checking_end : length ws / 2 ≤ i → i ≤ length ws / 2 → then_some (eqb (length ws % 2) 0) n ≡ checked_of (read_columns ws)
    unfolding any_dec_float
    checking_end k l = by (eqb (length ws % 2) 0) refl
      where
        by : (t : Bool) → eqb (length ws % 2) 0 ≡ t → then_some t n ≡ checked_of (read_columns ws)
        by true e = let d : 2 * i ≡ length ws = omega (arith, eqb-true (length ws % 2) 0 e) in sym (c.so_far ∙ rw (read_end_lem ws (2 * i) d, or_false n))
        by false e = checking_odd (omega arith) (λ q. eqb-false (length ws % 2) 0 e (omega arith)) (omega arith)
