-- Columns put into their places one after the other give the answer to the list of them. Assumes nothing.
use mathlib.Core.Path.{◌≡◌, refl, sym, ◌∙◌}
use mathlib.Core.Bool.{Bool, true, false, cond}
use mathlib.Core.List.{List, [], ◌∷◌, ◌++◌, append_assoc, append-nil}
use Prim.Native.Nat.{ℕ, suc, ◌+◌, ◌-◌, ◌≤◌, ◌<◌}
use native.Mathlib.Omega.{arith}
use lib.Dec.{ltb}
use lib.ListN.{length, set, replicate, length-append}
use lib.Seq.{set-append_seam, append_snoc}
use borrow.Author.Tests.{ltb-true, ltb-false, lt-ltb, le-ltb}
use Rattle.refusal.specs.Refusal.{accepted}
use Rattle.types.specs.declared.ColumnDescriptor.{ColumnDescriptor}
use Rattle.types.specs.Places.{max_columns, filled, blank_column, column_list}
use Rattle.qrydsc.specs.Qrydsc.{with_index, numbered, DescriptionTold, refused_description, list_answer}

-- places cs of which k are used, and columns that are still to be put there; the description breaks off or not
unfoldable pub fill : Bool → List ColumnDescriptor → ℕ → List ColumnDescriptor → DescriptionTold
fill b cs k [] = record { outcome = accepted; columns = record { columns = cs; count = k }; broken_off = b }
fill b cs k (d ∷ ds) = cond (ltb k max_columns) (fill b (set cs k (with_index k d)) (k + 1) ds) (refused_description 2 [])

filled_set : {A : Type 0} (b : A) (xs : List A) (x : A) → length xs < max_columns → set (filled b xs) (length xs) x ≡ filled b (xs ++ (x ∷ []))
unfolding filled
filled_set {A} b xs x h =
    let m : ℕ = max_columns - suc (length xs) in
    let l = length-append xs (x ∷ []) in
    let p : max_columns - length xs ≡ suc m = omega arith in
    let q : max_columns - length (xs ++ (x ∷ [])) ≡ m = omega arith in
    rw (p, q) (set-append_seam xs b (replicate m b) x ∙ sym (append_snoc xs x (replicate m b)))

abbrev answer : Bool → List ColumnDescriptor → List ColumnDescriptor → DescriptionTold
answer b xs ds =
    cond (ltb max_columns (length xs + length ds)) (refused_description 2 [])
    (record { outcome = accepted; columns = column_list (xs ++ numbered (length xs) ds); broken_off = b })

fill_after : (f : Bool) (ds xs : List ColumnDescriptor) → length xs ≤ max_columns → fill f (filled blank_column xs) (length xs) ds ≡ answer f xs ds
unfolding fill numbered column_list
fill_after f [] xs h = rw (le-ltb max_columns (length xs + 0) (omega arith), append-nil)
fill_after f (d ∷ ds) xs h = go (fill_after f ds (xs ++ (with_index (length xs) d ∷ []))) (ltb (length xs) max_columns) refl
  where
    x : ColumnDescriptor
    x = with_index (length xs) d

    go : (length (xs ++ (x ∷ [])) ≤ max_columns
        → fill f (filled blank_column (xs ++ (x ∷ []))) (length (xs ++ (x ∷ []))) ds ≡ answer f (xs ++ (x ∷ [])) ds)
        → (b : Bool)
        → ltb (length xs) max_columns ≡ b
        → fill f (filled blank_column xs) (length xs) (d ∷ ds) ≡ answer f xs (d ∷ ds)
    go again true t =
        let l = length-append xs (x ∷ []) in
        let k = ltb-true (length xs) max_columns t in
        let e : length (xs ++ (x ∷ [])) ≡ length xs + 1 = omega arith in
        let n : length (xs ++ (x ∷ [])) + length ds ≡ length xs + suc (length ds) = omega arith in
        rw (t, filled_set blank_column xs x k, ← e) (again (omega arith) ∙ rw (n, append_assoc, e))
    go again false t =
        let k = ltb-false (length xs) max_columns t in
        rw (t, lt-ltb max_columns (length xs + suc (length ds)) (omega arith))

-- from blank places
pub fill_all : (f : Bool) (ds : List ColumnDescriptor) → fill f (replicate max_columns blank_column) 0 ds ≡ list_answer f ds
unfolding filled list_answer
fill_all f ds = let z : 0 + length ds ≡ length ds = omega arith in fill_after f ds [] (omega arith) ∙ rw z
