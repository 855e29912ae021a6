-- Parts of a list, as the code lends them and as a reading goes through them. Assumes nothing.
use mathlib.Core.Path.{◌≡◌, sym, ap, ◌∙◌}
use mathlib.Core.List.{List}
use Prim.Native.Nat.{ℕ, ◌+◌, ◌-◌, ◌≤◌, ◌<◌}
use native.Mathlib.Omega.{arith}
use lib.ListN.{length, get_or, take, drop}
use lib.Seq.{slice, length-take-le, take-add, take-take, take-length, drop-drop, drop_at, get_or-take, get_or-drop}

module _ {A : Type 0} where
  -- a part as it is lent
  pub part_slice : (a e : ℕ) (l : List A) → a ≤ e → e ≤ length l → take (e - a) (drop a l) ≡ slice a e l
  part_slice a e l h k =
      let q : e ≡ a + (e - a) = omega arith in
      sym
      (ap (λ (n : ℕ). drop a (take n l)) q
      ∙ ap (drop a) (take-add a (e - a) l)
      ∙ drop_at (take a l) (take (e - a) (drop a l)) a (length-take-le a l (omega arith)))

  -- a part of a part
  pub slice_slice : (a b m e : ℕ) (l : List A) → a + b ≤ m → m ≤ e → e ≤ length l → take (m - (a + b)) (drop b (slice a e l)) ≡ slice (a + b) m l
  slice_slice a b m e l h k j =
      let n = length-take-le e l j in
      rw (drop-drop b a (take e l)) (part_slice (a + b) m (take e l) h (omega arith) ∙ ap (drop (a + b)) (take-take m e l k))

  pub slice_all : (l : List A) → slice 0 (length l) l ≡ l
  slice_all l = take-length l

  pub get_d_slice : (a e i : ℕ) (l : List A) (d : A) → a + i < e → get_or (slice a e l) i d ≡ get_or l (a + i) d
  get_d_slice a e i l d h = get_or-drop a (take e l) i d ∙ get_or-take e l (a + i) d h
