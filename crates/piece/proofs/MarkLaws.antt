-- Marks of columns: a mark that is set is the only one that is new, and while a row is measured every marked column has a text that is copied. Assumes nothing.
use Prim.Native.Nat.{ℕ, zero, suc, ◌+◌, ◌*◌, ◌-◌, ◌/◌, ◌%◌, ◌≤◌, ◌<◌, ◌^◌}
use mathlib.Core.Path.{◌≡◌, refl, sym, ap, subst, ◌∙◌}
use mathlib.Core.Bool.{Bool, true, false}
use mathlib.Core.List.{List, [], ◌∷◌, ◌++◌}
use mathlib.Core.Logic.{◌⊎◌, inl, inr, ⊎_elim}
use native.Mathlib.Nat.{mul-div_right, div-eq_of_lt, pow-suc, mul-suc, mul-add-div, one-mul}
use native.Mathlib.Omega.{arith}
use lib.Bits.{bit_xor, differ, xor_shr, xor_step}
use lib.Dec.{ltb, eqb}
use lib.ListN.{length, get_or, set, drop, replicate, get_or-replicate, length-append, length-drop}
use lib.Pow.{pow_pos, pow-lt, pow-add, shl_exact}
use lib.Seq.{get_or-set_same, get_or-set_other, get_or_at}
use borrow.Author.Tests.{ltb-true, ltb-false, eqb-true, eqb-false, eq-eqb}
use Rattle.types.specs.declared.ColumnDescriptor.{ColumnDescriptor}
use Rattle.rules.specs.Walk.{column_need, Cell, absent, Walk, done, short, walk, walk_body}
use Rattle.rules.proofs.Walks.{is_done, pieces_of, walk_step, walk_first}
use Rattle.rules.proofs.Progress.{Going, piece_at, cons_inverse, going_ahead, following}
use Rattle.std.proofs.lemmas.List.{set_past}
use Rattle.piece.specs.Piece.{PlainCell}
use Rattle.piece.specs.Marks.{mark_at, Marks, PlainMarks}

-- ---- a bit

-- a bit of two numbers that is 0 where they differ
xor_bit : (a b : ℕ) → bit_xor a b % 2 ≡ 0 → (a % 2 ≡ 0) ⊎ (b % 2 ≡ 1)
xor_bit a b h = go (a % 2) (b % 2) (bit_xor (a / 2) (b / 2)) (omega arith) (omega arith) (ap (λ (n : ℕ). n % 2) (sym (xor_step a b)) ∙ h)
  where
    go : (x y k : ℕ) → x < 2 → y < 2 → (k * 2 + differ x y) % 2 ≡ 0 → (x ≡ 0) ⊎ (y ≡ 1)
    go zero y k p q e = inl refl
    go (suc zero) zero k p q e = absurd (omega arith)
    go (suc zero) (suc zero) k p q e = inr refl
    go (suc zero) (suc (suc y)) k p q e = absurd (omega arith)
    go (suc (suc x)) y k p q e = absurd (omega arith)

-- a power of two has one bit
power_bit : (j m : ℕ) → 2 ^ j / 2 ^ m % 2 ≡ 1 → m ≡ j
power_bit j m h = go (ltb m j) refl (ltb j m) refl
  where
    above : m < j → 2 ^ j / 2 ^ m % 2 ≡ 0
    above l =
        let d = j - m - 1 in
        let e : j ≡ m + suc d = omega arith in
        let q : 2 ^ j / 2 ^ m ≡ 2 ^ suc d = ap (λ (n : ℕ). 2 ^ n / 2 ^ m) e ∙ ap (λ (n : ℕ). n / 2 ^ m) (pow-add 2 m (suc d)) ∙ mul-div_right (2 ^ suc d) (pow_pos m) in
        omega (arith, q, pow-suc 2 d)

    below : j < m → 2 ^ j / 2 ^ m % 2 ≡ 0
    below l = omega (arith, div-eq_of_lt (pow-lt l))

    go : (x : Bool) → ltb m j ≡ x → (y : Bool) → ltb j m ≡ y → m ≡ j
    go true e y f = absurd (omega (arith, above (ltb-true m j e)))
    go false e true f = absurd (omega (arith, below (ltb-true j m f)))
    go false e false f = omega (arith, ltb-false m j e, ltb-false j m f)

-- ---- a mark

-- the bit of column k is turned in its word
word_set : (m : List ℕ) (k w : ℕ) → k / 64 < length m → w ≡ bit_xor (get_or m (k / 64) 0) (2 ^ (k % 64)) → Marks m k true (set m (k / 64) w)
unfolding mark_at
word_set m k w h e j t = go (eqb (j / 64) (k / 64)) refl
  where
    bit : get_or (set m (k / 64) w) (j / 64) 0 / 2 ^ (j % 64) % 2 ≡ 0
    bit = eqb-true (get_or (set m (k / 64) w) (j / 64) 0 / 2 ^ (j % 64) % 2) 0 t

    here : j / 64 ≡ k / 64 → bit_xor (get_or m (j / 64) 0 / 2 ^ (j % 64)) (2 ^ (k % 64) / 2 ^ (j % 64)) % 2 ≡ 0
    here q =
        let s : get_or (set m (k / 64) w) (j / 64) 0 ≡ bit_xor (get_or m (j / 64) 0) (2 ^ (k % 64)) = rw q (get_or-set_same m (k / 64) w 0 h ∙ e) in
        ap (λ (n : ℕ). n % 2) (sym (xor_shr (get_or m (j / 64) 0) (2 ^ (k % 64)) (j % 64))) ∙ ap (λ (n : ℕ). n / 2 ^ (j % 64) % 2) (sym s) ∙ bit

    go : (b : Bool) → eqb (j / 64) (k / 64) ≡ b
        → (eqb (get_or m (j / 64) 0 / 2 ^ (j % 64) % 2) 0 ≡ true) ⊎ ((j ≡ k) × (true ≡ true))
    go true f =
        let q = eqb-true (j / 64) (k / 64) f in
        ⊎_elim (λ x. inl (eq-eqb (get_or m (j / 64) 0 / 2 ^ (j % 64) % 2) 0 x))
        (λ x. inr (omega (arith, q, power_bit (k % 64) (j % 64) x), refl))
        (xor_bit (get_or m (j / 64) 0 / 2 ^ (j % 64)) (2 ^ (k % 64) / 2 ^ (j % 64)) (here q))
    go false f =
        inl (rw (get_or-set_other m (k / 64) (j / 64) w 0 (eqb-false (j / 64) (k / 64) f)) at t)

-- the bit as a shift makes it
pub mark_set : (m : List ℕ) (k : ℕ) (b : Bool) → b ≡ true → Marks m k b (set m (k / 64) (bit_xor (get_or m (k / 64) 0) ((1 * 2 ^ (k % 64)) % 2 ^ 64)))
mark_set m k b e = rw e (go (ltb (k / 64) (length m)) refl)
  where
    word : ℕ
    word = bit_xor (get_or m (k / 64) 0) ((1 * 2 ^ (k % 64)) % 2 ^ 64)

    bit : (1 * 2 ^ (k % 64)) % 2 ^ 64 ≡ 2 ^ (k % 64)
    bit = shl_exact 1 (k % 64) 64 (omega arith) (omega arith) ∙ one-mul (2 ^ (k % 64))

    go : (x : Bool) → ltb (k / 64) (length m) ≡ x → Marks m k true (set m (k / 64) word)
    go true h = word_set m k word (ltb-true (k / 64) (length m) h) (ap (bit_xor (get_or m (k / 64) 0)) bit)
    go false h = rw (set_past m (k / 64) word (ltb-false (k / 64) (length m) h)) (λ j t. inl t)

-- no mark is set in words that are all ones
ones_bit : (i : ℕ) → i < 64 → (2 ^ 64 - 1) / 2 ^ i % 2 ≡ 1
ones_bit i h =
    let q = 2 ^ (63 - i) in
    let z = 2 * q - 1 in
    let k : 64 ≡ i + suc (63 - i) = omega arith in
    let t : 2 ^ suc (63 - i) ≡ suc z = pow-suc 2 (63 - i) ∙ omega (arith, pow_pos (63 - i)) in
    let e : 2 ^ 64 ≡ 2 ^ i * z + 2 ^ i = ap (λ (n : ℕ). 2 ^ n) k ∙ pow-add 2 i (suc (63 - i)) ∙ ap (λ (n : ℕ). 2 ^ i * n) t ∙ mul-suc (2 ^ i) z in
    let d : 2 ^ 64 - 1 ≡ 2 ^ i * z + (2 ^ i - 1) = omega (arith, e, pow_pos i) in
    let b : 2 ^ i - 1 < 2 ^ i = omega (arith, pow_pos i) in
    let r : (2 ^ 64 - 1) / 2 ^ i ≡ z = ap (λ (n : ℕ). n / 2 ^ i) d ∙ mul-add-div (pow_pos i) z (2 ^ i - 1) ∙ omega (arith, div-eq_of_lt b) in
    omega (arith, r, pow_pos (63 - i))

none_set : (k : ℕ) → k < 768 → mark_at (replicate 12 (2 ^ 64 - 1)) k ≡ true → ⊥
unfolding mark_at
none_set k l h =
    let w : get_or (replicate 12 (2 ^ 64 - 1)) (k / 64) 0 ≡ 2 ^ 64 - 1 = get_or-replicate 12 (k / 64) (2 ^ 64 - 1) 0 (omega arith) in
    let e = eqb-true (get_or (replicate 12 (2 ^ 64 - 1)) (k / 64) 0 / 2 ^ (k % 64) % 2) 0 h in
    omega (arith, e, ap (λ (x : ℕ). x / 2 ^ (k % 64) % 2) w, ones_bit (k % 64) (omega arith))

pub plain_none : (release : ℕ) (w : Walk) → PlainMarks release (replicate 12 (2 ^ 64 - 1)) w
plain_none release (done ps end) = λ k l h. absurd (none_set k l h)
plain_none release (short e a) = tt

-- ---- the marks of a row

-- a walk that is done has a piece for each column
walk_length : (start : ℕ) (cs : List ColumnDescriptor) (at : ℕ) (r : List ℕ) (ps : List Cell) (end : ℕ) → walk start cs at r ≡ done ps end → length ps ≡ length cs
unfolding walk
walk_length start [] at r ps end d = ap length (sym (ap pieces_of d))
walk_length start (c ∷ cs) at r ps end d =
    let k = column_need c r in
    let w = walk start cs (at + k) (drop k r) in
    let there = walk_first start c cs at r (ap is_done d) in
    let turn = cons_inverse (piece_at c at r) w ps end (sym (walk_step start c cs at r k refl there) ∙ d) in
    ap length turn.1 ∙ ap suc (walk_length start cs (at + k) (drop k r) (pieces_of w) end turn.0)

module _ (release : ℕ) (cs : List ColumnDescriptor) (start : ℕ) (s : List ℕ) (ps : List Cell) (end : ℕ) (d : walk_body cs start s ≡ done ps end) where
  -- of the marks m, those of the walk
  pub of_pieces : (m : List ℕ) → PlainMarks release m (walk_body cs start s) → PlainMarks release m (done ps end)
  of_pieces m h = subst (PlainMarks release m) d h

  pub of_walk : (m : List ℕ) → PlainMarks release m (done ps end) → PlainMarks release m (walk_body cs start s)
  of_walk m h = subst (PlainMarks release m) (sym d) h

  module _ {i at : ℕ} {passed : List Cell} (g : Going cs start s ps end i at passed) (c : ColumnDescriptor) (e : drop i cs ≡ c ∷ drop (i + 1) cs) (r : List ℕ) (q : r ≡ drop at s) (h : i ≤ length cs) where
    passed_count : length passed ≡ i
    unfolding walk_body
    passed_count =
        omega (arith, h, walk_length start cs start (drop start s) ps end d, walk_length start (drop i cs) at (drop at s) g.ahead end g.rest, ap length g.all, length-append passed g.ahead, length-drop i cs)

    piece_here : get_or ps i absent ≡ piece_at c at r
    piece_here =
        ap (λ (l : List Cell). get_or l i absent) (g.all ∙ ap (λ (l : List Cell). passed ++ l) (going_ahead cs start s ps end g c e r q))
        ∙ get_or_at passed (piece_at c at r) (pieces_of (following cs start s ps end g c e r q)) absent i passed_count

    -- what the mark of this column says
    pub plain_here : (m : List ℕ) → PlainMarks release m (walk_body cs start s) → i < 768 → (b : Bool) → b ≡ mark_at m i → b ≡ true → PlainCell release (piece_at c at r)
    plain_here m p l b f t = subst (PlainCell release) piece_here (of_pieces m p i l (sym f ∙ t))

    -- this column is marked, or it is not
    pub plain_more : (m n : List ℕ) → PlainMarks release m (walk_body cs start s) → (b : Bool) → Marks m i b n → (b ≡ true → PlainCell release (piece_at c at r)) → PlainMarks release n (walk_body cs start s)
    plain_more m n p b f t =
        of_walk n (λ k l x. ⊎_elim (λ y. of_pieces m p k l y) (λ y. subst (λ (j : ℕ). PlainCell release (get_or ps j absent)) (sym y.0) (subst (PlainCell release) (sym piece_here) (t y.1))) (f k x))
