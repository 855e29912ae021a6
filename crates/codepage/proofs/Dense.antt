-- Writing two bytes for each code point, of which the second is written over where the code point has one: the byte at o, the next to be written, is
-- not the buffer's own any more. `Loose` is buffer's `Writing` but for that byte. Assumes nothing.
use Prim.Native.Nat.{ℕ, ◌+◌, ◌-◌, ◌/◌, ◌%◌, ◌≤◌, ◌<◌}
use mathlib.Core.Bool.{Bool, true, false}
use mathlib.Core.List.{List, [], ◌∷◌, ◌++◌}
use mathlib.Core.Path.{◌≡◌, refl, sym, ap, ◌∙◌}
use native.Mathlib.Omega.{arith}
use native.Mathlib.Nat.{add-zero}
use borrow.Author.Tests.{ltb-true, ltb-false}
use lib.Dec.{ltb}
use lib.ListN.{length, take, drop, get_or, set, length-set, length-drop, length-append, drop_of_length-le}
use lib.Seq.{set-set, set_comm, set-get_or, take-set-le, drop-set-lt, drop-drop, take_all, get_or-drop, get_or-take, length-take-le}
use Rattle.std.proofs.Common.{Fits, w8}
use Rattle.buffer.specs.Buffer.{overwritten}
use Rattle.buffer.proofs.Writing.{Writing, stored, fits, back, wrote_rest}
use Rattle.unicode_standard.specs.Unicode.{utf8}
use Rattle.unicode_standard.proofs.ScalarBytes.{utf8_one, utf8_two}
use Rattle.codepage.specs.CodePage.{byte_text}
use Rattle.codepage.proofs.ByteText.{byte_next, byte_end}
use Rattle.codepage.proofs.Blocks.{small_length, two_left}

pub record Loose (T d rest out : List ℕ) (o : ℕ) : Type 0 where
  pub mended : Writing T d rest (set out o (get_or d o 0)) o

pub loosen : {T d rest out : List ℕ} {o : ℕ} → Writing T d rest out o → Loose T d rest out o
loosen {T} {d} {rest} {out} {o} w =
    let g : get_or d o 0 ≡ get_or out o 0 =
    ap (λ (n : ℕ). get_or d n 0) (sym (add-zero o)) ∙ sym (get_or-drop o d 0 0) ∙ ap (λ (l : List ℕ). get_or l 0 0) (sym (back w)) ∙ get_or-drop o out 0 0 ∙ ap (λ (n : ℕ). get_or out n 0) (add-zero o) in
    record { mended = rw (g, set-get_or out o 0) w }

pub loose_fits : {T d rest out : List ℕ} {o : ℕ} → Loose T d rest out o → o + length rest ≤ length out
loose_fits {T} {d} {rest} {out} {o} w = omega (arith, fits w.mended, length-set out o (get_or d o 0))

-- a code point below 100 is stored
pub loose_step : {T d l out : List ℕ} {o : ℕ} → Loose T d l out o → (v : ℕ) → v < 0x100 → (rest : List ℕ) → l ≡ utf8 v ++ rest
    → (n : ℕ) → n ≡ length (utf8 v) → (b : ℕ) → b ≡ get_or (utf8 v) 0 0 → (p : ℕ) → p ≡ o + 1 → (S : ℕ) → (0x80 ≤ v → S ≡ 0x80 + v % 64)
    → Loose T d rest (set (set out p S) o b) (o + n)
loose_step {T} {d} {l} {out} {o} w v h rest e n z b q p r S second = go (ltb v 0x80) refl
  where
    apart : o + 1 ≡ o → ⊥
    apart k = omega arith

    go : (t : Bool) → ltb v 0x80 ≡ t → Loose T d rest (set (set out p S) o b) (o + n)
    go true k =
        let u : utf8 v ≡ v ∷ [] = utf8_one v (ltb-true v 0x80 k) in
        let x : b ≡ v = q ∙ ap (λ (c : List ℕ). get_or c 0 0) u in
        let y : n ≡ 1 = z ∙ ap length u in
        let w₁ : Loose T d rest (set (set out o (get_or d o 0)) o v) (o + 1) = loosen (stored w.mended v rest (e ∙ ap (λ (c : List ℕ). c ++ rest) u)) in
        let i : set (set (set out (o + 1) S) o v) (o + 1) (get_or d (o + 1) 0) ≡ set (set (set out o (get_or d o 0)) o v) (o + 1) (get_or d (o + 1) 0) =
        rw (set_comm out (o + 1) o S v apart, set-set (set out o v) (o + 1) S (get_or d (o + 1) 0), set-set out o (get_or d o 0) v) in
        rw (x, y, r) (record { mended = rw i w₁.mended })
    go false k =
        let m : 0x80 ≤ v = ltb-false v 0x80 k in
        let u : utf8 v ≡ (0xC0 + v / 64) ∷ S ∷ [] = rw (second m) (utf8_two v m (omega arith)) in
        let x : b ≡ 0xC0 + v / 64 = q ∙ ap (λ (c : List ℕ). get_or c 0 0) u in
        let y : o + n ≡ o + 1 + 1 = omega (arith, ap length u) in
        let w₁ : Writing T d rest (set (set (set out o (get_or d o 0)) o (0xC0 + v / 64)) (o + 1) S) (o + 1 + 1) =
        stored (stored w.mended (0xC0 + v / 64) (S ∷ rest) (e ∙ ap (λ (c : List ℕ). c ++ rest) u)) S rest refl in
        let i : set (set out (o + 1) S) o (0xC0 + v / 64) ≡ set (set (set out o (get_or d o 0)) o (0xC0 + v / 64)) (o + 1) S =
        rw (set_comm out (o + 1) o S (0xC0 + v / 64) apart, set-set out o (get_or d o 0) (0xC0 + v / 64)) in
        rw (x, y, r) (loosen (rw i w₁))

-- the last part is written into the rest of the buffer, from o on
pub loose_rest : {T d l out : List ℕ} {o : ℕ} → Loose T d l out o → (t rest : List ℕ) → l ≡ t ++ rest → 0 < length t
    → (ys : List ℕ) → ys ≡ overwritten t (take (length out - o) (drop o out)) → (n : ℕ) → n ≡ length t
    → Writing T d rest (take o out ++ (ys ++ drop (length out - o) (drop o out))) (o + n)
loose_rest {T} {d} {l} {out} {o} w t rest e h ys q n z =
    let x : ℕ = get_or d o 0 in
    let L : length (set out o x) ≡ length out = length-set out o x in
    let a : take o (set out o x) ≡ take o out = take-set-le o out o x (omega arith) in
    let b : drop (length out - o) (drop o (set out o x)) ≡ drop (length out - o) (drop o out) =
    drop_of_length-le (drop o (set out o x)) {i = length out - o} (omega (arith, length-drop o (set out o x)))
    ∙ sym (drop_of_length-le (drop o out) {i = length out - o} (omega (arith, length-drop o out))) in
    let f : take (length out - o) (drop o out) ≡ drop o out = take_all (length out - o) (drop o out) (omega (arith, length-drop o out)) in
    let g : take (length out - o) (drop o (set out o x)) ≡ drop o (set out o x) = take_all (length out - o) (drop o (set out o x)) (omega (arith, length-drop o (set out o x))) in
    let c : drop (length t) (drop o (set out o x)) ≡ drop (length t) (drop o out) =
    drop-drop (length t) o (set out o x) ∙ drop-set-lt (o + length t) out o x (omega arith) ∙ sym (drop-drop (length t) o out) in
    let y : ys ≡ overwritten t (take (length (set out o x) - o) (drop o (set out o x))) = rw (L, g, c) (q ∙ ap (overwritten t) f) in
    rw (← a, ← b) (rw L at (wrote_rest w.mended t rest e ys y n z))

-- the loop is over all of s but the last byte
pub front_length : (s : List ℕ) → 0 < length s → length (take (length s - 1) s) ≡ length s - 1
front_length s h = length-take-le (length s - 1) s (omega arith)

pub front_point : (f : ℕ → ℕ) (s : List ℕ) (i : ℕ) → i + 1 < length s → f (get_or (take (length s - 1) s) i 0) ≡ f (get_or s i 0)
front_point f s i left = ap f (get_or-take (length s - 1) s i 0 (omega arith))

-- A turn of a loop over the bytes of s, which are code points below 100 by f: the text from i on is still to be written, from o on, and v is the code point at i
module _ (f : ℕ → ℕ) (small : (b : ℕ) → b < 0x100 → f b < 0x100) (s : List ℕ) (fit : (j : ℕ) → Fits w8 (get_or s j 0)) (i : ℕ) {d out : List ℕ} {o : ℕ}
    (w : Loose (byte_text f s) d (byte_text f (drop i s)) out o) where
  bytes : (j : ℕ) → get_or s j 0 < 0x100
  bytes j = omega (arith, fit j)

  pub dense_room : i + 1 < length s → o + 2 ≤ length out
  dense_room left = omega (arith, loose_fits w, two_left f small s i bytes left)

  module _ (left : i + 1 < length s) (v : ℕ) (e : v ≡ f (get_or s i 0)) (n : ℕ) (z : n ≡ length (utf8 v)) where
    low : v < 0x100
    low = rw e (small (get_or s i 0) (bytes i))

    pub dense_few : n ≤ 2
    dense_few = omega (arith, small_length v low, low)

    pub dense_turn : (b : ℕ) → b ≡ get_or (utf8 v) 0 0 → (a : ℕ) → (0x80 ≤ v → a ≡ 0x80 + v % 64)
        → Loose (byte_text f s) d (byte_text f (drop (i + 1) s)) (set (set out (o + 1) a) o b) (o + n)
    dense_turn b q a second =
        let text : byte_text f (drop i s) ≡ utf8 v ++ byte_text f (drop (i + 1) s) = rw e (byte_next f s i (omega arith)) in
        loose_step w v low (byte_text f (drop (i + 1) s)) text n z b q (o + 1) refl a second

  -- the last byte, whose code point is u
  module _ (there : i + 1 ≡ length s) (u : ℕ) (e : u ≡ f (get_or s (length s - 1) 0)) where
    last_text : byte_text f (drop i s) ≡ utf8 u ++ []
    last_text =
        let k : length s - 1 ≡ i = omega arith in
        let x : u ≡ f (get_or s i 0) = e ∙ ap (λ (j : ℕ). f (get_or s j 0)) k in
        byte_next f s i (omega arith) ∙ rw (← x, byte_end f s (i + 1) (omega arith))

    last_some : 0 < length (utf8 u)
    last_some = rw e (omega (arith, small_length (f (get_or s (length s - 1) 0)) (small (get_or s (length s - 1) 0) (bytes (length s - 1)))))

    pub last_fits : length (utf8 u) ≤ length (take (length out - o) (drop o out))
    last_fits =
        omega (arith, loose_fits w, ap length last_text, length-append (utf8 u) [], length-take-le (length out - o) (drop o out) (omega (arith, length-drop o out)))

    -- it was written into the rest of the buffer: ys is what the callee left there
    pub last_turn : (ys : List ℕ) → ys ≡ overwritten (utf8 u) (take (length out - o) (drop o out)) → (n : ℕ) → n ≡ length (utf8 u)
        → Writing (byte_text f s) d [] (take o out ++ (ys ++ drop (length out - o) (drop o out))) (o + n)
    last_turn ys q n z = loose_rest w (utf8 u) [] last_text last_some ys q n z
