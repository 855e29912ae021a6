-- Blocks of a text with one code point a byte, and their bytes from 80 on. Assumes nothing.
use Prim.Native.Nat.{ℕ, suc, ◌+◌, ◌-◌, ◌/◌, ◌≤◌, ◌<◌}
use mathlib.Core.Bool.{Bool, true, false}
use mathlib.Core.List.{List, [], ◌∷◌, ◌++◌, append_assoc}
use mathlib.Core.Path.{◌≡◌, refl, sym, ap, ◌∙◌}
use native.Mathlib.Omega.{arith}
use borrow.Author.Tests.{ltb-true, ltb-false}
use lib.Dec.{ltb}
use lib.ListN.{length, take, drop, get_or, length-append, take-append-drop}
use lib.Seq.{drop-drop}
use Rattle.unicode_standard.specs.Unicode.{utf8, pieces_text, piece_text}
use Rattle.unicode_standard.proofs.ScalarBytes.{utf8_one, utf8_two}
use Rattle.buffer.proofs.Writing.{next}
use Rattle.codepage.specs.CodePage.{byte_pieces, byte_text, code_point819}
use Rattle.codepage.specs.Blocks.{highs}
use Rattle.codepage.proofs.ByteText.{byte_length}

-- ---- a block, and the text after it

pub byte_append : (f : ℕ → ℕ) (a b : List ℕ) → byte_text f (a ++ b) ≡ byte_text f a ++ byte_text f b
unfolding byte_text byte_pieces pieces_text piece_text
byte_append f [] b = refl
byte_append f (x ∷ a) b = ap (λ (l : List ℕ). utf8 (f x) ++ l) (byte_append f a b) ∙ sym (append_assoc (utf8 (f x)) (byte_text f a) (byte_text f b))

pub highs_append : (a b : List ℕ) → highs (a ++ b) ≡ highs a + highs b
unfolding highs
highs_append [] b = sym (omega arith)
highs_append (x ∷ a) b = omega (arith, highs_append a b)

module _ (s : List ℕ) (i e : ℕ) (h : i ≤ e) where
  pub block : drop i s ≡ take (e - i) (drop i s) ++ drop e s
  block =
      let k : i + (e - i) ≡ e = omega arith in
      sym (take-append-drop (e - i) (drop i s)) ∙ ap (λ (l : List ℕ). take (e - i) (drop i s) ++ l) (drop-drop (e - i) i s ∙ ap (λ (n : ℕ). drop n s) k)

  pub block_text : (f : ℕ → ℕ) → byte_text f (drop i s) ≡ byte_text f (take (e - i) (drop i s)) ++ byte_text f (drop e s)
  block_text f = ap (byte_text f) block ∙ byte_append f (take (e - i) (drop i s)) (drop e s)

  pub block_highs : highs (drop i s) ≡ highs (take (e - i) (drop i s)) + highs (drop e s)
  block_highs = ap highs block ∙ highs_append (take (e - i) (drop i s)) (drop e s)

-- ---- the bytes from 80 on

pub small_length : (v : ℕ) → v < 0x100 → length (utf8 v) ≡ 1 + v / 128
small_length v h = go (ltb v 0x80) refl
  where
    go : (t : Bool) → ltb v 0x80 ≡ t → length (utf8 v) ≡ 1 + v / 128
    go true e = let k : v < 0x80 = ltb-true v 0x80 e in ap length (utf8_one v k) ∙ omega arith
    go false e = let k : 0x80 ≤ v = ltb-false v 0x80 e in ap length (utf8_two v k (omega arith)) ∙ omega arith

-- a text's length, of bytes below 100
pub text_length_lem : (s : List ℕ) → ((i : ℕ) → get_or s i 0 < 0x100) → length (byte_text code_point819 s) ≡ length s + highs s
unfolding byte_text byte_pieces pieces_text piece_text highs
text_length_lem [] h = refl
text_length_lem (b ∷ s) h =
    length-append (utf8 b) (byte_text code_point819 s) ∙ omega (arith, small_length b (h 0), text_length_lem s (λ i. h (suc i)))

-- two bytes of text at least, where two bytes are left
pub two_left : (f : ℕ → ℕ) → ((b : ℕ) → b < 0x100 → f b < 0x100) → (s : List ℕ) (i : ℕ) → ((j : ℕ) → get_or s j 0 < 0x100) → i + 1 < length s
    → 2 ≤ length (byte_text f (drop i s))
two_left f small s i h k =
    omega
    (arith, byte_length f s i (omega arith), byte_length f s (i + 1) k, small_length (f (get_or s i 0)) (small (get_or s i 0) (h i)), small_length (f (get_or s (i + 1) 0)) (small (get_or s (i + 1) 0) (h (i + 1))))

-- where no byte is 80 or above, the bytes are their text
pub plain_text : (s : List ℕ) → highs s ≡ 0 → byte_text code_point819 s ≡ s
unfolding byte_text byte_pieces pieces_text piece_text highs
plain_text [] e = refl
plain_text (b ∷ s) e =
    let k : b < 0x80 = omega arith in
    ap (λ (l : List ℕ). l ++ byte_text code_point819 s) (utf8_one b k) ∙ ap (λ (l : List ℕ). b ∷ l) (plain_text s (omega arith))

pub highs_next : (s : List ℕ) (i : ℕ) → i < length s → highs (drop i s) ≡ get_or s i 0 / 128 + highs (drop (i + 1) s)
unfolding highs
highs_next s i h = rw (next s i h)

pub highs_most : (s : List ℕ) → ((i : ℕ) → get_or s i 0 < 0x100) → highs s ≤ length s
unfolding highs
highs_most [] h = omega arith
highs_most (b ∷ s) h = omega (arith, h 0, highs_most s (λ i. h (suc i)))
