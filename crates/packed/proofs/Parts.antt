-- The parts of a text, written one after the other. Assumes nothing.
use Prim.Native.Nat.{ℕ, ◌+◌, ◌-◌, ◌*◌, ◌<◌, ◌≤◌}
use mathlib.Core.List.{List, [], ◌∷◌, ◌++◌, append-nil}
use mathlib.Core.Path.{◌≡◌, refl, sym, ap, ◌∙◌}
use native.Mathlib.Omega.{arith}
use lib.ListN.{length, take, drop, set, length-append}
use lib.Seq.{slice}
use Rattle.buffer.specs.Buffer.{overwritten}
use Rattle.buffer.proofs.Writing.{Writing, start, stored, wrote_first, wrote_rest, all, end}
use Rattle.packed.specs.Packed.{sign_text, digit_text, trimmed, zeros, fraction, decimal_text}
use Rattle.packed.proofs.Nibbles.{digits_length, slice_split, some_fraction, parts}

-- the last part, C, was written into the unwritten rest: the whole text is written
pub last_part : {T d C out : List ℕ} {o : ℕ} → Writing T d C out o → {ys : List ℕ} → ys ≡ overwritten C (take (length out - o) (drop o out))
    → {n : ℕ} → n ≡ length C → (o + n ≡ length T) × (take o out ++ (ys ++ drop (length out - o) (drop o out)) ≡ overwritten T d)
last_part w {ys} q {n} z = let l = wrote_rest w _ [] (sym (append-nil _)) ys q n z in (all l refl, end l refl)

-- the fraction of f digits is what is left of the text of s, once ys, of the length n, was written at o
abbrev pub WroteWhole : ℕ → ℕ → List ℕ → List ℕ → List ℕ → ℕ → List ℕ → ℕ → Type 0
WroteWhole scale f s d out o ys n = Writing (decimal_text scale s) d (fraction f (digit_text s)) (take o out ++ (ys ++ drop (length out - o) (drop o out))) (o + n)

-- ---- the text: the sign, the whole part of w digits, the fraction
module _ (scale : ℕ) (s d : List ℕ) {f w : ℕ} (room : length (decimal_text scale s) ≤ length d) (e : f ≡ scale) (h : w ≡ (2 * length s - 1) - f) where
  pub sign_fits : length (sign_text s) ≤ length d
  sign_fits = omega (arith, ap length (parts scale s w f e h), length-append (sign_text s) (trimmed (take w (digit_text s)) ++ fraction f (digit_text s)), room)

  pub after_sign : {out : List ℕ} → out ≡ overwritten (sign_text s) d → {o : ℕ} → o ≡ length (sign_text s)
      → Writing (decimal_text scale s) d (trimmed (take w (digit_text s)) ++ fraction f (digit_text s)) out o
  after_sign q z = wrote_first _ d room _ _ (parts scale s w f e h) _ q _ z

  pub after_whole : {out : List ℕ} → out ≡ overwritten (sign_text s) d → {o : ℕ} → o ≡ length (sign_text s)
      → {ys : List ℕ} → ys ≡ overwritten (trimmed (take w (digit_text s))) (take (length out - o) (drop o out)) → {n : ℕ} → n ≡ length (trimmed (take w (digit_text s)))
      → WroteWhole scale f s d out o ys n
  after_whole q z r y = wrote_rest (after_sign q z) _ _ refl _ r _ y

-- the digits that there are is what is left of the fraction, once the point and the zeros ys, n of them, were written
abbrev pub WroteZeros : ℕ → List ℕ → List ℕ → List ℕ → ℕ → Type 0
WroteZeros scale s d ys n =
    Writing (fraction scale (digit_text s)) d (slice (2 * length s - 1 - scale) (2 * length s - 1) (digit_text s)) (take 1 (set d 0 0x2E) ++ (ys ++ drop (length (set d 0 0x2E) - 1) (drop 1 (set d 0 0x2E)))) (1 + n)

-- ---- the fraction: the point, zeros, the digits that there are
module _ (scale : ℕ) (s d : List ℕ) (room : length (fraction scale (digit_text s)) ≤ length d) (some : scale ≡ 0 → ⊥) where
  point : fraction scale (digit_text s) ≡ 0x2E ∷ (zeros (scale - (2 * length s - 1)) ++ slice (2 * length s - 1 - scale) (2 * length s - 1) (digit_text s))
  point = some_fraction scale (digit_text s) (2 * length s - 1) (digits_length s) some

  pub point_fits : 0 < length d
  point_fits = omega (arith, ap length point, room)

  pub after_point : {z : ℕ} → z ≡ scale - (2 * length s - 1)
      → Writing (fraction scale (digit_text s)) d (zeros z ++ slice (2 * length s - 1 - scale) (2 * length s - 1) (digit_text s)) (set d 0 0x2E) 1
  after_point e = stored (start _ d room) 0x2E _ (rw e point)

  pub after_zeros : {z : ℕ} → z ≡ scale - (2 * length s - 1) → {ys : List ℕ} → ys ≡ overwritten (zeros z) (take (length (set d 0 0x2E) - 1) (drop 1 (set d 0 0x2E))) → {n : ℕ} → n ≡ length (zeros z)
      → WroteZeros scale s d ys n
  after_zeros e r y = wrote_rest (after_point e) _ _ refl _ r _ y

-- ---- a run of digits in three: those before the byte i, those of whole bytes, and those from the byte j on
module _ (s d : List ℕ) (a i j e : ℕ) (room : length (slice a e (digit_text s)) ≤ length d) (h : a ≤ 2 * i) (k : 2 * i ≤ 2 * j) (l : 2 * j ≤ e) (q : e < 2 * length s) where
  pub after_first : {out : List ℕ} → out ≡ overwritten (slice a (2 * i) (digit_text s)) d → {o : ℕ} → o ≡ length (slice a (2 * i) (digit_text s))
      → Writing (slice a e (digit_text s)) d (slice (2 * i) (2 * j) (digit_text s) ++ slice (2 * j) e (digit_text s)) out o
  after_first g z =
      let n : e ≤ length (digit_text s) = omega (arith, digits_length s) in
      let text = slice_split (digit_text s) a (2 * i) e h (omega arith) n ∙ ap (λ (x : List ℕ). slice a (2 * i) (digit_text s) ++ x) (slice_split (digit_text s) (2 * i) (2 * j) e k l n) in
      wrote_first _ d room _ _ text _ g _ z
