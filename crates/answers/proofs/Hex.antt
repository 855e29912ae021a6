-- Bytes read from upper-case hexadecimal: a byte from two digits, and one byte more. Assumes nothing.
use Prim.Native.Nat.{ℕ, suc, ◌+◌, ◌-◌, ◌*◌, ◌/◌, ◌%◌, ◌<◌, ◌≤◌}
use mathlib.Core.List.{List, [], ◌∷◌, ◌++◌, append_assoc}
use mathlib.Core.Path.{◌≡◌, refl, sym, ap, ◌∙◌}
use native.Mathlib.Omega.{arith}
use native.Mathlib.Numerals.{add-one}
use lib.ListN.{length, take, get_or, set, replicate, length-replicate}
use lib.Seq.{take-suc, take-suc-set, take_at, length-take-le}
use Rattle.std.specs.Prelude.{Option, None, Some, IfSome}
use Rattle.conversion.specs.Hex.{hex_digit, hex_text}
use Rattle.answers.specs.Lines.{bytes_field}

pub pair : (h l : ℕ) {a b : ℕ} → l < 16 → hex_digit h ≡ a → hex_digit l ≡ b → (hex_digit ((16 * h + l) / 16) ≡ a) × (hex_digit ((16 * h + l) % 16) ≡ b)
pair h l small high low =
    let p : (16 * h + l) / 16 ≡ h = omega arith in
    let q : (16 * h + l) % 16 ≡ l = omega arith in
    (ap hex_digit p ∙ high, ap hex_digit q ∙ low)

more : (s : List ℕ) (b : ℕ) → hex_text (s ++ (b ∷ [])) ≡ hex_text s ++ (hex_digit (b / 16) ∷ hex_digit (b % 16) ∷ [])
unfolding hex_text
more [] b = refl
more (a ∷ s) b = ap (λ (t : List ℕ). hex_digit (a / 16) ∷ hex_digit (a % 16) ∷ t) (more s b)

two : (s : List ℕ) (n : ℕ) → n + 1 < length s → take (n + 2) s ≡ take n s ++ (get_or s n 0 ∷ get_or s (n + 1) 0 ∷ [])
two s n h =
    let p : n + 2 ≡ suc (n + 1) = omega arith in
    let first : n < length s = omega arith in
    ap (λ (k : ℕ). take k s) p ∙ take-suc s (n + 1) 0 h
    ∙ ap (λ (t : List ℕ). t ++ (get_or s (n + 1) 0 ∷ [])) (ap (λ (k : ℕ). take k s) (add-one n) ∙ take-suc s n 0 first)
    ∙ append_assoc (take n s) (get_or s n 0 ∷ []) (get_or s (n + 1) 0 ∷ [])

-- the bytes out, read from the first digits of s, and one byte more
pub read_next : (s out : List ℕ) (i b : ℕ) → i < length out → 2 * i + 1 < length s → hex_text (take i out) ≡ take (2 * i) s
    → (hex_digit (b / 16) ≡ get_or s (2 * i) 0) × (hex_digit (b % 16) ≡ get_or s (2 * i + 1) 0)
    → hex_text (take (i + 1) (set out i b)) ≡ take (2 * (i + 1)) s
read_next s out i b room there so_far (high, low) =
    let p : 2 * (i + 1) ≡ 2 * i + 2 = omega arith in
    ap (λ (k : ℕ). hex_text (take k (set out i b))) (add-one i)
    ∙ ap hex_text (take-suc-set out i b room)
    ∙ more (take i out) b
    ∙ ap (λ (t : List ℕ). t ++ (hex_digit (b / 16) ∷ hex_digit (b % 16) ∷ [])) so_far
    ∙ ap (λ (x : ℕ). take (2 * i) s ++ (x ∷ hex_digit (b % 16) ∷ [])) high
    ∙ ap (λ (x : ℕ). take (2 * i) s ++ (get_or s (2 * i) 0 ∷ x ∷ [])) low
    ∙ sym (ap (λ (k : ℕ). take k s) p ∙ two s (2 * i) there)

-- the byte of two digits alone
pub read_pair : (s : List ℕ) (b : ℕ) → length s ≡ 2 → (hex_digit (b / 16) ≡ get_or s 0 0) × (hex_digit (b % 16) ≡ get_or s 1 0) → hex_text (b ∷ []) ≡ s
unfolding hex_text
read_pair [] b l e = let n : ◌≡◌ {A = ℕ} 0 2 = l in absurd (omega arith)
read_pair (x ∷ []) b l e = let n : ◌≡◌ {A = ℕ} 1 2 = l in absurd (omega arith)
read_pair (x ∷ y ∷ []) b l (high, low) = ap (λ (h : ℕ). h ∷ hex_digit (b % 16) ∷ []) high ∙ ap (λ (h : ℕ). x ∷ h ∷ []) low
read_pair (x ∷ y ∷ z ∷ s) b l e = let n : suc (suc (suc (length s))) ≡ 2 = l in absurd (omega arith)

-- a part of n bytes, all made the same, is what then stands first
pub first_bytes : (n b : ℕ) (out f rest : List ℕ) → n ≤ length out → f ≡ replicate (length (take (n - 0) out)) b → take n (f ++ rest) ≡ replicate n b
first_bytes n b out f rest room same =
    let whole : n - 0 ≡ n = omega arith in
    let count : length (take (n - 0) out) ≡ n = ap (λ (k : ℕ). length (take k out)) whole ∙ length-take-le n out room in
    ap (λ (t : List ℕ). take n (t ++ rest)) (same ∙ ap (λ (k : ℕ). replicate k b) count) ∙ take_at (replicate n b) rest n (length-replicate n b)

-- digits are a field of bytes where there is one
pub as_field : (t : List ℕ) {s : List ℕ} → (length s ≡ 0 → ⊥) → hex_text t ≡ s → bytes_field t ≡ s
unfolding hex_text bytes_field
as_field [] there e = absurd (there (sym (ap length e)))
as_field (b ∷ t) there e = e

pub as_some_field : (r : Option ℕ) (out s : List ℕ) → (length s ≡ 0 → ⊥) → IfSome r (λ n. hex_text (take n out) ≡ s) → IfSome r (λ n. bytes_field (take n out) ≡ s)
as_some_field None out s there e = e
as_some_field (Some n) out s there e = as_field (take n out) there e
