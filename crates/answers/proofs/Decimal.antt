-- The digits of a number as it is printed: they are its last ones, and all of them. And one digit more of a number that is read. Assumes nothing.
use Prim.Native.Nat.{ℕ, suc, ◌+◌, ◌*◌, ◌/◌, ◌%◌, ◌^◌, ◌<◌, ◌≤◌}
use mathlib.Core.Bool.{Bool, cond}
use mathlib.Core.List.{List, [], ◌∷◌, ◌++◌}
use mathlib.Core.Path.{◌≡◌, sym, ap, ◌∙◌, subst}
use native.Mathlib.Omega.{arith}
use native.Mathlib.Nat.{pow-suc}
use native.Mathlib.Numerals.{add-one}
use borrow.Author.Tests.{lt-ltb}
use lib.ListN.{length, length-append, take, get_or}
use lib.Seq.{take-suc}
use Rattle.io.specs.Digits.{last_digits, hex_digit_ascii}
use Rattle.std.specs.Prelude.{decimal}
use Rattle.std.proofs.lemmas.Fmt.{decimal_by_steps}
use Rattle.answers.specs.Lines.{IsNumber}

glyph_is : (d : ℕ) → d < 10 → hex_digit_ascii d ≡ 48 + d
glyph_is d small = ap (λ (t : Bool). cond t (48 + d) (87 + d)) (lt-ltb d 10 small)

pub read_digit : (s : List ℕ) (i n d : ℕ) → i < length s → d < 10 → 48 + d ≡ get_or s i 0 → last_digits 10 i n ≡ take i s → last_digits 10 (i + 1) (n * 10 + d) ≡ take (i + 1) s
read_digit s i n d there small here so_far =
    let whole : (n * 10 + d) / 10 ≡ n = omega arith in
    let last : (n * 10 + d) % 10 ≡ d = omega arith in
    ap (λ (k : ℕ). last_digits 10 k (n * 10 + d)) (add-one i)
    ∙ ap (λ (m : ℕ). last_digits 10 i m ++ (hex_digit_ascii ((n * 10 + d) % 10) ∷ [])) whole
    ∙ ap (λ (m : ℕ). last_digits 10 i n ++ (hex_digit_ascii m ∷ [])) last
    ∙ ap (λ (x : ℕ). last_digits 10 i n ++ (x ∷ [])) (glyph_is d small ∙ here)
    ∙ ap (λ (t : List ℕ). t ++ (get_or s i 0 ∷ [])) so_far
    ∙ sym (ap (λ (k : ℕ). take k s) (add-one i) ∙ take-suc s i 0 there)

one_digit : (n : ℕ) → n < 10 → IsNumber ((48 + n) ∷ []) n
one_digit n small =
    let last : n % 10 ≡ n = omega arith in
    (ap (λ (d : ℕ). hex_digit_ascii d ∷ []) last ∙ ap (λ (x : ℕ). x ∷ []) (glyph_is n small), omega arith)

next_digit : (n : ℕ) (ds : List ℕ) → 10 ≤ n → IsNumber ds (n / 10) → IsNumber (ds ++ ((48 + n % 10) ∷ [])) n
next_digit n ds large (digits, below) =
    let longer : length (ds ++ ((48 + n % 10) ∷ [])) ≡ suc (length ds) = length-append ds ((48 + n % 10) ∷ []) ∙ add-one (length ds) in
    let more : 10 ^ length (ds ++ ((48 + n % 10) ∷ [])) ≡ 10 ^ length ds * 10 = ap (λ (k : ℕ). 10 ^ k) longer ∙ pow-suc 10 (length ds) in (
      ap (λ (k : ℕ). last_digits 10 k n) longer
          ∙ ap (λ (t : List ℕ). t ++ (hex_digit_ascii (n % 10) ∷ [])) digits
          ∙ ap (λ (x : ℕ). ds ++ (x ∷ [])) (glyph_is (n % 10) (omega arith)),
      omega (arith, more),
    )

pub printed_number : (n : ℕ) (s : List ℕ) → n < 2 ^ 64 → decimal n ≡ s → IsNumber s n
printed_number n s small e = subst (λ (t : List ℕ). IsNumber t n) e (decimal_by_steps (λ (m : ℕ) (ds : List ℕ). IsNumber ds m) one_digit next_digit n small)
