-- The text of bytes whose conversion is guessed: they are copied while they are ASCII, and where one is not, code page 037 writes over the copy. Assumes nothing.
use Prim.Native.Nat.{ℕ, zero, suc, ◌+◌, ◌*◌, ◌%◌, ◌≤◌, ◌-◌}
use mathlib.Core.Bool.{Bool, true, false, cond, true≢false, not}
use mathlib.Core.List.{List, [], ◌∷◌, ◌++◌, append-nil}
use mathlib.Core.Path.{◌≡◌, refl, sym, ◌∙◌, ap}
use native.Mathlib.Omega.{arith}
use lib.Dec.{eqb, ltb}
use lib.ListN.{length, take, drop, take-append-drop}
use lib.Seq.{length-take-le, take-length}
use Rattle.std.specs.Prelude.{Option, Some, None}
use Rattle.std.specs.Option.{is_some}
use Rattle.unicode_standard.specs.Ascii.{all_ascii}
use Rattle.unicode_standard.specs.Laws.{AreBytes}
use Rattle.buffer.specs.Buffer.{unreplaced, overwritten}
use Rattle.buffer.proofs.Writing.{Writing, wrote_first, over}
use Rattle.utf.specs.Ascii.{AsciiRun}
use Rattle.utf.proofs.AsciiLaws.{none_high, some_high, run_block, rest}
use Rattle.codepage.proofs.Bound.{ebcdic_least}
use Rattle.conversion.specs.declared.Conversion.{Conversion}
use Rattle.conversion.specs.declared.Conversion.TheVariants.{Plain, Ebcdic037}
use Rattle.conversion.specs.Picked.{named, text_in, replaced_in, converted_in, character_conversion, graphic_conversion}
use Rattle.conversion.specs.Conversion.{is_utf16, characters_by, graphics_by}
use Rattle.conversion.specs.Guess.{guess, guess_text, Guessed}
use Rattle.conversion.proofs.PlainText.{text_bound}
use Rattle.conversion.proofs.Picks.{at_none, characters_by_lem, graphics_by_lem}

-- where a part is not ASCII, the whole is not
later : (x p q : Bool) → (p ≡ false → q ≡ false) → cond x p false ≡ false → cond x q false ≡ false
later true p q f e = f e
later false p q f e = refl

pub part_high : (i n : ℕ) (s : List ℕ) → all_ascii (take n (drop i s)) ≡ false → all_ascii s ≡ false
unfolding all_ascii
part_high zero zero s e = cc
part_high zero (suc n) [] e = e
part_high zero (suc n) (b ∷ s) e = later (ltb b 0x80) (all_ascii (take n s)) (all_ascii s) (part_high zero n s) e
part_high (suc i) zero [] e = e
part_high (suc i) (suc n) [] e = e
part_high (suc i) n (b ∷ s) e = rw (part_high i n s e) (none (ltb b 0x80))
  where
    none : (x : Bool) → cond x false false ≡ false
    none true = refl
    none false = refl

module _ (s : List ℕ) where
  pub as_ascii : all_ascii s ≡ true → guess_text s ≡ s
  unfolding guess_text text_in
  as_ascii e = rw e

  pub as_ebcdic : all_ascii s ≡ false → guess_text s ≡ text_in Ebcdic037 s
  unfolding guess_text
  as_ebcdic e = rw e

  -- the text is no shorter than the bytes
  pub guess_least : AreBytes s → length s ≤ length (guess_text s)
  unfolding text_in
  guess_least h = go (all_ascii s) refl
    where
      go : (x : Bool) → all_ascii s ≡ x → length s ≤ length (guess_text s)
      go true e = rw (as_ascii e) (omega arith)
      go false e = rw (as_ebcdic e) (ebcdic_least s h)

  pub guess_bound : AreBytes s → length (guess_text s) ≤ 3 * length s + 14
  unfolding guess_text
  guess_bound h = text_bound (guess s) s h

-- nothing is replaced
pub guess_unreplaced : (s : List ℕ) → converted_in (guess s) s ≡ unreplaced (guess_text s)
unfolding guess_text text_in replaced_in
guess_unreplaced s = go (all_ascii s)
  where
    go : (x : Bool) → converted_in (cond x Plain Ebcdic037) s ≡ unreplaced (text_in (cond x Plain Ebcdic037) s)
    go true = refl
    go false = refl

-- ---- where the conversion is guessed

pub no_test : {A : Type 0} → ◌≡◌ {A = Bool} true false → A
no_test e = absurd (true≢false e)

never_utf16 : (c n : ℕ) → is_utf16 c 0 ≡ false → is_utf16 c n ≡ false
unfolding is_utf16
never_utf16 c n e = go (cond (eqb c 1200) true (eqb c 13488)) e
  where
    go : (x : Bool) → cond x true false ≡ false → cond x (eqb (n % 2) 0) false ≡ false
    go true e = no_test e
    go false e = refl

pub none_of : (o : Option Conversion) → is_some o ≡ false → o ≡ None
none_of None e = refl
none_of (Some p) e = no_test e

pub is_guess : (release ccsid : ℕ) → named ccsid ≡ None → is_utf16 ccsid 0 ≡ false → ltb release 3 ≡ true → Guessed release ccsid
unfolding graphic_conversion
is_guess release ccsid n u e = record { characters = characters; graphics = λ s. rw (never_utf16 ccsid (length s) u) (characters s) }
  where
    characters : (s : List ℕ) → character_conversion release ccsid s ≡ guess s
    characters s = sym (at_none release ccsid s n) ∙ rw e refl

-- the text of a guess is what the CCSID asks for
module _ (release ccsid : ℕ) (s : List ℕ) (g : Guessed release ccsid) where
  pub guessed_characters : unreplaced (guess_text s) ≡ characters_by release ccsid s
  guessed_characters = sym (guess_unreplaced s) ∙ characters_by_lem release ccsid s (sym (g.characters s))

  pub guessed_graphics : unreplaced (guess_text s) ≡ graphics_by release ccsid s
  guessed_graphics = sym (guess_unreplaced s) ∙ graphics_by_lem release ccsid s (sym (g.graphics s))

-- the first i bytes of s were copied
pub copied : {s d out : List ℕ} {i : ℕ} → Writing s d (drop i s) out i → out ≡ overwritten (take i s) d
copied {s} {d} {out} {i} w = rw (length-take-le i s w.before) w.buffer

-- what is left after n bytes, as it is lent
pub lent_split : (s : List ℕ) (n : ℕ) → drop n s ≡ take (length s - n) (drop n s) ++ []
lent_split s n = sym (append-nil (take (length s - n) (drop n s)) ∙ rest s n)

front : (n : ℕ) (s : List ℕ) → AsciiRun n s → length (take n s) ≡ n
front n s run = length-take-le n s run.fits

-- a run of n bytes of ASCII at the beginning of s was copied into d, which is now out
module _ (s d out : List ℕ) (n : ℕ) (h : AreBytes s) (room : length (guess_text s) ≤ length d) (run : AsciiRun n s) (left : out ≡ overwritten (take n s) d) where
  pub begun : Writing s d (drop n s) out n
  begun = wrote_first s d (omega (arith, guess_least s h)) (take n s) (drop n s) (sym (take-append-drop n s)) out left n (sym (front n s run))

  -- code page 037 is written over it
  pub covered : guess_text s ≡ text_in Ebcdic037 s → {ys : List ℕ} → ys ≡ overwritten (text_in Ebcdic037 s) out → ys ≡ overwritten (text_in Ebcdic037 s) d
  covered e q =
      let k : length (take n s) ≤ length (text_in Ebcdic037 s) = omega (arith, ap length e, guess_least s h, front n s run, run.fits) in
      let m : length (take n s) ≤ length d = omega (arith, guess_least s h, room, front n s run, run.fits) in
      q ∙ ap (overwritten (text_in Ebcdic037 s)) left ∙ over (text_in Ebcdic037 s) (take n s) d k m

-- a look at what is left after that run
module _ (s : List ℕ) (n : ℕ) (run : AsciiRun n s) {high : Bool} (look : high ≡ not (all_ascii (take (length s - n) (drop n s)))) where
  pub high_ebcdic : high ≡ true → guess_text s ≡ text_in Ebcdic037 s
  high_ebcdic e = as_ebcdic s (part_high n (length s - n) s (some_high _ _ look e))

  pub none_ascii : high ≡ false → guess_text s ≡ s
  none_ascii e = let r : AsciiRun (length s) s = run_block n (length s) s run run.fits (omega arith) (none_high _ _ look e) in as_ascii s (rw (take-length s) at r.ascii)
