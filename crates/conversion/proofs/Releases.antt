-- The laws of specs/Releases.antt: what the host's release changes of a text. Assumes nothing.
use Prim.Native.Nat.{ℕ, zero, suc}
use mathlib.Core.Bool.{Bool, true, false, cond, ◌||◌, true≢false}
use mathlib.Core.List.{List, ◌∷◌, ◌++◌}
use mathlib.Core.Path.{◌≡◌, refl, sym, ap, ap₂, ◌∙◌}
use lib.Dec.{eqb, ltb}
use lib.ListN.{length, replicate}
use Rattle.buffer.specs.Buffer.{Converted, unreplaced}
use Rattle.unicode_standard.specs.Unicode.{piece_text, pieces_text, utf8}
use Rattle.unicode_standard.specs.Ascii.{all_ascii}
use Rattle.codepage.specs.CodePage.{table037, code_point037, byte_pieces, byte_text}
use Rattle.codepage.proofs.Blocks.{byte_append}
use Rattle.conversion.specs.Conversion.{is_utf16, character_text, from_characters, from_graphics, character_text3, characters_by, graphics_by}
use Rattle.conversion.specs.Releases.{is_named, ccsid_by, graphic_ccsid_by, Releases}
use Rattle.conversion.proofs.Picks.{of_characters_lem}

-- ---- one CCSID by its four tests

module _ (c : ℕ) where
  -- what holds for each named CCSID and for every other holds
  pub by_name : {A : Type 0} → (eqb c 1208 ≡ true → A) → (eqb c 1208 ≡ false → eqb c 819 ≡ true → A) → (eqb c 1208 ≡ false → eqb c 819 ≡ false → eqb c 37 ≡ true → A)
      → (eqb c 1208 ≡ false → eqb c 819 ≡ false → eqb c 37 ≡ false → eqb c 500 ≡ true → A) → (eqb c 1208 ≡ false → eqb c 819 ≡ false → eqb c 37 ≡ false → eqb c 500 ≡ false → A) → A
  by_name {A} utf latin e037 e500 none = at1208 (eqb c 1208) refl
    where
      at500 : (x : Bool) → eqb c 500 ≡ x → eqb c 1208 ≡ false → eqb c 819 ≡ false → eqb c 37 ≡ false → A
      at500 true e h i j = e500 h i j e
      at500 false e h i j = none h i j e

      at37 : (x : Bool) → eqb c 37 ≡ x → eqb c 1208 ≡ false → eqb c 819 ≡ false → A
      at37 true e h i = e037 h i e
      at37 false e h i = at500 (eqb c 500) refl h i e

      at819 : (x : Bool) → eqb c 819 ≡ x → eqb c 1208 ≡ false → A
      at819 true e h = latin h e
      at819 false e h = at37 (eqb c 37) refl h e

      at1208 : (x : Bool) → eqb c 1208 ≡ x → A
      at1208 true e = utf e
      at1208 false e = at819 (eqb c 819) refl e

-- ---- from release 3 on

abbrev characters_since : ℕ → List ℕ → Converted
characters_since c s = record { text_bytes = character_text3 c s; replaced = (from_characters c s).replaced }

-- the text is release 2's by another CCSID
since_as : (c : ℕ) (s : List ℕ) → characters_since c s ≡ from_characters (cond (is_named c) c 37) s
unfolding character_text character_text3
since_as c s =
    by_name c
    (λ e. simp (e))
    (λ e f. simp (e, f))
    (λ e f g. simp (e, f, g))
    (λ e f g h. simp (e, f, g, h))
    (λ e f g h. simp (e, f, g, h))

pub characters_as : (release c : ℕ) (s : List ℕ) → characters_by release c s ≡ from_characters (ccsid_by release c) s
characters_as release c s = go (ltb release 3)
  where
    go : (x : Bool) → cond x (from_characters c s) (characters_since c s) ≡ from_characters (cond (x || is_named c) c 37) s
    go true = refl
    go false = since_as c s

-- what is not UTF-16 is not by a CCSID that stands in either
plain_utf16 : (c n : ℕ) → is_utf16 c n ≡ false → (x : Bool) → is_utf16 (cond x c 37) n ≡ false
unfolding is_utf16
plain_utf16 c n e true = e
plain_utf16 c n e false = refl

pub graphics_as : (release c : ℕ) (s : List ℕ) → graphics_by release c s ≡ from_graphics (graphic_ccsid_by release c (length s)) s
graphics_as release c s = go (is_utf16 c (length s)) refl
  where
    either : (x : Bool) (g : Converted) → cond (x || true) g (characters_by release c s) ≡ g
    either true g = refl
    either false g = refl

    characters : (x : Bool) → is_utf16 c (length s) ≡ false
        → cond (x || false) (from_graphics c s) (cond x (from_characters c s) (characters_since c s)) ≡ cond x (from_characters c s) (characters_since c s)
    characters true e = of_characters_lem c s e
    characters false e = refl

    go : (x : Bool) → is_utf16 c (length s) ≡ x
        → cond (ltb release 3 || x) (from_graphics c s) (characters_by release c s) ≡ from_graphics (cond x c (ccsid_by release c)) s
    go true e = either (ltb release 3) (from_graphics c s)
    go false e =
        characters (ltb release 3) e
        ∙ (characters_as release c s ∙ sym (of_characters_lem (ccsid_by release c) s (plain_utf16 c (length s) e (ltb release 3 || is_named c))))

-- ---- a named CCSID, and an unnamed one

named_as : (c : ℕ) (s : List ℕ) → is_named c ≡ true → characters_by 3 c s ≡ characters_by 2 c s
named_as c s e = characters_as 3 c s ∙ ap (λ (x : Bool). from_characters (cond x c 37) s) e

unnamed_as : (c : ℕ) (s : List ℕ) → is_named c ≡ false → characters_by 3 c s ≡ unreplaced (byte_text code_point037 s)
unfolding character_text
unnamed_as c s e = characters_as 3 c s ∙ ap (λ (x : Bool). from_characters (cond x c 37) s) e

before_as : (c : ℕ) (s : List ℕ) → is_named c ≡ false → all_ascii s ≡ true → characters_by 2 c s ≡ unreplaced s
unfolding character_text
before_as c s e a =
    by_name c
    (λ f. absurd_named (simp (f)))
    (λ f g. absurd_named (simp (f, g)))
    (λ f g h. absurd_named (simp (f, g, h)))
    (λ f g h i. absurd_named (simp (f, g, h, i)))
    (λ f g h i. simp (f, g, h, i, a))
  where
    absurd_named : is_named c ≡ true → characters_by 2 c s ≡ unreplaced s
    absurd_named f = absurd (true≢false (sym f ∙ e))

high_as : (c : ℕ) (s : List ℕ) → all_ascii s ≡ false → characters_by 3 c s ≡ characters_by 2 c s
unfolding character_text character_text3
high_as c s a =
    by_name c
    (λ e. simp (e))
    (λ e f. simp (e, f))
    (λ e f g. simp (e, f, g))
    (λ e f g h. simp (e, f, g, h))
    (λ e f g h. simp (e, f, g, h, a))

joined : (c : ℕ) (s t : List ℕ) → is_named c ≡ false → characters_by 3 c (s ++ t) ≡ unreplaced ((characters_by 3 c s).text_bytes ++ (characters_by 3 c t).text_bytes)
joined c s t e =
    unnamed_as c (s ++ t) e
    ∙ ap unreplaced (byte_append code_point037 s t ∙ ap₂ (λ (x y : Converted). x.text_bytes ++ y.text_bytes) (sym (unnamed_as c s e)) (sym (unnamed_as c t e)))

-- ---- graphics

-- they are UTF-16 at both releases, or as characters are
graphics_both : (c : ℕ) (s : List ℕ) → (is_utf16 c (length s) ≡ false → characters_by 3 c s ≡ characters_by 2 c s) → graphics_by 3 c s ≡ graphics_by 2 c s
graphics_both c s h = go (is_utf16 c (length s)) refl
  where
    go : (x : Bool) → is_utf16 c (length s) ≡ x → cond x (from_graphics c s) (characters_by 3 c s) ≡ from_graphics c s
    go true e = refl
    go false e = h e ∙ sym (of_characters_lem c s e)

graphics_named_lem : (c : ℕ) (s : List ℕ) → (is_utf16 c (length s) || is_named c) ≡ true → graphics_by 3 c s ≡ graphics_by 2 c s
graphics_named_lem c s h = graphics_both c s (λ e. named_as c s (sym (ap (λ (x : Bool). x || is_named c) e) ∙ h))

graphics_high_lem : (c : ℕ) (s : List ℕ) → all_ascii s ≡ false → graphics_by 3 c s ≡ graphics_by 2 c s
graphics_high_lem c s h = graphics_both c s (λ e. high_as c s h)

blanks037 : (n : ℕ) → byte_text code_point037 (replicate n 0x40) ≡ replicate n 0x20
unfolding byte_text byte_pieces pieces_text piece_text code_point037 table037 utf8
blanks037 zero = refl
blanks037 (suc n) = ap (λ (t : List ℕ). 0x20 ∷ t) (blanks037 n)

all_ascii_lem : (n : ℕ) → all_ascii (replicate n 0x40) ≡ true
unfolding all_ascii
all_ascii_lem zero = refl
all_ascii_lem (suc n) = all_ascii_lem n

pub releases : Releases
releases = record {
  characters2 = λ c s. refl;
  graphics2 = λ c s. refl;
  characters3 = λ c s. characters_as 3 c s;
  graphics3 = λ c s. graphics_as 3 c s;
  characters_named = named_as;
  graphics_named = graphics_named_lem;
  characters_high = high_as;
  graphics_high = graphics_high_lem;
  parts = joined;
  blanks3 = λ c n e. unnamed_as c (replicate n 0x40) e ∙ ap unreplaced (blanks037 n);
  blanks2 = λ c n e. before_as c (replicate n 0x40) e (all_ascii_lem n);
}
