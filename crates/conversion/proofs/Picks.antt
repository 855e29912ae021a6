-- What the conversion that is picked makes of bytes is what the CCSID asks for at the release: the text, and the number of U+FFFD put in. Assumes nothing.
use Prim.Native.Nat.{ℕ}
use mathlib.Core.Bool.{Bool, true, false, cond, ◌||◌}
use mathlib.Core.List.{List}
use mathlib.Core.Path.{◌≡◌, refl, sym, ap, ◌∙◌}
use lib.Dec.{eqb, ltb}
use lib.ListN.{length}
use Rattle.std.specs.Prelude.{Option, Some, None}
use Rattle.std.specs.Option.{unwrap_or}
use Rattle.unicode_standard.specs.Ascii.{all_ascii}
use Rattle.buffer.specs.Buffer.{Converted, unreplaced}
use Rattle.conversion.specs.declared.Conversion.{Conversion}
use Rattle.conversion.specs.declared.Conversion.TheVariants.{Plain, Utf8, Latin1, Ebcdic037, Utf16, Locator, RowId}
use Rattle.conversion.specs.Conversion.{is_utf16, character_text, character_text3, graphic_text, from_characters, from_graphics, from_utf8, characters_by, graphics_by, locator_text, row_id_text}
use Rattle.conversion.specs.Picked.{named, text_in, replaced_in, converted_in, character_conversion, graphic_conversion}

-- what holds of both conversions holds of the one that a test picks
tested : {A : Type 0} (f : Conversion → A) (b : Bool) (p q : Conversion) {x y : A} → f p ≡ x → f q ≡ y → f (cond b p q) ≡ cond b x y
tested f true p q e h = e
tested f false p q e h = h

alike : {A : Type 0} (f : Conversion → A) (b : Bool) (p q : Conversion) {x : A} → f p ≡ x → f q ≡ x → f (cond b p q) ≡ x
alike f true p q e h = e
alike f false p q e h = h

-- ---- characters by whether the CCSID names a conversion

named_or : (ccsid : ℕ) (d : Conversion) → unwrap_or (named ccsid) d ≡ cond (eqb ccsid 1208) Utf8 (cond (eqb ccsid 819) Latin1 (cond (eqb ccsid 37) Ebcdic037 (cond (eqb ccsid 500) Ebcdic037 d)))
unfolding named
named_or ccsid d = go (eqb ccsid 1208) (eqb ccsid 819) (eqb ccsid 37) (eqb ccsid 500)
  where
    go : (a b c e : Bool)
        → unwrap_or (cond a (Some Utf8) (cond b (Some Latin1) (cond c (Some Ebcdic037) (cond e (Some Ebcdic037) None)))) d
        ≡ cond a Utf8 (cond b Latin1 (cond c Ebcdic037 (cond e Ebcdic037 d)))
    go true b c e = refl
    go false true c e = refl
    go false false true e = refl
    go false false false true = refl
    go false false false false = refl

module _ (release ccsid : ℕ) (s : List ℕ) where
  by_named : unwrap_or (named ccsid) (cond (ltb release 3) (cond (all_ascii s) Plain Ebcdic037) Ebcdic037) ≡ character_conversion release ccsid s
  unfolding character_conversion
  by_named = named_or ccsid _

  of_option : {o : Option Conversion} → named ccsid ≡ o → unwrap_or o (cond (ltb release 3) (cond (all_ascii s) Plain Ebcdic037) Ebcdic037) ≡ character_conversion release ccsid s
  of_option e = sym (ap (λ (o : Option Conversion). unwrap_or o (cond (ltb release 3) (cond (all_ascii s) Plain Ebcdic037) Ebcdic037)) e) ∙ by_named

  pub at_name : (p : Conversion) → named ccsid ≡ Some p → p ≡ character_conversion release ccsid s
  at_name p e = of_option e

  pub at_none : named ccsid ≡ None → cond (ltb release 3) (cond (all_ascii s) Plain Ebcdic037) Ebcdic037 ≡ character_conversion release ccsid s
  at_none e = of_option e

-- ---- the conversion by CCSID, where a Boolean says whether the release is before 3
abbrev pick : Bool → ℕ → List ℕ → Conversion
pick early ccsid s =
    cond (eqb ccsid 1208) Utf8
    (cond (eqb ccsid 819) Latin1
    (cond (eqb ccsid 37) Ebcdic037
    (cond (eqb ccsid 500) Ebcdic037
    (cond early (cond (all_ascii s) Plain Ebcdic037) Ebcdic037))))

text_before : (ccsid : ℕ) (s : List ℕ) → text_in (pick true ccsid s) s ≡ character_text ccsid s
unfolding text_in character_text
text_before ccsid s =
    let f : Conversion → List ℕ = λ p. text_in p s in
    tested f (eqb ccsid 1208) Utf8 _ refl
    (tested f (eqb ccsid 819) Latin1 _ refl
    (tested f (eqb ccsid 37) Ebcdic037 _ refl
    (tested f (eqb ccsid 500) Ebcdic037 _ refl
    (tested f (all_ascii s) Plain Ebcdic037 refl refl))))

text_since : (ccsid : ℕ) (s : List ℕ) → text_in (pick false ccsid s) s ≡ character_text3 ccsid s
unfolding text_in character_text3
text_since ccsid s =
    let f : Conversion → List ℕ = λ p. text_in p s in
    tested f (eqb ccsid 1208) Utf8 _ refl
    (tested f (eqb ccsid 819) Latin1 _ refl
    (alike f (eqb ccsid 37) Ebcdic037 _ refl
    (alike f (eqb ccsid 500) Ebcdic037 Ebcdic037 refl refl)))

number_picked : (early : Bool) (ccsid : ℕ) (s : List ℕ) → replaced_in (pick early ccsid s) s ≡ (from_characters ccsid s).replaced
unfolding replaced_in
number_picked early ccsid s =
    let f : Conversion → ℕ = λ p. replaced_in p s in
    tested f (eqb ccsid 1208) Utf8 _ refl
    (alike f (eqb ccsid 819) Latin1 _ refl
    (alike f (eqb ccsid 37) Ebcdic037 _ refl
    (alike f (eqb ccsid 500) Ebcdic037 _ refl
    (alike f early _ Ebcdic037 (alike f (all_ascii s) Plain Ebcdic037 refl refl) refl))))

converted : {t u : List ℕ} {m n : ℕ} → t ≡ u → m ≡ n → ◌≡◌ {A = Converted} (record { text_bytes = t; replaced = m }) (record { text_bytes = u; replaced = n })
converted e h = rw (e, h)

characters_picked : (release ccsid : ℕ) (s : List ℕ) → converted_in (character_conversion release ccsid s) s ≡ characters_by release ccsid s
unfolding character_conversion
characters_picked release ccsid s = go (ltb release 3)
  where
    go : (x : Bool) → converted_in (pick x ccsid s) s ≡ cond x (from_characters ccsid s) (record { text_bytes = character_text3 ccsid s; replaced = (from_characters ccsid s).replaced })
    go true = converted (text_before ccsid s) (number_picked true ccsid s)
    go false = converted (text_since ccsid s) (number_picked false ccsid s)

-- graphics: UTF-16, or as characters
of_utf16 : (ccsid : ℕ) (s : List ℕ) → is_utf16 ccsid (length s) ≡ true → converted_in Utf16 s ≡ from_graphics ccsid s
unfolding text_in replaced_in graphic_text
of_utf16 ccsid s e = rw e refl

pub of_characters_lem : (ccsid : ℕ) (s : List ℕ) → is_utf16 ccsid (length s) ≡ false → from_graphics ccsid s ≡ from_characters ccsid s
unfolding graphic_text
of_characters_lem ccsid s e = rw e refl

graphics_picked : (release ccsid : ℕ) (s : List ℕ) → converted_in (graphic_conversion release ccsid s) s ≡ graphics_by release ccsid s
unfolding graphic_conversion
graphics_picked release ccsid s = go (is_utf16 ccsid (length s)) refl
  where
    utf16 : (x : Bool) → is_utf16 ccsid (length s) ≡ true → converted_in Utf16 s ≡ cond (x || true) (from_graphics ccsid s) (characters_by release ccsid s)
    utf16 true e = of_utf16 ccsid s e
    utf16 false e = of_utf16 ccsid s e

    characters : (x : Bool) (y : Converted) → is_utf16 ccsid (length s) ≡ false → cond x (from_characters ccsid s) y ≡ cond (x || false) (from_graphics ccsid s) (cond x (from_characters ccsid s) y)
    characters true y e = sym (of_characters_lem ccsid s e)
    characters false y e = refl

    go : (x : Bool) → is_utf16 ccsid (length s) ≡ x
        → converted_in (cond x Utf16 (character_conversion release ccsid s)) s ≡ cond (ltb release 3 || x) (from_graphics ccsid s) (characters_by release ccsid s)
    go true e = utf16 (ltb release 3) e
    go false e = characters_picked release ccsid s ∙ characters (ltb release 3) _ e

pub utf8_picked : (s : List ℕ) → converted_in Utf8 s ≡ from_utf8 s
unfolding text_in replaced_in
utf8_picked s = refl

pub locator_picked : (s : List ℕ) → converted_in Locator s ≡ unreplaced (locator_text s)
unfolding text_in replaced_in
locator_picked s = refl

pub row_id_picked : (s : List ℕ) → converted_in RowId s ≡ unreplaced (row_id_text s)
unfolding text_in replaced_in
row_id_picked s = refl

pub plain_picked : (s : List ℕ) → converted_in Plain s ≡ unreplaced s
unfolding text_in replaced_in
plain_picked s = refl

-- the same where p is what was picked
pub characters_by_lem : (release ccsid : ℕ) (s : List ℕ) {p : Conversion} → p ≡ character_conversion release ccsid s → converted_in p s ≡ characters_by release ccsid s
characters_by_lem release ccsid s e = ap (λ (p : Conversion). converted_in p s) e ∙ characters_picked release ccsid s

pub graphics_by_lem : (release ccsid : ℕ) (s : List ℕ) {p : Conversion} → p ≡ graphic_conversion release ccsid s → converted_in p s ≡ graphics_by release ccsid s
graphics_by_lem release ccsid s e = ap (λ (p : Conversion). converted_in p s) e ∙ graphics_picked release ccsid s
