-- The laws of specs/Laws.antt. Assumes nothing.
use Prim.Native.Nat.{ℕ, zero, suc, ◌+◌, ◌*◌, ◌≤◌, ◌<◌}
use mathlib.Core.Bool.{Bool, true, false, cond}
use mathlib.Core.List.Memᴰ
use mathlib.Core.List.{List, [], ◌∷◌, ◌++◌, append-nil, append_assoc, map, flatten}
use mathlib.Core.Logic.{inl}
use mathlib.Core.Path.{◌≡◌, refl, sym, ap, subst, ◌∙◌}
use native.Mathlib.Omega.{arith}
use borrow.Author.Tests.{ltb-true, le-leb}
use lib.Dec.{ltb}
use lib.ListN.{length, take, drop, get_or, take-append-drop}
use Rattle.unicode_standard.specs.Ascii.{all_ascii}
use Rattle.unicode_standard.specs.Unicode.{Piece, scalar, malformed, is_scalar_value, within, utf8, replacement, piece_text, pieces_text, replacements, First, read_from, first_of, utf8_pieces, utf8_text, utf16, big_endian, units, unit_of, utf16_pieces, utf16_text}
use Rattle.unicode_standard.specs.Laws.{ScalarValues, WellFormed, Utf8Form, Utf16Form, AreBytes, replacement_characters, Texts}
use Rattle.unicode_standard.proofs.Reading.{read_most}
use Rattle.unicode_standard.proofs.Forms.{Leads, nil_well_formed, cons_well_formed, back, back_all, is_maximal, Scalars, read_scalars, scalars_well_formed}
use Rattle.unicode_standard.proofs.ScalarBytes.{utf8_one}
use Rattle.unicode_standard.proofs.Utf8Bytes as u8
use Rattle.unicode_standard.proofs.Utf16Units as u16

pub utf8_form : Utf8Form
utf8_form = record {
  read_back = back utf8 first_of u8.leads;
  encoded = λ b bs v h e. u8.first_read b bs v e;
  maximal = λ b bs e. is_maximal utf8 first_of u8.leads b bs e (first_of b bs).more (u8.first_short b bs) (u8.first_begins b bs) (u8.first_longest b bs);
}

pub utf16_form : Utf16Form
utf16_form = record {
  read_back = back utf16 unit_of u16.leads;
  encoded = u16.unit_read;
  maximal = λ u us e.
      let z : (unit_of u us).more ≡ 0 = u16.unit_bad u us e in
      rw z (is_maximal utf16 unit_of u16.leads u us e 0 (omega arith) (inl refl) (u16.unit_longest u us e));
}

-- ---- where nothing is replaced, the units after the first k are well-formed; `Known` is what is known of each

module _ (encode : ℕ → List ℕ) (first : ℕ → List ℕ → First) (Known : ℕ → Type 0)
    (encoded : (u : ℕ) (us : List ℕ) (v : ℕ) → Known u → (first u us).piece ≡ scalar v → (is_scalar_value v ≡ true) × (encode v ≡ take (suc (first u us).more) (u ∷ us))) where
  none_replaced : (k : ℕ) (s : List ℕ) → ((i : ℕ) → Known (get_or s i 0)) → replacements (read_from first k s) ≡ 0 → WellFormed encode (drop k s)
  unfolding read_from replacements
  none_replaced zero [] h e = nil_well_formed encode
  none_replaced (suc k) [] h e = nil_well_formed encode
  none_replaced (suc k) (u ∷ us) h e = none_replaced k us (λ i. h (suc i)) e
  none_replaced zero (u ∷ us) h e = go (first u us).piece refl (none_replaced (first u us).more us (λ i. h (suc i)))
    where
      n : ℕ
      n = (first u us).more

      go : (p : Piece) → (first u us).piece ≡ p → (replacements (read_from first n us) ≡ 0 → WellFormed encode (drop n us)) → WellFormed encode (u ∷ us)
      go (scalar v) q rec =
          let e' : 0 + replacements (read_from first n us) ≡ 0 = rw q at e in
          let r = encoded u us v (h 0) q in
          let t : encode v ++ drop n us ≡ u ∷ us = ap (λ (l : List ℕ). l ++ drop n us) r.1 ∙ ap (λ (l : List ℕ). u ∷ l) (take-append-drop n us) in
          subst (WellFormed encode) t (cons_well_formed encode v (drop n us) r.0 (rec (omega arith)))
      go malformed q rec = let e' : 1 + replacements (read_from first n us) ≡ 0 = rw q at e in absurd (omega arith)

scalars_replaced : (vs : List ℕ) → replacements (map scalar vs) ≡ 0
unfolding replacements
scalars_replaced [] = refl
scalars_replaced (v ∷ vs) = omega (arith, scalars_replaced vs)

scalars_text : (vs : List ℕ) → pieces_text (map scalar vs) ≡ flatten (map utf8 vs)
unfolding pieces_text piece_text flatten
scalars_text [] = refl
scalars_text (v ∷ vs) = ap (λ (l : List ℕ). utf8 v ++ l) (scalars_text vs)

well_formed_pieces : (encode : ℕ → List ℕ) (first : ℕ → List ℕ → First) → ((v : ℕ) → is_scalar_value v ≡ true → Leads encode first v) → (s : List ℕ) (w : WellFormed encode s)
    → read_from first 0 s ≡ map scalar w.0
well_formed_pieces encode first leads s w = rw (← w.2) (back_all encode first leads w.0 w.1)

-- ---- the U+FFFD of a text

utf8_scalar_pieces : (s : List ℕ) → AreBytes s → Scalars (utf8_pieces s)
utf8_scalar_pieces s b = read_scalars first_of 0x100 (λ u us v h e. (u8.first_read u us v e).0) 0 s b

utf16_scalar_pieces : (s : List ℕ) → AreBytes s → Scalars (utf16_pieces s)
utf16_scalar_pieces s b = read_scalars unit_of 0x10000 (λ u us v h e. (u16.unit_read u us v h e).0) 0 (units s) (u16.units_below s b)

pub text_counted : (ps : List Piece) → Scalars ps → replacement_characters (utf8_pieces (pieces_text ps)) ≡ replacements ps + replacement_characters ps
unfolding pieces_text piece_text replacements replacement_characters read_from is_scalar_value within
text_counted [] h = refl
text_counted (scalar v ∷ ps) h = rw (back utf8 first_of u8.leads v h.0 (pieces_text ps)) (omega (arith, text_counted ps h.1))
text_counted (malformed ∷ ps) h = rw (back utf8 first_of u8.leads replacement refl (pieces_text ps)) (omega (arith, text_counted ps h))

-- ---- the U+FFFD of a well-formed text, and of what follows it

scalars_append : (vs : List ℕ) → ScalarValues vs → (b : List ℕ) → utf8_pieces (flatten (map utf8 vs) ++ b) ≡ map scalar vs ++ utf8_pieces b
unfolding flatten
scalars_append [] h b = refl
scalars_append (v ∷ vs) h b =
    rw (append_assoc (utf8 v) (flatten (map utf8 vs)) b, back utf8 first_of u8.leads v (h v (Memᴰ.head refl)) (flatten (map utf8 vs) ++ b))
    (ap (λ (ps : List Piece). scalar v ∷ ps) (scalars_append vs (λ w m. h w (Memᴰ.tail m)) b))

characters_append : (ps qs : List Piece) → replacement_characters (ps ++ qs) ≡ replacement_characters ps + replacement_characters qs
unfolding replacement_characters
characters_append [] qs = omega arith
characters_append (scalar v ∷ ps) qs = omega (arith, characters_append ps qs)
characters_append (malformed ∷ ps) qs = characters_append ps qs

pub counted_append : (a b : List ℕ) → WellFormed utf8 a
    → replacement_characters (utf8_pieces (a ++ b)) ≡ replacement_characters (utf8_pieces a) + replacement_characters (utf8_pieces b)
counted_append a b w =
    let pieces : utf8_pieces (a ++ b) ≡ map scalar w.0 ++ utf8_pieces b = subst (λ (l : List ℕ). utf8_pieces (l ++ b) ≡ map scalar w.0 ++ utf8_pieces b) w.2 (scalars_append w.0 w.1 b) in
    ap replacement_characters pieces ∙ characters_append (map scalar w.0) (utf8_pieces b)
    ∙ ap (λ (ps : List Piece). replacement_characters ps + replacement_characters (utf8_pieces b)) (sym (well_formed_pieces utf8 first_of u8.leads a w))

whole : (us : List ℕ) → units (big_endian us) ≡ us
unfolding units
whole us = ap units (sym (append-nil (big_endian us))) ∙ u16.units_back us [] ∙ append-nil us

-- ASCII bytes are the code units of the scalar values of their numbers
ascii_well_formed : (s : List ℕ) → all_ascii s ≡ true → WellFormed utf8 s
unfolding all_ascii is_scalar_value within
ascii_well_formed [] e = nil_well_formed utf8
ascii_well_formed (b ∷ bs) e = go (ltb b 0x80) refl e (ascii_well_formed bs)
  where
    go : (x : Bool) → ltb b 0x80 ≡ x → cond x (all_ascii bs) false ≡ true → (all_ascii bs ≡ true → WellFormed utf8 bs) → WellFormed utf8 (b ∷ bs)
    go true q h rec =
        let small : b < 0x80 = ltb-true b 0x80 q in
        subst (λ (l : List ℕ). WellFormed utf8 (l ++ bs)) (utf8_one b small)
        (cons_well_formed utf8 b bs (rw (le-leb 0 b (omega arith), le-leb b 0xD7FF (omega arith))) (rec h))
    go false q h rec = absurd (let z : ◌≡◌ {A = ℕ} 0 1 = cc in omega arith)

-- two bytes are a unit
units_half : (s : List ℕ) → 2 * length (units s) ≤ length s
unfolding units
units_half [] = omega arith
units_half (a ∷ []) = omega arith
units_half (a ∷ b ∷ s) = omega (arith, units_half s)

pub texts : Texts
unfolding utf8_text utf16_text
texts = record {
  utf8_scalars = back_all utf8 first_of u8.leads;
  utf16_scalar = λ v h rest. rw (u16.units_back (utf16 v) rest) (back utf16 unit_of u16.leads v h (units rest));
  utf16_scalars = λ vs h. rw (whole (flatten (map utf16 vs))) (back_all utf16 unit_of u16.leads vs h);
  nothing_replaced = λ s. none_replaced utf8 first_of (λ u. Unit {0}) (λ b bs v h e. u8.first_read b bs v e) 0 s (λ i. tt);
  unchanged = λ s w. rw (well_formed_pieces utf8 first_of u8.leads s w) (scalars_replaced w.0, scalars_text w.0 ∙ w.2);
  utf16_nothing_replaced = λ s b. none_replaced utf16 unit_of (λ u. u < 0x10000) u16.unit_read 0 (units s) (u16.units_below s b);
  utf16_unchanged = λ s w. rw (well_formed_pieces utf16 unit_of u16.leads (units s) w) (scalars_replaced w.0);
  utf8_counted = λ s b. text_counted (utf8_pieces s) (utf8_scalar_pieces s b);
  utf16_counted = λ s b. text_counted (utf16_pieces s) (utf16_scalar_pieces s b);
  utf8_most = read_most first_of 0;
  utf16_most = λ s. omega (arith, read_most unit_of 0 (units s), units_half s);
  ascii_text = λ s e. let w = ascii_well_formed s e in rw (well_formed_pieces utf8 first_of u8.leads s w) (scalars_text w.0 ∙ w.2);
  utf8_text_lem = λ s b. scalars_well_formed (utf8_pieces s) (utf8_scalar_pieces s b);
  utf16_text_lem = λ s b. scalars_well_formed (utf16_pieces s) (utf16_scalar_pieces s b);
}
