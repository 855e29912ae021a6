-- A text by CCSID is empty exactly where its bytes are, at every release. Assumes nothing.
use Prim.Native.Nat.{ℕ, ◌≤◌}
use mathlib.Core.Bool.{Bool, true, false, cond}
use mathlib.Core.List.{List, [], ◌∷◌}
use mathlib.Core.Path.{◌≡◌, refl, sym, ap, ◌∙◌}
use native.Mathlib.Omega.{arith}
use borrow.Author.Tests.{eq-eqb, ne_eqb}
use lib.Dec.{eqb, ltb}
use lib.ListN.{length, length-append}
use Rattle.buffer.specs.Buffer.{Converted}
use Rattle.unicode_standard.specs.Unicode.{piece_text, pieces_text, read_from, utf8, utf8_text}
use Rattle.unicode_standard.specs.Ascii.{all_ascii}
use Rattle.utf.proofs.LossyWriting.{text_least}
use Rattle.codepage.specs.CodePage.{byte_pieces, byte_text, code_point819, code_point037}
use Rattle.conversion.specs.Conversion.{character_text, characters_by}
use Rattle.conversion.specs.Releases.{ccsid_by}
use Rattle.conversion.proofs.Releases.{characters_as}

picked : {A : Type 0} (P : A → Type 0) (b : Bool) (x y : A) → P x → P y → P (cond b x y)
picked P true x y f g = f
picked P false x y f g = g

utf8_some : (v : ℕ) → 1 ≤ length (utf8 v)
unfolding utf8
utf8_some v =
    let P : List ℕ → Type 0 = λ t. 1 ≤ length t in
    picked P (ltb v 0x80) _ _ (omega arith) (picked P (ltb v 0x800) _ _ (omega arith) (picked P (ltb v 0x10000) _ _ (omega arith) (omega arith)))

-- the text t has bytes where s has, and none where it has none
abbrev Alike : List ℕ → List ℕ → Type 0
Alike s t = (length s ≤ length t) × (length s ≡ 0 → length t ≡ 0)

of_utf8 : (s : List ℕ) → Alike s (utf8_text s)
unfolding utf8_text read_from pieces_text
of_utf8 s = (text_least s, none s)
  where
    none : (t : List ℕ) → length t ≡ 0 → length (utf8_text t) ≡ 0
    none [] e = refl
    none (b ∷ t) e = absurd (omega (arith, e))

of_bytes : (f : ℕ → ℕ) (s : List ℕ) → Alike s (byte_text f s)
unfolding byte_text byte_pieces pieces_text piece_text
of_bytes f [] = (omega arith, λ e. refl)
of_bytes f (b ∷ s) = (omega (arith, length-append (utf8 (f b)) (byte_text f s), utf8_some (f b), (of_bytes f s).0), λ e. absurd (omega (arith, e)))

of_characters_lem : (ccsid : ℕ) (s : List ℕ) → Alike s (character_text ccsid s)
unfolding character_text
of_characters_lem ccsid s =
    let P : List ℕ → Type 0 = λ t. Alike s t in
    picked P (eqb ccsid 1208) _ _ (of_utf8 s)
    (picked P (eqb ccsid 819) _ _ (of_bytes code_point819 s)
    (picked P (eqb ccsid 37) _ _ (of_bytes code_point037 s)
    (picked P (eqb ccsid 500) _ _ (of_bytes code_point037 s)
    (picked P (all_ascii s) _ _ (omega arith, λ e. e) (of_bytes code_point037 s)))))

tested : (s t : List ℕ) → Alike s t → eqb (length t) 0 ≡ eqb (length s) 0
tested [] t h = eq-eqb (length t) 0 (h.1 refl)
tested (b ∷ s) t h = ne_eqb (length t) 0 (λ e. omega (arith, h.0, e)) ∙ sym (ne_eqb (length (b ∷ s)) 0 (λ e. omega (arith, e)))

pub empty_as : (release ccsid : ℕ) (s : List ℕ) → eqb (length (characters_by release ccsid s).text_bytes) 0 ≡ eqb (length s) 0
empty_as release ccsid s =
    ap (λ (x : Converted). eqb (length x.text_bytes) 0) (characters_as release ccsid s) ∙ tested s (character_text (ccsid_by release ccsid) s) (of_characters_lem (ccsid_by release ccsid) s)
