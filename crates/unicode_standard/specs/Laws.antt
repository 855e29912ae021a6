-- What makes the definitions of Unicode.antt believable, in the Standard's own terms (section 3.9): statements only; proofs/Laws.antt proves each of
-- these records whole, as `utf8_form`, `utf16_form` and `texts`. For each encoding form `encode` gives the code units of a scalar value (Table 3-5 or 3-6),
-- and nothing here is said by Table 3-7. No contract cites this file. Assumes nothing.
use Rattle.std.specs.Prelude.{ℕ, suc, ◌+◌, ◌*◌, ◌≤◌, ◌<◌, true, cond, ◌⊎◌, ◌≡◌, eqb, length, take, get_or}
use mathlib.Core.List.{List, [], ◌∷◌, ◌++◌, map, flatten, Memᴰ}
use Rattle.unicode_standard.specs.Ascii.{all_ascii}
use Rattle.unicode_standard.specs.Unicode.{Piece, scalar, malformed, is_scalar_value, First, read_from, utf8, replacement, replacements, first_of, utf8_pieces, utf8_text, utf16, big_endian, units, unit_of, utf16_pieces, utf16_text}

-- each element of vs is a scalar value (`List.Memᴰ v vs`: v is an element of vs)
abbrev pub ScalarValues : List ℕ → Type 0
ScalarValues vs = (v : ℕ) → Memᴰ v vs → is_scalar_value v ≡ true

-- D85 (D86 for UTF-8, D87 for UTF-16): a well-formed code unit sequence is the code units of some scalar values, one after the other
abbrev pub WellFormed : (ℕ → List ℕ) → List ℕ → Type 0
WellFormed encode s = (vs : List ℕ) × ScalarValues vs × (flatten (map encode vs) ≡ s)

-- D93a, unconvertible offset: where s starts, no code unit subsequence is well-formed
abbrev pub Unconvertible : (ℕ → List ℕ) → List ℕ → Type 0
Unconvertible encode s = (n : ℕ) → 1 ≤ n → n ≤ length s → WellFormed encode (take n s) → ⊥

-- D93b, a and b: the first n code units of s are the initial subsequence of a well-formed code unit sequence, or one code unit
abbrev pub Subpart : (ℕ → List ℕ) → ℕ → List ℕ → Type 0
Subpart encode n s = (n ≤ length s) × (((rest : List ℕ) × WellFormed encode (take n s ++ rest)) ⊎ (n ≡ 1))

-- D93b, maximal subpart of an ill-formed subsequence: the longest such, at an unconvertible offset
pub record MaximalSubpart (encode : ℕ → List ℕ) (n : ℕ) (s : List ℕ) : Type 0 where
  pub unconvertible : Unconvertible encode s
  pub subpart : Subpart encode n s
  pub longest : (m : ℕ) → Subpart encode m s → m ≤ n

-- `first` reads the encoding form of `encode`, whose code units are below `limit`
pub record Reads (encode : ℕ → List ℕ) (limit : ℕ) (first : ℕ → List ℕ → First) : Type 0 where
  -- a scalar value's code units, whatever follows, are read as that scalar value
  pub read_back : (v : ℕ) → is_scalar_value v ≡ true → (rest : List ℕ) → read_from first 0 (encode v ++ rest) ≡ scalar v ∷ read_from first 0 rest
  -- what is read as the scalar value v is one, and its code units are those that were read
  pub encoded : (u : ℕ) (us : List ℕ) (v : ℕ) → u < limit → (first u us).piece ≡ scalar v → (is_scalar_value v ≡ true) × (encode v ≡ take (suc (first u us).more) (u ∷ us))
  -- what is read as malformed is the maximal subpart
  pub maximal : (u : ℕ) (us : List ℕ) → (first u us).piece ≡ malformed → MaximalSubpart encode (suc (first u us).more) (u ∷ us)

-- UTF-8 bytes
abbrev pub Utf8Form : Type 0
Utf8Form = Reads utf8 0x100 first_of

-- UTF-16 code units
abbrev pub Utf16Form : Type 0
Utf16Form = Reads utf16 0x10000 unit_of

abbrev pub AreBytes : List ℕ → Type 0
AreBytes s = (i : ℕ) → get_or s i 0 < 0x100

-- how many scalar values among pieces are U+FFFD
unfoldable pub replacement_characters : List Piece → ℕ
replacement_characters [] = 0
replacement_characters (scalar v ∷ ps) = cond (eqb v replacement) 1 0 + replacement_characters ps
replacement_characters (malformed ∷ ps) = replacement_characters ps

pub record Texts : Type 0 where
  -- the bytes of scalar values are read as these values
  pub utf8_scalars : (vs : List ℕ) → ScalarValues vs → utf8_pieces (flatten (map utf8 vs)) ≡ map scalar vs
  -- and so in UTF-16BE (D96): the bytes of one scalar value, whatever follows, and of many
  pub utf16_scalar : (v : ℕ) → is_scalar_value v ≡ true → (rest : List ℕ) → utf16_pieces (big_endian (utf16 v) ++ rest) ≡ scalar v ∷ utf16_pieces rest
  pub utf16_scalars : (vs : List ℕ) → ScalarValues vs → utf16_pieces (big_endian (flatten (map utf16 vs))) ≡ map scalar vs
  -- bytes are well-formed UTF-8 where nothing is replaced, and there only; then the text is the bytes
  pub nothing_replaced : (s : List ℕ) → replacements (utf8_pieces s) ≡ 0 → WellFormed utf8 s
  pub unchanged : (s : List ℕ) → WellFormed utf8 s → (replacements (utf8_pieces s) ≡ 0) × (utf8_text s ≡ s)
  -- and so with UTF-16
  pub utf16_nothing_replaced : (s : List ℕ) → AreBytes s → replacements (utf16_pieces s) ≡ 0 → WellFormed utf16 (units s)
  pub utf16_unchanged : (s : List ℕ) → WellFormed utf16 (units s) → replacements (utf16_pieces s) ≡ 0
  -- the U+FFFD among a text's scalar values are those put in and those that the bytes had, together
  pub utf8_counted : (s : List ℕ) → AreBytes s → replacement_characters (utf8_pieces (utf8_text s)) ≡ replacements (utf8_pieces s) + replacement_characters (utf8_pieces s)
  pub utf16_counted : (s : List ℕ) → AreBytes s → replacement_characters (utf8_pieces (utf16_text s)) ≡ replacements (utf16_pieces s) + replacement_characters (utf16_pieces s)
  -- no more are put in than there are bytes, or pairs of bytes
  pub utf8_most : (s : List ℕ) → replacements (utf8_pieces s) ≤ length s
  pub utf16_most : (s : List ℕ) → 2 * replacements (utf16_pieces s) ≤ length s
  -- ASCII is its own UTF-8
  pub ascii_text : (s : List ℕ) → all_ascii s ≡ true → utf8_text s ≡ s
  -- a text is well-formed UTF-8, whatever the bytes that it is read from
  pub utf8_text_lem : (s : List ℕ) → AreBytes s → WellFormed utf8 (utf8_text s)
  pub utf16_text_lem : (s : List ℕ) → AreBytes s → WellFormed utf8 (utf16_text s)
