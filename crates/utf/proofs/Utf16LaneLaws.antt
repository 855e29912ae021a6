-- The text of a block of UTF-16 units, unit by unit, where a surrogate of a pair stands for two of its four bytes. Assumes nothing.
use Prim.Native.Nat.{ℕ, ◌+◌, ◌*◌, ◌-◌, ◌/◌, ◌%◌, ◌≤◌, ◌<◌}
use mathlib.Core.Bool.{Bool, true, false, cond, not, ◌&&◌, ◌||◌}
use mathlib.Core.List.{List, [], ◌∷◌, ◌++◌, append_assoc}
use mathlib.Core.Logic.{◌⊎◌, ⊎_elim}
use mathlib.Core.Path.{◌≡◌, refl, sym, ap, ◌∙◌}
use native.Mathlib.Omega.{arith}
use native.Mathlib.Nat.{add-zero, zero-add}
use borrow.Author.Count.{below_more}
use borrow.Author.Tests.{leb-true, leb-false, le-leb, eqb-true, eqb-false, ne_eqb}
use lib.Dec.{leb, eqb}
use lib.ListN.{length, take, drop, get_or, set, length-append}
use lib.Seq.{get_or-set_same, get_or-set_other, get_or-drop, drop-drop}
use Rattle.unicode_standard.specs.Unicode.{range, within, utf8, replacements, utf16_pieces, utf16_text}
use Rattle.unicode_standard.proofs.Ranges.{never, inside, is_inside, is_below, is_above, outside}
use Rattle.unicode_standard.proofs.ScalarBytes.{utf8_one, utf8_two, utf8_three, utf8_four}
use Rattle.std.specs.Int.{from_bool}
use Rattle.utf.specs.Utf16Code.{unit_at, Utf16Next, takes_three, unit_bytes, Counted, LaidAt, Laid, BlockEnd, AfterFirst}
use Rattle.buffer.specs.Filling.{Filling}
use Rattle.utf.proofs.AsciiLaws.{rest}
use Rattle.utf.proofs.Utf16Laws.{below_surrogates, above_surrogates, pair}
use Rattle.utf.proofs.Utf16BlockLaws.{unit_extra}

-- ---- what the code of `first_of`, `second_of`, `third_of` and `count_of` says

-- the bytes by four tests
abbrev kinds : ℕ → ℕ → ℕ → Bool → Bool → Bool → Bool → List ℕ
kinds y a b t h l w =
    cond t ((0xE0 + a / 16) ∷ (0x80 + a % 16 * 4 + b / 64) ∷ (0x80 + b % 64) ∷ [])
    (cond h ((0xF0 + a % 4 + (b / 64 + 1) / 4) ∷ (0x80 + (b / 4 + 16) % 64) ∷ [])
    (cond l ((0x80 + y % 4 * 16 + a % 4 * 4 + b / 64) ∷ (0x80 + b % 64) ∷ []) (cond w ((0xC0 + a % 8 * 4 + b / 64) ∷ (0x80 + b % 64) ∷ []) (b ∷ []))))

pub first_byte : (y a b : ℕ) → cond (takes_three a) (0xE0 + a / 16)
    (cond (within a (range 0xD8 0xDB)) (0xF0 + a % 4 + (b / 64 + 1) / 4)
    (cond (within a (range 0xDC 0xDF)) (0x80 + y % 4 * 16 + a % 4 * 4 + b / 64) (cond (not (eqb a 0) || leb 0x80 b) (0xC0 + a % 8 * 4 + b / 64) b)))
    ≡ get_or (unit_bytes y a b) 0 0
unfolding unit_bytes
first_byte y a b = go (takes_three a) (within a (range 0xD8 0xDB)) (within a (range 0xDC 0xDF)) (not (eqb a 0) || leb 0x80 b)
  where
    go : (t h l w : Bool) → cond t (0xE0 + a / 16) (cond h (0xF0 + a % 4 + (b / 64 + 1) / 4) (cond l (0x80 + y % 4 * 16 + a % 4 * 4 + b / 64) (cond w (0xC0 + a % 8 * 4 + b / 64) b)))
        ≡ get_or (kinds y a b t h l w) 0 0
    go true h l w = refl
    go false true l w = refl
    go false false true w = refl
    go false false false true = refl
    go false false false false = refl

pub second_byte : (y a b : ℕ) → 1 < length (unit_bytes y a b)
    → cond (takes_three a) (0x80 + a % 16 * 4 + b / 64) (cond (within a (range 0xD8 0xDB)) (0x80 + (b / 4 + 16) % 64) (0x80 + b % 64)) ≡ get_or (unit_bytes y a b) 1 0
unfolding unit_bytes
second_byte y a b = go (takes_three a) (within a (range 0xD8 0xDB)) (within a (range 0xDC 0xDF)) (not (eqb a 0) || leb 0x80 b)
  where
    go : (t h l w : Bool) → 1 < length (kinds y a b t h l w) → cond t (0x80 + a % 16 * 4 + b / 64) (cond h (0x80 + (b / 4 + 16) % 64) (0x80 + b % 64)) ≡ get_or (kinds y a b t h l w) 1 0
    go true h l w k = refl
    go false true l w k = refl
    go false false true w k = refl
    go false false false true k = refl
    go false false false false k = let z : ⊥ = omega arith in absurd z

pub third_byte : (y a b : ℕ) → 2 < length (unit_bytes y a b) → 0x80 + b % 64 ≡ get_or (unit_bytes y a b) 2 0
unfolding unit_bytes
third_byte y a b = go (takes_three a) (within a (range 0xD8 0xDB)) (within a (range 0xDC 0xDF)) (not (eqb a 0) || leb 0x80 b)
  where
    go : (t h l w : Bool) → 2 < length (kinds y a b t h l w) → 0x80 + b % 64 ≡ get_or (kinds y a b t h l w) 2 0
    go true h l w k = refl
    go false true l w k = let z : ⊥ = omega arith in absurd z
    go false false true w k = let z : ⊥ = omega arith in absurd z
    go false false false true k = let z : ⊥ = omega arith in absurd z
    go false false false false k = let z : ⊥ = omega arith in absurd z

-- a byte from 8 on, as a surrogate's, is not 0
more : (a b : ℕ) → 0 < a → not (eqb a 0) || leb 0x80 b ≡ true
more a b h = rw (ne_eqb a 0 (λ e. omega arith))

size : (y a b : ℕ) → cond (takes_three a) 3 (1 + from_bool (not (eqb a 0) || leb 0x80 b)) ≡ length (unit_bytes y a b)
unfolding unit_bytes
size y a b =
    go (takes_three a) (within a (range 0xD8 0xDB)) (within a (range 0xDC 0xDF)) (not (eqb a 0) || leb 0x80 b)
    (λ e. let k = inside a (range 0xD8 0xDB) e in more a b (omega arith)) (λ e. let k = inside a (range 0xDC 0xDF) e in more a b (omega arith))
  where
    go : (t h l w : Bool) → (h ≡ true → w ≡ true) → (l ≡ true → w ≡ true) → cond t 3 (1 + from_bool w)
        ≡ length (kinds y a b t h l w)
    go true h l w p q = refl
    go false true l true p q = refl
    go false true l false p q = never (p refl)
    go false false true true p q = refl
    go false false true false p q = never (q refl)
    go false false false true p q = refl
    go false false false false p q = refl

three_most : (t w : Bool) → (0 < cond t 3 (1 + from_bool w)) × (cond t 3 (1 + from_bool w) ≤ 3)
three_most true w = (omega arith, omega arith)
three_most false true = (omega arith, omega arith)
three_most false false = (omega arith, omega arith)

-- none of the two signs of an unpaired surrogate
none_alone : (l z h c : Bool) (n r : ℕ) → r ≡ cond (l && not z || h && not c) 0 n → 0 < r → (r ≡ n) × ((l ≡ true → z ≡ true) × (h ≡ true → c ≡ true))
none_alone true false h c n r e k = let x : ⊥ = omega arith in absurd x
none_alone true true true true n r e k = (e, (λ p. refl, λ p. refl))
none_alone true true true false n r e k = let x : ⊥ = omega arith in absurd x
none_alone true true false c n r e k = (e, (λ p. refl, λ p. never p))
none_alone false z true true n r e k = (e, (λ p. never p, λ p. refl))
none_alone false z true false n r e k = let x : ⊥ = omega arith in absurd x
none_alone false z false c n r e k = (e, (λ p. never p, λ p. never p))

pub counted : (z a b c : ℕ) (l m h n t : Bool) → l ≡ within a (range 0xDC 0xDF) → m ≡ within z (range 0xD8 0xDB) → h ≡ within a (range 0xD8 0xDB) → n ≡ within c (range 0xDC 0xDF)
    → t ≡ takes_three a → (w k r : ℕ) → w ≡ from_bool (not (eqb a 0) || leb 0x80 b) → k ≡ cond t 3 (1 + w) → r ≡ cond (l && not m || h && not n) 0 k → Counted z a b c r
counted z a b c l m h n t el em eh en et w k r ew ek er =
    let x : r ≡ cond (within a (range 0xDC 0xDF) && not (within z (range 0xD8 0xDB)) || within a (range 0xD8 0xDB) && not (within c (range 0xDC 0xDF))) 0 k = rw (el, em, eh, en) at er in
    let q : k ≡ cond (takes_three a) 3 (1 + from_bool (not (eqb a 0) || leb 0x80 b)) = rw (et, ew) at ek in
    let few = three_most (takes_three a) (not (eqb a 0) || leb 0x80 b) in
    let all = none_alone (within a (range 0xDC 0xDF)) (within z (range 0xD8 0xDB)) (within a (range 0xD8 0xDB)) (within c (range 0xDC 0xDF)) k r x in
    record {
      size = λ p y. (all p).0 ∙ q ∙ size y a b;
      most = below (within a (range 0xDC 0xDF) && not (within z (range 0xD8 0xDB)) || within a (range 0xD8 0xDB) && not (within c (range 0xDC 0xDF))) x (omega (arith, few.1));
      after = λ p. (all p).1.0;
      next = λ p. (all p).1.1;
      paired = λ p s. let i = inside a (range 0xDC 0xDF) s in let o : within a (range 0xD8 0xDB) ≡ false = is_above a (range 0xD8 0xDB) (omega arith) in let y : r ≡ k = rw (p, s, o) at x in omega (arith, few.0);
    }
  where
    below : {r k : ℕ} (u : Bool) → r ≡ cond u 0 k → k ≤ 3 → r ≤ 3
    below true e f = omega arith
    below false e f = omega arith

-- one more unit is laid out
pub laid_more : (s f g n : List ℕ) (k x y z : ℕ) → k < length f → k < length g → k < length n → Laid s f g n k → LaidAt s k x y z → Laid s (set f k x) (set g k y) (set n k z) (k + 1)
laid_more s f g n k x y z hf hg hn all here =
    below_more (λ (j : ℕ). LaidAt s j (get_or (set f k x) j 0) (get_or (set g k y) j 0) (get_or (set n k z) j 0)) k
    (λ j l. let o : j ≡ k → ⊥ = (λ e. omega arith) in rw (get_or-set_other f k j x 0 o, get_or-set_other g k j y 0 o, get_or-set_other n k j z 0 o) (all j l))
    (rw (get_or-set_same f k x 0 hf, get_or-set_same g k y 0 hg, get_or-set_same n k z 0 hn) here)

-- ---- the bytes of a unit are those of its scalar value

module _ (y a b : ℕ) (ha : a < 0x100) (hb : b < 0x100) where
  plain_bytes : within a (range 0xD8 0xDB) ≡ false → within a (range 0xDC 0xDF) ≡ false → unit_bytes y a b ≡ utf8 (a * 256 + b)
  unfolding unit_bytes
  plain_bytes eh el = go (leb 8 a) (eqb a 0) (leb 0x80 b) refl refl refl
    where
      no : 8 ≤ a → within a (range 0xD8 0xDF) ≡ false
      no k = ⊎_elim (λ p. is_below a (range 0xD8 0xDF) p) (λ p. ⊎_elim (λ q. let x : ⊥ = omega arith in absurd x) (λ q. is_above a (range 0xD8 0xDF) q) (outside a (range 0xDC 0xDF) el)) (outside a (range 0xD8 0xDB) eh)

      go : (t u w : Bool) → leb 8 a ≡ t → eqb a 0 ≡ u → leb 0x80 b ≡ w → unit_bytes y a b ≡ utf8 (a * 256 + b)
      go true u w p q r =
          let k = leb-true 8 a p in
          let x : (a * 256 + b) / 4096 ≡ a / 16 = omega arith in
          let v : 0x80 + (a * 256 + b) / 64 % 64 ≡ 0x80 + a % 16 * 4 + b / 64 = omega arith in
          let m : (a * 256 + b) % 64 ≡ b % 64 = omega arith in
          rw (p, no k, utf8_three (a * 256 + b) (omega arith) (omega arith), x, v, m)
      go false true false p q r =
          let k = eqb-true a 0 q in
          let l = leb-false 0x80 b r in
          let x : a * 256 + b ≡ b = omega arith in
          rw (p, eh, el, q, r, x, utf8_one b l)
      go false true true p q r =
          let k = eqb-true a 0 q in
          let l = leb-true 0x80 b r in
          let x : 0xC0 + (a * 256 + b) / 64 ≡ 0xC0 + a % 8 * 4 + b / 64 = omega arith in
          let m : (a * 256 + b) % 64 ≡ b % 64 = omega arith in
          rw (p, eh, el, q, r, utf8_two (a * 256 + b) (omega arith) (omega arith), x, m)
      go false false w p q r =
          let k = leb-false 8 a p in
          let l = eqb-false a 0 q in
          let n : 0 < a = omega arith in
          let x : 0xC0 + (a * 256 + b) / 64 ≡ 0xC0 + a % 8 * 4 + b / 64 = omega arith in
          let m : (a * 256 + b) % 64 ≡ b % 64 = omega arith in
          rw (p, eh, el, q, utf8_two (a * 256 + b) (omega arith) (omega arith), x, m)

-- the four bytes of a pair's scalar value v, by the low bits h and l of its surrogates' first bytes
module _ (h b l d v : ℕ) (hh : h < 4) (hb : b < 0x100) (hl : l < 4) (hd : d < 0x100) (e : v ≡ 0x10000 + h * 262144 + b * 1024 + l * 256 + d) where
  pair_first : v / 262144 ≡ h + (b / 64 + 1) / 4
  pair_first = omega arith

  pair_second : v / 4096 % 64 ≡ (b / 4 + 16) % 64
  pair_second = omega arith

  pair_third : v / 64 % 64 ≡ b % 4 * 16 + l * 4 + d / 64
  pair_third = omega arith

  pair_fourth : v % 64 ≡ d % 64
  pair_fourth = omega arith

pair_bytes : (y a b c d : ℕ) → within a (range 0xD8 0xDB) ≡ true → b < 0x100 → within c (range 0xDC 0xDF) ≡ true → d < 0x100
    → utf8 (0x10000 + ((a * 256 + b) - 0xD800) * 0x400 + ((c * 256 + d) - 0xDC00)) ≡ unit_bytes y a b ++ unit_bytes b c d
unfolding unit_bytes
pair_bytes y a b c d ea hb ec hd =
    let p = inside a (range 0xD8 0xDB) ea in
    let q = inside c (range 0xDC 0xDF) ec in
    let v : ℕ = 0x10000 + ((a * 256 + b) - 0xD800) * 0x400 + ((c * 256 + d) - 0xDC00) in
    let e : v ≡ 0x10000 + a % 4 * 262144 + b * 1024 + c % 4 * 256 + d = omega arith in
    let x : 0xF0 + v / 262144 ≡ 0xF0 + a % 4 + (b / 64 + 1) / 4 = omega (arith, pair_first (a % 4) b (c % 4) d v (omega arith) hb (omega arith) hd e) in
    let z : 0x80 + v / 64 % 64 ≡ 0x80 + b % 4 * 16 + c % 4 * 4 + d / 64 = omega (arith, pair_third (a % 4) b (c % 4) d v (omega arith) hb (omega arith) hd e) in
    utf8_four v (omega arith)
    ∙ rw (
      x,
      pair_second (a % 4) b (c % 4) d v (omega arith) hb (omega arith) hd e,
      z,
      pair_fourth (a % 4) b (c % 4) d v (omega arith) hb (omega arith) hd e,
      le-leb 8 a (omega arith),
      is_inside a (range 0xD8 0xDF) (omega arith) (omega arith),
      ea,
      le-leb 8 c (omega arith),
      is_inside c (range 0xDC 0xDF) (omega arith) (omega arith),
      is_inside c (range 0xD8 0xDF) (omega arith) (omega arith),
      is_above c (range 0xD8 0xDB) (omega arith),
    )

-- ---- what is left of the text after the unit at i: the unit at i + 2 is the second of a pair where that one is a high surrogate

abbrev pub rest_after : List ℕ → ℕ → List ℕ
rest_after s i = cond (within (get_or s i 0) (range 0xD8 0xDB)) (unit_bytes (get_or s (i + 1) 0) (get_or s (i + 2) 0) (get_or s (i + 3) 0) ++ utf16_text (drop (i + 4) s)) (utf16_text (drop (i + 2) s))

-- and how many unpaired surrogates are left
abbrev pub alone_after : List ℕ → ℕ → ℕ
alone_after s i = replacements (utf16_pieces (drop (cond (within (get_or s i 0) (range 0xD8 0xDB)) (i + 4) (i + 2)) s))

pub rest_whole : (s : List ℕ) (i : ℕ) → within (get_or s i 0) (range 0xD8 0xDB) ≡ false → (rest_after s i ≡ utf16_text (drop (i + 2) s)) × (alone_after s i ≡ replacements (utf16_pieces (drop (i + 2) s)))
rest_whole s i e = (rw e, rw e)

module _ (s : List ℕ) (i : ℕ) (small : (j : ℕ) → get_or s j 0 < 0x100) (k : i + 5 < length s) (n : ℕ) (some : 0 < n)
    (c : Counted (get_or s i 0) (get_or s (i + 2) 0) (get_or s (i + 3) 0) (get_or s (i + 4) 0) n)
    (carry : within (get_or s i 0) (range 0xD8 0xDB) ≡ true → within (get_or s (i + 2) 0) (range 0xDC 0xDF) ≡ true) where
  abbrev Y : ℕ
  Y = get_or s (i + 1) 0

  abbrev A : ℕ
  A = get_or s (i + 2) 0

  abbrev B : ℕ
  B = get_or s (i + 3) 0

  -- the text goes on with the unit's bytes, and the unit is not replaced
  abbrev Step : Type 0
  Step = (rest_after s i ≡ unit_bytes Y A B ++ rest_after s (i + 2)) × (alone_after s i ≡ alone_after s (i + 2))

  unit : A * 256 + B ≡ unit_at s (i + 2)
  unit = let e : i + 3 ≡ i + 2 + 1 = omega arith in rw e

  after_four : i + 2 + 2 ≡ i + 4
  after_four = omega arith

  -- the next unit begins anew
  anew : within A (range 0xD8 0xDB) ≡ false → (rest_after s (i + 2) ≡ utf16_text (drop (i + 4) s)) × (alone_after s (i + 2) ≡ replacements (utf16_pieces (drop (i + 4) s)))
  anew e = let w = rest_whole s (i + 2) e in (w.0 ∙ rw after_four, w.1 ∙ rw after_four)

  second : within (get_or s i 0) (range 0xD8 0xDB) ≡ true → Step
  second e =
      let l = inside A (range 0xDC 0xDF) (carry e) in
      let n = anew (is_above A (range 0xD8 0xDB) (omega arith)) in
      (rw (n.0, e), rw (n.1, e))

  first : within (get_or s i 0) (range 0xD8 0xDB) ≡ false → within A (range 0xD8 0xDB) ≡ true → Step
  first e h =
      let l : within (get_or s (i + 4) 0) (range 0xDC 0xDF) ≡ true = c.next some h in
      let a = inside A (range 0xD8 0xDB) h in
      let b = inside (get_or s (i + 4) 0) (range 0xDC 0xDF) l in
      let x₃ : i + 2 + 1 ≡ i + 3 = omega arith in
      let x₅ : i + 2 + 3 ≡ i + 5 = omega arith in
      let x₆ : i + 2 + 4 ≡ i + 6 = omega arith in
      let v : get_or s (i + 4) 0 * 256 + get_or s (i + 5) 0 ≡ unit_at s (i + 2 + 2) = (let z : i + 5 ≡ i + 2 + 2 + 1 = omega arith in rw (z, ← after_four)) in
      let t = pair s (i + 2) (omega arith) (A * 256 + B) unit (omega arith) (omega (arith, small (i + 3))) (omega arith) (get_or s (i + 4) 0 * 256 + get_or s (i + 5) 0) v (omega arith) (omega (arith, small (i + 5))) in (
        (rest_whole s i e).0 ∙ t.here
            ∙ rw (pair_bytes Y A B (get_or s (i + 4) 0) (get_or s (i + 5) 0) h (small (i + 3)) l (small (i + 5)), append_assoc, h, x₃, after_four, x₅, x₆),
        (rest_whole s i e).1 ∙ t.part ∙ rw (zero-add, h),
      )

  plain : within (get_or s i 0) (range 0xD8 0xDB) ≡ false → within A (range 0xD8 0xDB) ≡ false → Step
  plain e h =
      let t = next (outside A (range 0xD8 0xDB) h) in (
        (rest_whole s i e).0 ∙ t.here ∙ rw ((anew h).0, after_four, plain_bytes Y A B (small (i + 2)) (small (i + 3)) h l),
        (rest_whole s i e).1 ∙ t.part ∙ rw (zero-add, (anew h).1, after_four),
      )
    where
      l : within A (range 0xDC 0xDF) ≡ false
      l = go (within A (range 0xDC 0xDF)) refl
        where
          go : (t : Bool) → within A (range 0xDC 0xDF) ≡ t → within A (range 0xDC 0xDF) ≡ false
          go true q = never (sym e ∙ c.after some q)
          go false q = q

      next : ((A < 0xD8) ⊎ (0xDB < A)) → Utf16Next s (i + 2) (A * 256 + B) 2 0
      next w =
          ⊎_elim (λ p. below_surrogates s (i + 2) (omega arith) (A * 256 + B) unit (omega (arith, small (i + 3))))
          (λ p. ⊎_elim (λ q. let x : ⊥ = omega arith in absurd x) (λ q. above_surrogates s (i + 2) (omega arith) (A * 256 + B) unit (omega arith) (omega (arith, small (i + 2), small (i + 3)))) (outside A (range 0xDC 0xDF) l)) w

  pub unit_step : Step
  unit_step = go (within (get_or s i 0) (range 0xD8 0xDB)) (within A (range 0xD8 0xDB)) refl refl
    where
      go : (t u : Bool) → within (get_or s i 0) (range 0xD8 0xDB) ≡ t → within A (range 0xD8 0xDB) ≡ u → Step
      go true u p q = second p
      go false true p q = first p q
      go false false p q = plain p q

-- ---- where a block ends, the next unit begins anew

pub stopped : (z a b c n : ℕ) → Counted z a b c n → n ≡ 0 → (within z (range 0xD8 0xDB) ≡ true → within a (range 0xDC 0xDF) ≡ true) → within z (range 0xD8 0xDB) ≡ false
stopped z a b c n k e carry = go (within z (range 0xD8 0xDB)) refl
  where
    go : (t : Bool) → within z (range 0xD8 0xDB) ≡ t → within z (range 0xD8 0xDB) ≡ false
    go true q = let x : ⊥ = omega (arith, k.paired q (carry q)) in absurd x
    go false q = q

pub end_most : (s : List ℕ) (r : ℕ) → BlockEnd s r → r ≤ 128
end_most s r w = ⊎_elim (λ p. omega arith) (λ p. omega arith) w

-- a unit that begins before it ends before it
pub even_end : (s : List ℕ) (r : ℕ) → BlockEnd s r → (i : ℕ) → i % 2 ≡ 0 → i < r → i + 2 ≤ r
even_end s r w i e h = ⊎_elim (λ p. omega arith) (λ p. omega arith) w

pub ended : (s : List ℕ) (i : ℕ) → BlockEnd s i → (within (get_or s i 0) (range 0xD8 0xDB) ≡ true → within (get_or s (i + 2) 0) (range 0xDC 0xDF) ≡ true) → within (get_or s i 0) (range 0xD8 0xDB) ≡ false
ended s i w carry = ⊎_elim (λ p. rw p.0 p.1) (λ p. go (within (get_or s i 0) (range 0xD8 0xDB)) refl p) w
  where
    go : (t : Bool) → within (get_or s i 0) (range 0xD8 0xDB) ≡ t → (i ≡ 126) × (within (get_or s 128 0) (range 0xD8 0xDB) ≡ true) → within (get_or s i 0) (range 0xD8 0xDB) ≡ false
    go true q p =
        let j : i + 2 ≡ 128 = omega (arith, p.0) in
        let k = inside (get_or s 128 0) (range 0xDC 0xDF) (rw j at (carry q)) in
        let l = inside (get_or s 128 0) (range 0xD8 0xDB) p.1 in
        let x : ⊥ = omega arith in absurd x
    go false q p = q

-- ---- each unit has a byte

module _ (s : List ℕ) (i : ℕ) (small : (j : ℕ) → get_or s j 0 < 0x100) where
  three_left : i + 7 < length s → 3 ≤ length (utf16_text (drop i s))
  three_left k = omega (arith, unit_extra s i (omega arith) small, unit_extra s (i + 2) (omega arith) small, unit_extra s (i + 2 + 2) (omega arith) small)

pub rest_three : (s : List ℕ) (i : ℕ) → ((j : ℕ) → get_or s j 0 < 0x100) → i + 11 < length s → 3 ≤ length (rest_after s i)
rest_three s i small k = go (within (get_or s i 0) (range 0xD8 0xDB))
  where
    go : (t : Bool) → 3 ≤ length (cond t (unit_bytes (get_or s (i + 1) 0) (get_or s (i + 2) 0) (get_or s (i + 3) 0) ++ utf16_text (drop (i + 4) s)) (utf16_text (drop (i + 2) s)))
    go true = omega (arith, length-append (unit_bytes (get_or s (i + 1) 0) (get_or s (i + 2) 0) (get_or s (i + 3) 0)) (utf16_text (drop (i + 4) s)), three_left s (i + 4) small (omega arith))
    go false = three_left s (i + 2) small (omega arith)

-- ---- a block of what is left, `&s[i..]`

pub neither : (x y : Bool) → x || y ≡ false → (x ≡ false) × (y ≡ false)
neither true y e = never (sym e)
neither false y e = (refl, e)

module _ (s : List ℕ) (i : ℕ) where
  pub lent_first : get_or (take (length s - i) (drop i s)) 0 0 ≡ get_or s i 0
  lent_first = rw (rest s i) (get_or-drop i s 0 0 ∙ ap (λ (j : ℕ). get_or s j 0) (add-zero i))

  pub lent_drop : (r : ℕ) → drop r (take (length s - i) (drop i s)) ≡ drop (i + r) s
  lent_drop r = rw (rest s i, drop-drop r i s)

  pub lent_after : (d ys : List ℕ) (r n : ℕ) → AfterFirst (take (length s - i) (drop i s)) d ys r n
      → Filling (utf16_text (drop (i + 2) s)) d (utf16_text (drop (i + r + 2) s)) ys n × (replacements (utf16_pieces (drop (i + 2) s)) ≡ replacements (utf16_pieces (drop (i + r + 2) s)))
  lent_after d ys r n w = let e : i + (r + 2) ≡ i + r + 2 = omega arith in rw (← e, ← lent_drop 2, ← lent_drop (r + 2)) w
