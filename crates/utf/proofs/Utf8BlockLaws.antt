-- Bytes that each follow the three before them are whole sequences, and so well-formed UTF-8. Assumes nothing.
use Prim.Native.Nat.{ℕ, zero, suc, ◌+◌, ◌-◌, ◌≤◌, ◌<◌}
use mathlib.Core.Bool.{Bool, true, false, cond, not, ◌&&◌, ◌||◌, beq}
use mathlib.Core.List.{List, [], ◌∷◌}
use mathlib.Core.Logic.{⊎_elim}
use mathlib.Core.Path.{◌≡◌, refl, sym, subst, ◌∙◌}
use native.Mathlib.Omega.{arith}
use borrow.Author.Tests.{ltb-true, ltb-false, lt-ltb, leb-false, le-leb, lt-leb, eqb-true, eqb-false, eq-eqb, not-false}
use borrow.Author.Count.{below_more}
use native.Mathlib.Numerals.{add-one, add-two, add-three}
use lib.Dec.{leb, ltb, eqb}
use lib.ListN.{length, get_or, take, drop, length-drop}
use lib.Seq.{get_or-take, get_or-drop, length-take-le}
use Rattle.unicode_standard.specs.Unicode.{range, within, trail, table_3_7}
use Rattle.unicode_standard.proofs.Ranges.{never, inside, is_inside, is_above, outside}
use Rattle.utf.specs.Utf8Code.{trail_at, ranges, PieceAt, fit_after, Good}
use Rattle.utf.specs.Utf8Blocks.{wanted, Follows, Each, Joined, Ends, led}
use Rattle.utf.proofs.Utf8Laws.{Passed, dummy, step_row, there, first_fits, next_fits, all_fit}
use Rattle.utf.proofs.Utf8Runs.{good_none, good_first, good_more, good_at}

-- ---- what the code's tests say

pub neither : (x y : Bool) → (x || y) ≡ false → (x ≡ false) × (y ≡ false)
neither true y e = never (sym e)
neither false y e = (refl, e)

pub and_cond : (x y : Bool) → (x && y) ≡ cond x y false
and_cond true y = refl
and_cond false y = refl

pub unless : (x y : Bool) → (x && y) ≡ false → x ≡ true → y ≡ false
unless true y e q = e
unless false y e q = never q

same : (x y : Bool) → not (beq x y) ≡ false → x ≡ y
same true true e = refl
same true false e = never (sym e)
same false true e = never (sym e)
same false false e = refl

module _ (a b c d : ℕ) where
  -- the tests of `breaks`, with the answers of its calls
  abbrev pub broken : Bool → Bool → Bool → Bool → Bool → Bool
  broken t w n l k = not (beq t w) || (n || leb 0xF5 d) || (eqb c 0xE0 && l || eqb c 0xED && not l) || (eqb c 0xF0 && k || eqb c 0xF4 && not k)

  pub follows : (t w n l k : Bool) → t ≡ within d trail → w ≡ wanted a b c → n ≡ within d (range 0xC0 0xC1) → l ≡ within d (range 0x80 0x9F)
      → k ≡ within d (range 0x80 0x8F) → broken t w n l k ≡ false → Follows a b c d
  follows t w n l k et ew en el ek e =
      let x = neither _ _ e in
      let y = neither _ _ x.0 in
      let z = neither _ _ y.0 in
      let u = neither _ _ z.1 in
      let v = neither _ _ y.1 in
      let o = neither _ _ x.1 in
      record {
        place = sym et ∙ same t w z.0 ∙ ew;
        used = sym en ∙ u.0;
        below = leb-false 0xF5 d u.1;
        after_e0 = λ q. sym el ∙ unless _ _ v.0 (eq-eqb c 0xE0 q);
        after_ed = λ q. sym el ∙ not-false l (unless _ _ v.1 (eq-eqb c 0xED q));
        after_f0 = λ q. sym ek ∙ unless _ _ o.0 (eq-eqb c 0xF0 q);
        after_f4 = λ q. sym ek ∙ not-false k (unless _ _ o.1 (eq-eqb c 0xF4 q));
      }

-- ---- where a trail byte is wanted

module _ (a b c : ℕ) where
  pub unwanted : wanted a b c ≡ false → (c < 0xC0) × (b < 0xE0) × (a < 0xF0)
  unwanted e =
      let x = neither _ _ e in
      let y = neither _ _ x.0 in
      (leb-false 0xC0 c y.0, leb-false 0xE0 b y.1, leb-false 0xF0 a x.1)

  pub is_unwanted : c < 0xC0 → b < 0xE0 → a < 0xF0 → wanted a b c ≡ false
  is_unwanted h k l = rw (lt-leb 0xC0 c h, lt-leb 0xE0 b k, lt-leb 0xF0 a l)

  or_true : (x : Bool) → (x || true) ≡ true
  or_true true = refl
  or_true false = refl

  wanted_1 : 0xC0 ≤ c → wanted a b c ≡ true
  wanted_1 h = rw (le-leb 0xC0 c h)

  wanted_2 : 0xE0 ≤ b → wanted a b c ≡ true
  wanted_2 h = rw (le-leb 0xE0 b h, or_true (leb 0xC0 c))

  wanted_3 : 0xF0 ≤ a → wanted a b c ≡ true
  wanted_3 h = rw (le-leb 0xF0 a h) (or_true (leb 0xC0 c || leb 0xE0 b))

  -- where none is wanted, d is ASCII or begins a sequence
  pub begins : (d : ℕ) → wanted a b c ≡ false → Follows a b c d → 0x80 ≤ d → 0xC2 ≤ d
  begins d e f h =
      ⊎_elim
      (λ x. let z : ⊥ = omega arith in absurd z)
      (λ x. ⊎_elim (λ y. let z : ⊥ = omega arith in absurd z) (λ y. omega arith) (outside d (range 0xC0 0xC1) f.used))
      (outside d trail (f.place ∙ e))

-- ---- first bytes

-- d begins a sequence with n bytes more than two
record Lead (d n : ℕ) : Type 0 where
  k : ℕ
  low : ℕ
  high : ℕ
  passed : Passed table_3_7 k d
  trails : (get_or table_3_7 k dummy).trails ≡ ranges low high n
  suits : (a b e : ℕ) → Follows a b d e → within e trail ≡ true → within e (range low high) ≡ true

any_trail : (d : ℕ) (a b e : ℕ) → Follows a b d e → within e trail ≡ true → within e (range 0x80 0xBF) ≡ true
any_trail d a b e f q = q

-- a trail byte that is none of the lower ones
upper : (e m : ℕ) → within e trail ≡ true → within e (range 0x80 m) ≡ false → within e (range (suc m) 0xBF) ≡ true
upper e m q r =
    let x = inside e trail q in
    ⊎_elim (λ y. let z : ⊥ = omega arith in absurd z) (λ y. is_inside e (range (suc m) 0xBF) y x.1) (outside e (range 0x80 m) r)

lead_2 : (d : ℕ) → 0xC2 ≤ d → d < 0xE0 → Lead d 0
unfolding ranges
lead_2 d h k = record { k = 1; low = 0x80; high = 0xBF; passed = omega arith; trails = refl; suits = any_trail d }

lead_3 : (d : ℕ) → 0xE0 ≤ d → d < 0xF0 → Lead d 1
unfolding ranges
lead_3 d h l = go (eqb d 0xE0) (ltb d 0xED) (eqb d 0xED) refl refl refl
  where
    go : (t u v : Bool) → eqb d 0xE0 ≡ t → ltb d 0xED ≡ u → eqb d 0xED ≡ v → Lead d 1
    go true u v e f g =
        let q = eqb-true d 0xE0 e in
        record { k = 2; low = 0xA0; high = 0xBF; passed = omega arith; trails = refl; suits = λ a b x y z. upper x 0x9F z (y.after_e0 q) }
    go false true v e f g =
        let q = eqb-false d 0xE0 e in
        let p = ltb-true d 0xED f in
        record { k = 3; low = 0x80; high = 0xBF; passed = omega arith; trails = refl; suits = any_trail d }
    go false false true e f g =
        let q = eqb-true d 0xED g in
        record { k = 4; low = 0x80; high = 0x9F; passed = omega arith; trails = refl; suits = λ a b x y z. y.after_ed q }
    go false false false e f g =
        let q = eqb-false d 0xED g in
        let p = ltb-false d 0xED f in
        record { k = 5; low = 0x80; high = 0xBF; passed = omega arith; trails = refl; suits = any_trail d }

lead_4 : (d : ℕ) → 0xF0 ≤ d → d < 0xF5 → Lead d 2
unfolding ranges
lead_4 d h l = go (eqb d 0xF0) (eqb d 0xF4) refl refl
  where
    go : (t u : Bool) → eqb d 0xF0 ≡ t → eqb d 0xF4 ≡ u → Lead d 2
    go true u e f =
        let q = eqb-true d 0xF0 e in
        record { k = 6; low = 0x90; high = 0xBF; passed = omega arith; trails = refl; suits = λ a b x y z. upper x 0x8F z (y.after_f0 q) }
    go false true e f =
        let q = eqb-true d 0xF4 f in
        record { k = 8; low = 0x80; high = 0x8F; passed = omega arith; trails = refl; suits = λ a b x y z. y.after_f4 q }
    go false false e f =
        let q = eqb-false d 0xF0 e in
        let p = eqb-false d 0xF4 f in
        record { k = 7; low = 0x80; high = 0xBF; passed = omega arith; trails = refl; suits = any_trail d }

-- ---- whole sequences

-- a byte in a range that is there
stands : (s : List ℕ) (j low high : ℕ) → j < length s → within (get_or s j 0) (range low high) ≡ true → trail_at s j low high ≡ true
unfolding trail_at
stands s j low high h e = rw (lt-ltb j (length s) h) e

module _ (s : List ℕ) (n : ℕ) (v : Lead (get_or s 0 0) n) where
  by_lead : (m : ℕ) → m ≡ fit_after s 0 v.low v.high n → PieceAt s 0 (suc m) (eqb m (suc n))
  by_lead m e = step_row s 0 v.k v.low v.high n m v.passed v.trails e

-- the bytes that end so make a sequence of two, three or four
piece_2 : (d e : ℕ) (l : List ℕ) (v : Lead d 0) → within e (range v.low v.high) ≡ true → PieceAt (d ∷ e ∷ l) 0 2 true
piece_2 d e l v h =
    let s : List ℕ = d ∷ e ∷ l in
    by_lead s 0 v 1 (all_fit s 0 v.low v.high 0 0 (first_fits s 0 v.low v.high 0 (stands s 1 v.low v.high (omega arith) h)) refl)

piece_3 : (d e f : ℕ) (l : List ℕ) (v : Lead d 1) → within e (range v.low v.high) ≡ true → within f trail ≡ true → PieceAt (d ∷ e ∷ f ∷ l) 0 3 true
piece_3 d e f l v h k =
    let s : List ℕ = d ∷ e ∷ f ∷ l in
    by_lead s 1 v 2 (all_fit s 0 v.low v.high 1 1 (next_fits s 0 v.low v.high 1 0 (omega arith) (first_fits s 0 v.low v.high 1 (stands s 1 v.low v.high (omega arith) h)) (there s 2 (omega arith) k)) refl)

piece_4 : (d e f g : ℕ) (l : List ℕ) (v : Lead d 2) → within e (range v.low v.high) ≡ true → within f trail ≡ true → within g trail ≡ true
    → PieceAt (d ∷ e ∷ f ∷ g ∷ l) 0 4 true
piece_4 d e f g l v h k j =
    let s : List ℕ = d ∷ e ∷ f ∷ g ∷ l in
    by_lead s 2 v 3 (all_fit s 0 v.low v.high 2 2 (next_fits s 0 v.low v.high 2 1 (omega arith) (next_fits s 0 v.low v.high 2 0 (omega arith) (first_fits s 0 v.low v.high 2 (stands s 1 v.low v.high (omega arith) h)) (there s 2 (omega arith) k)) (there s 3 (omega arith) j)) refl)

-- ---- the law: n bytes that each follow the three before them are whole sequences, where a trail byte is wanted neither before them nor after them

-- P holds of the first n bytes of a list piece by piece: of none; and of an ASCII character or a longer sequence, with bytes after it of which it
-- holds. R is what is known of each byte
pub record ByPieces (R : ℕ → ℕ → ℕ → ℕ → Type 0) (P : ℕ → List ℕ → Type 0) : Type 0 where
  pub follows : (a b c d : ℕ) → R a b c d → Follows a b c d
  pub none : (l : List ℕ) → P 0 l
  pub ascii : (a b c d : ℕ) → R a b c d → d < 0x80 → (n : ℕ) (l : List ℕ) → P n l → P (suc n) (d ∷ l)
  pub longer : (b c d e : ℕ) → R b c d e → 0x80 ≤ d → (k n : ℕ) (l : List ℕ) → PieceAt (d ∷ e ∷ l) 0 k true → P n (drop k (d ∷ e ∷ l)) → P (k + n) (d ∷ e ∷ l)

-- no sequence ends where a trail byte is wanted
open_end : {A : Type 0} (a b c : ℕ) → wanted a b c ≡ true → wanted a b c ≡ false → A
open_end a b c h e = never (sym e ∙ h)

module _ (R : ℕ → ℕ → ℕ → ℕ → Type 0) (P : ℕ → List ℕ → Type 0) (by : ByPieces R P) where
  abbrev Law : ℕ → Type 0
  Law m = (a b c : ℕ) (l : List ℕ) (n : ℕ) → n ≤ m → n ≤ length l → wanted a b c ≡ false → Each R (a ∷ b ∷ c ∷ l) n → Ends (a ∷ b ∷ c ∷ l) n → P n l

  module _ (m : ℕ) (law : Law m) (a b c d : ℕ) where
    then_1 : (l : List ℕ) (n : ℕ) → n ≤ m → n ≤ length l → wanted a b c ≡ false → Each R (a ∷ b ∷ c ∷ d ∷ l) (suc n) → Ends (a ∷ b ∷ c ∷ d ∷ l) (suc n)
        → d < 0x80 → P (suc n) (d ∷ l)
    then_1 l n h k w j e q =
        let u = unwanted a b c w in
        by.ascii a b c d (j 0 (omega arith)) q n l
        (law b c d l n h k (is_unwanted b c d (omega arith) (omega arith) (omega arith)) (λ i t. j (suc i) (omega arith)) e)

    then_2 : (l : List ℕ) (n : ℕ) → n ≤ m → n ≤ length l → wanted a b c ≡ false → Each R (a ∷ b ∷ c ∷ d ∷ l) (suc n) → Ends (a ∷ b ∷ c ∷ d ∷ l) (suc n)
        → 0xC2 ≤ d → d < 0xE0 → P (suc n) (d ∷ l)
    then_2 l zero h k w j e q r = open_end b c d (wanted_1 b c d (omega arith)) e
    then_2 [] (suc n) h k w j e q r = let z : ⊥ = omega arith in absurd z
    then_2 (x ∷ l) (suc n) h k w j e q r =
        let u = unwanted a b c w in
        let v = lead_2 d q r in
        let first : R b c d x = j 1 (omega arith) in
        let f = by.follows b c d x first in
        let t = f.place ∙ wanted_1 b c d (omega arith) in
        let y = inside x trail t in
        let z : 2 + n ≡ suc (suc n) = omega arith in
        subst (λ (i : ℕ). P i (d ∷ x ∷ l)) z
        (by.longer b c d x first (omega arith) 2 n l (piece_2 d x l v (v.suits b c x f t))
        (law c d x l n (omega arith) (omega arith) (is_unwanted c d x (omega arith) (omega arith) (omega arith)) (λ i s. j (suc (suc i)) (omega arith)) e))

    then_3 : (l : List ℕ) (n : ℕ) → n ≤ m → n ≤ length l → wanted a b c ≡ false → Each R (a ∷ b ∷ c ∷ d ∷ l) (suc n) → Ends (a ∷ b ∷ c ∷ d ∷ l) (suc n)
        → 0xE0 ≤ d → d < 0xF0 → P (suc n) (d ∷ l)
    then_3 l zero h k w j e q r = open_end b c d (wanted_1 b c d (omega arith)) e
    then_3 [] (suc n) h k w j e q r = let z : ⊥ = omega arith in absurd z
    then_3 (x ∷ l) (suc zero) h k w j e q r = open_end c d x (wanted_2 c d x q) e
    then_3 (x ∷ []) (suc (suc n)) h k w j e q r = let z : ⊥ = omega arith in absurd z
    then_3 (x ∷ y ∷ l) (suc (suc n)) h k w j e q r =
        let v = lead_3 d q r in
        let first : R b c d x = j 1 (omega arith) in
        let f = by.follows b c d x first in
        let t = f.place ∙ wanted_1 b c d (omega arith) in
        let g : Follows c d x y = by.follows c d x y (j 2 (omega arith)) in
        let p = g.place ∙ wanted_2 c d x q in
        let tx = inside x trail t in
        let ty = inside y trail p in
        let z : 3 + n ≡ suc (suc (suc n)) = omega arith in
        subst (λ (i : ℕ). P i (d ∷ x ∷ y ∷ l)) z
        (by.longer b c d x first (omega arith) 3 n (y ∷ l) (piece_3 d x y l v (v.suits b c x f t) p)
        (law d x y l n (omega arith) (omega arith) (is_unwanted d x y (omega arith) (omega arith) (omega arith)) (λ i s. j (suc (suc (suc i))) (omega arith)) e))

    then_4 : (l : List ℕ) (n : ℕ) → n ≤ m → n ≤ length l → wanted a b c ≡ false → Each R (a ∷ b ∷ c ∷ d ∷ l) (suc n) → Ends (a ∷ b ∷ c ∷ d ∷ l) (suc n)
        → 0xF0 ≤ d → d < 0xF5 → P (suc n) (d ∷ l)
    then_4 l zero h k w j e q r = open_end b c d (wanted_1 b c d (omega arith)) e
    then_4 [] (suc n) h k w j e q r = let z : ⊥ = omega arith in absurd z
    then_4 (x ∷ l) (suc zero) h k w j e q r = open_end c d x (wanted_2 c d x (omega arith)) e
    then_4 (x ∷ []) (suc (suc n)) h k w j e q r = let z : ⊥ = omega arith in absurd z
    then_4 (x ∷ y ∷ l) (suc (suc zero)) h k w j e q r = open_end d x y (wanted_3 d x y q) e
    then_4 (x ∷ y ∷ []) (suc (suc (suc n))) h k w j e q r = let z : ⊥ = omega arith in absurd z
    then_4 (x ∷ y ∷ o ∷ l) (suc (suc (suc n))) h k w j e q r =
        let v = lead_4 d q r in
        let first : R b c d x = j 1 (omega arith) in
        let f = by.follows b c d x first in
        let t = f.place ∙ wanted_1 b c d (omega arith) in
        let g : Follows c d x y = by.follows c d x y (j 2 (omega arith)) in
        let p = g.place ∙ wanted_2 c d x (omega arith) in
        let i : Follows d x y o = by.follows d x y o (j 3 (omega arith)) in
        let u = i.place ∙ wanted_3 d x y q in
        let tx = inside x trail t in
        let ty = inside y trail p in
        let to = inside o trail u in
        let z : 4 + n ≡ suc (suc (suc (suc n))) = omega arith in
        subst (λ (i : ℕ). P i (d ∷ x ∷ y ∷ o ∷ l)) z
        (by.longer b c d x first (omega arith) 4 n (y ∷ o ∷ l) (piece_4 d x y o l v (v.suits b c x f t) p u)
        (law x y o l n (omega arith) (omega arith) (is_unwanted x y o (omega arith) (omega arith) (omega arith)) (λ i s. j (suc (suc (suc (suc i)))) (omega arith)) e))

  none_left : Law 0
  none_left a b c l zero h k w j e = by.none l
  none_left a b c l (suc n) h k w j e = let z : ⊥ = omega arith in absurd z

  one_more : (m : ℕ) → Law m → Law (suc m)
  one_more m rec a b c l zero h k w j e = by.none l
  one_more m rec a b c [] (suc n) h k w j e = let z : ⊥ = omega arith in absurd z
  one_more m rec a b c (d ∷ l) (suc n) h k w j e = go (ltb d 0x80) (ltb d 0xE0) (ltb d 0xF0) refl refl refl
    where
      f : Follows a b c d
      f = by.follows a b c d (j 0 (omega arith))

      go : (t u v : Bool) → ltb d 0x80 ≡ t → ltb d 0xE0 ≡ u → ltb d 0xF0 ≡ v → P (suc n) (d ∷ l)
      go true u v p q r = then_1 m rec a b c d l n (omega arith) (omega arith) w j e (ltb-true d 0x80 p)
      go false true v p q r = then_2 m rec a b c d l n (omega arith) (omega arith) w j e (begins a b c d w f (ltb-false d 0x80 p)) (ltb-true d 0xE0 q)
      go false false true p q r = then_3 m rec a b c d l n (omega arith) (omega arith) w j e (ltb-false d 0xE0 q) (ltb-true d 0xF0 r)
      go false false false p q r = then_4 m rec a b c d l n (omega arith) (omega arith) w j e (ltb-false d 0xF0 r) f.below

  law : (m : ℕ) → Law m
  law zero = none_left
  law (suc m) = one_more m (law m)

  -- the bytes up to an end among the first i
  pub whole_pieces : (s : List ℕ) (i r : ℕ) → i ≤ length s → Each R (led s) i → (r ≤ i) × Ends (led s) r → P r s
  whole_pieces s i r h j e = law r 0 0 0 s r (omega arith) (omega arith) refl (λ t q. j t (omega arith)) e.1

good_pieces : ByPieces Follows Good
good_pieces = record {
  follows = λ a b c d f. f;
  none = good_none;
  ascii = λ a b c d f h n l g. good_first d l n h g;
  longer = λ b c d e f h k n l p g. good_more k n (d ∷ e ∷ l) (good_at (d ∷ e ∷ l) 0 k (omega arith) p.0 (sym p.1)) g;
}

-- they are well-formed
pub joined_good : (s : List ℕ) (i r : ℕ) → i ≤ length s → Joined (led s) i → (r ≤ i) × Ends (led s) r → Good r s
joined_good = whole_pieces Follows Good good_pieces

-- ---- for the loops

-- a byte more
pub each_more : (R : ℕ → ℕ → ℕ → ℕ → Type 0) (s : List ℕ) (i : ℕ) (x y : Bool) → (y ≡ false → Each R s i)
    → (x ≡ false → R (get_or s i 0) (get_or s (i + 1) 0) (get_or s (i + 2) 0) (get_or s (i + 3) 0)) → (x || y) ≡ false → Each R s (i + 1)
each_more R s i x y f g e =
    let z = neither x y e in
    below_more (λ (j : ℕ). R (get_or s j 0) (get_or s (suc j) 0) (get_or s (suc (suc j)) 0) (get_or s (suc (suc (suc j))) 0)) i (f z.1) (rw (add-one i, add-two i, add-three i) at (g z.0))

-- before a byte that begins a sequence none is open
pub cut_end : (s : List ℕ) (n : ℕ) → Joined (led s) n → (r : ℕ) → r < n → 0xC0 ≤ get_or s r 0 → Ends (led s) r
cut_end s n j r k q = sym (j r k).place ∙ is_above (get_or s r 0) trail (omega arith)

led_at : (s : List ℕ) (i : ℕ) → 3 ≤ i → get_or (led s) i 0 ≡ get_or s (i - 3) 0
led_at s zero h = let z : ⊥ = omega arith in absurd z
led_at s (suc zero) h = let z : ⊥ = omega arith in absurd z
led_at s (suc (suc zero)) h = let z : ⊥ = omega arith in absurd z
led_at s (suc (suc (suc m))) h = let e : suc (suc (suc m)) - 3 ≡ m = omega arith in rw e

pub whole_end : (s : List ℕ) (i : ℕ) → 3 ≤ i → get_or s (i - 1) 0 < 0xC0 → get_or s (i - 2) 0 < 0xE0 → get_or s (i - 3) 0 < 0xF0 → Ends (led s) i
whole_end s i h p q r =
    let e : suc i - 3 ≡ i - 2 = omega arith in
    let f : suc (suc i) - 3 ≡ i - 1 = omega arith in
    let a : get_or (led s) (suc i) 0 ≡ get_or s (i - 2) 0 = led_at s (suc i) (omega arith) ∙ rw e in
    let b : get_or (led s) (suc (suc i)) 0 ≡ get_or s (i - 1) 0 = led_at s (suc (suc i)) (omega arith) ∙ rw f in
    rw (led_at s i h, a, b) (is_unwanted (get_or s (i - 3) 0) (get_or s (i - 2) 0) (get_or s (i - 1) 0) p q r)

module _ (R : ℕ → ℕ → ℕ → ℕ → Type 0) (s : List ℕ) where
  -- the first three bytes
  pub each_3 : R 0 0 0 (get_or s 0 0) → R 0 0 (get_or s 0 0) (get_or s 1 0) → R 0 (get_or s 0 0) (get_or s 1 0) (get_or s 2 0) → Each R (led s) 3
  each_3 f g h zero k = f
  each_3 f g h (suc zero) k = g
  each_3 f g h (suc (suc zero)) k = h
  each_3 f g h (suc (suc (suc n))) k = let z : ⊥ = omega arith in absurd z

  -- a block more, which is tested with the three bytes before it
  module _ (i e : ℕ) (h : 3 ≤ i) (l : i ≤ e) (k : e ≤ length s) where
    abbrev part : List ℕ
    part = take (e - (i - 3)) (drop (i - 3) s)

    part_length : length part ≡ e - (i - 3)
    part_length = length-take-le (e - (i - 3)) (drop (i - 3) s) (omega (arith, length-drop (i - 3) s))

    part_at : (t p : ℕ) → t < e - (i - 3) → i + t ≡ p → get_or part t 0 ≡ get_or (led s) p 0
    part_at t p q z =
        let x : p - 3 ≡ i - 3 + t = omega arith in
        get_or-take (e - (i - 3)) (drop (i - 3) s) t 0 q ∙ get_or-drop (i - 3) s t 0 ∙ sym (led_at s p (omega arith) ∙ rw x)

    pub each_block : Each R (led s) i → Each R part (length part - 3) → Each R (led s) e
    each_block f g q r = go (ltb q i) refl
      where
        go : (t : Bool) → ltb q i ≡ t → R (get_or (led s) q 0) (get_or (led s) (suc q) 0) (get_or (led s) (suc (suc q)) 0) (get_or (led s) (suc (suc (suc q))) 0)
        go true u = f q (ltb-true q i u)
        go false u =
            let v = ltb-false q i u in
            let j : ℕ = q - i in
            rw (
              ← part_at j q (omega arith) (omega arith),
              ← part_at (suc j) (suc q) (omega arith) (omega arith),
              ← part_at (suc (suc j)) (suc (suc q)) (omega arith) (omega arith),
              ← part_at (suc (suc (suc j))) (suc (suc (suc q))) (omega arith) (omega arith),
            ) (g j (omega (arith, part_length)))
