-- The types of columns, and what hangs on them, by codes of the table. Assumes nothing.
use mathlib.Core.Path.{◌≡◌, refl}
use mathlib.Core.Bool.{Bool, true, false, cond, ◌&&◌, ◌||◌}
use mathlib.Core.List.{List, [], ◌∷◌}
use mathlib.Core.Logic.{⊎_elim, inl, inr}
use types.Run.{OneOf}
use Prim.Native.Nat.{ℕ, zero, suc, ◌<◌}
use native.Mathlib.Omega.{arith}
use native.Mathlib.Nat.{not-suc-le-zero}
use lib.Dec.{eqb}
use borrow.Author.Tests.{eq-eqb, ne_eqb, eqb-true, eqb-false}
use Rattle.types.specs.Types.{base_of, nullable_bit, base_types, listed_or, from_drda_type}
use Rattle.types.specs.declared.Db2Type.{Db2Type}
use Rattle.types.specs.declared.Db2Type.TheVariants as type
use Rattle.column.specs.declared.Numbers.{Numbers}
use Rattle.column.specs.Column.{sda_type}
use Rattle.column.specs.Group.{group_type, group_ccsid}
use Rattle.column.specs.Said.{sda_code, group_code, CcsidFor}

-- an SDA column's type stands in the table
pub sda_listed : (c n : ℕ) (m : Numbers) → (from_drda_type (sda_code c m.ccsid) n m.precision m.scale).db2_type ≡ sda_type c n m
unfolding sda_code sda_type from_drda_type listed_or base_types
sda_listed c n m = go (eqb m.ccsid 0) (eqb (base_of c) 0x30) (eqb (base_of c) 0x32)
  where
    listed : ℕ → Db2Type
    listed k = (from_drda_type k n m.precision m.scale).db2_type

    go : (a b d : Bool)
        → listed (cond a (cond b 0x60 (cond d 0x62 c)) c)
        ≡ cond a (cond b (listed 0x60) (cond d (listed 0x62) (listed c))) (listed c)
    go false b d = refl
    go true true d = refl
    go true false true = refl
    go true false false = refl

-- the type of an undeclared LID stands in the table
pub group_listed : (l n : ℕ) → (from_drda_type (group_code l) n 0 0).db2_type ≡ group_type l n
unfolding group_code group_type listed_or from_drda_type base_types
group_listed l n = go (eqb 0x0A b) (eqb 0x0C b) (eqb 0x36 b) (eqb 0x38 b) (eqb 0x3A b) (eqb 0xCE b)
  where
    b : ℕ
    b = base_of l

    f : ℕ → Db2Type
    f k = (from_drda_type k n 0 0).db2_type

    go : (a b c d e g : Bool)
        → f (cond a 0x0E (cond b 0x0A (cond c 0x3C (cond d 0x3E (cond e 0x3E (cond g 0xCA l))))))
        ≡ cond a (f 0x0E) (cond b (f 0x0A) (cond c (f 0x3C) (cond d (f 0x3E) (cond e (f 0x3E) (cond g (f 0xCA) (f l))))))
    go true b c d e g = refl
    go false true c d e g = refl
    go false false true d e g = refl
    go false false false true e g = refl
    go false false false false true g = refl
    go false false false false false true = refl
    go false false false false false false = refl

-- and that of a Decimal
pub decimal_listed : (n p s : ℕ) → (from_drda_type 0x0C n p s).db2_type ≡ type.Decimal p s
unfolding from_drda_type listed_or base_types
decimal_listed n p s = refl

-- a code other than 51 is nullable by its bit 01
pub nullable_listed : (c n : ℕ) → (c ≡ 0x51 → ⊥) → nullable_bit c ≡ (from_drda_type c n 0 0).nullable
unfolding from_drda_type
nullable_listed c n h = go (eqb c 0x50) refl
  where
    go : (b : Bool) → eqb c 0x50 ≡ b → nullable_bit c ≡ (from_drda_type c n 0 0).nullable
    go true e = rw (eqb-true c 0x50 e)
    go false e = rw (e, ne_eqb c 0x51 h)

-- ---- a number among others
unfoldable among : List ℕ → ℕ → Bool
among [] x = false
among (k ∷ ks) x = eqb x k || among ks x

or_true : (a : Bool) → (a || true) ≡ true
or_true true = refl
or_true false = refl

one_among : (k : ℕ) (ks : List ℕ) (x : ℕ) → OneOf (k ∷ ks) x → among (k ∷ ks) x ≡ true
unfolding among
one_among k [] x h = rw (eq-eqb x k h)
one_among k (j ∷ ks) x h = ⊎_elim (λ e. rw (eq-eqb x k e)) (λ e. rw (one_among j ks x e) (or_true (eqb x k))) h

none_among : (k : ℕ) (ks : List ℕ) (x : ℕ) → (OneOf (k ∷ ks) x → ⊥) → among (k ∷ ks) x ≡ false
unfolding among
none_among k [] x h = rw (ne_eqb x k h)
none_among k (j ∷ ks) x h = rw (ne_eqb x k (λ e. h (inl e)), none_among j ks x (λ e. h (inr e)))

-- ---- a test of every number below a bound
unfoldable all_below : ℕ → (ℕ → Bool) → Bool
all_below zero f = true
all_below (suc k) f = f k && all_below k f

and_left : (a b : Bool) → (a && b) ≡ true → a ≡ true
and_left true b e = refl
and_left false b e = e

and_right : (a b : Bool) → (a && b) ≡ true → b ≡ true
and_right true b e = e
and_right false b e = let z : ◌≡◌ {A = ℕ} 0 1 = cc in absurd (omega arith)

below : (k : ℕ) (f : ℕ → Bool) → all_below k f ≡ true → (i : ℕ) → i < k → f i ≡ true
unfolding all_below
below zero f e i h = absurd (not-suc-le-zero h)
below (suc k) f e i h = go (below k f (and_right (f k) (all_below k f) e) i) (eqb i k) refl
  where
    go : (i < k → f i ≡ true) → (b : Bool) → eqb i k ≡ b → f i ≡ true
    go rest true t = rw (eqb-true i k t) (and_left (f k) (all_below k f) e)
    go rest false t = rest (omega (arith, eqb-false i k t))

-- ---- the CCSID of an undeclared LID's column, by its code: 0 for these base codes, save LobChar, and else 1208
abbrev pub plain_codes : List ℕ
plain_codes =
    0x02 ∷ 0x04 ∷ 0x0A ∷ 0x0C ∷ 0x0E ∷ 0x16 ∷ 0x18 ∷ 0x1E ∷ 0x36 ∷ 0x38 ∷ 0x3A ∷ 0x3C ∷ 0x3E ∷ 0x50 ∷ 0x60 ∷ 0x62 ∷ 0xBA ∷ 0xBE ∷ 0xC8 ∷ 0xCC ∷ []

by_code : ℕ → ℕ
by_code l = cond (eqb l 0x51) 1208 (cond (among plain_codes (base_of l)) 0 1208)

-- the code tells what the type tells: one computed test
every_code : (n : ℕ) → all_below 256 (λ l. eqb (by_code l) (group_ccsid (group_type l n))) ≡ true
unfolding all_below by_code among group_type from_drda_type listed_or base_types
every_code n = refl

by_code_lem : (l n : ℕ) → l < 256 → by_code l ≡ group_ccsid (group_type l n)
by_code_lem l n h = eqb-true (by_code l) (group_ccsid (group_type l n)) (below 256 (λ k. eqb (by_code k) (group_ccsid (group_type k n))) (every_code n) l h)

module _ (l : ℕ) (h : l < 256) where
  pub ccsid_lobchar : l ≡ 0x51 → CcsidFor l 1208
  unfolding by_code
  ccsid_lobchar e n = (rw (eq-eqb l 0x51 e) at (by_code_lem l n h))

  pub ccsid_plain : (l ≡ 0x51 → ⊥) → OneOf plain_codes (base_of l) → CcsidFor l 0
  unfolding by_code
  ccsid_plain d o n = (rw (ne_eqb l 0x51 d, one_among _ _ (base_of l) o) at (by_code_lem l n h))

  pub ccsid_text : (l ≡ 0x51 → ⊥) → (OneOf plain_codes (base_of l) → ⊥) → CcsidFor l 1208
  unfolding by_code
  ccsid_text d o n = (rw (ne_eqb l 0x51 d, none_among _ _ (base_of l) o) at (by_code_lem l n h))
