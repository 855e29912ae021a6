-- Likely text in blocks: bytes that each follow the three before them, and among which is no control character. Assumes nothing.
use Prim.Native.Nat.{ℕ, zero, suc, ◌+◌, ◌-◌, ◌≤◌, ◌<◌}
use mathlib.Core.Bool.{Bool, true, false, cond, not, ◌&&◌, ◌||◌}
use mathlib.Core.List.{List, [], ◌∷◌}
use mathlib.Core.Path.{◌≡◌, refl, sym, ap, subst, ◌∙◌}
use native.Mathlib.Omega.{arith}
use borrow.Author.Tests.{ltb-false, lt-ltb, leb-false, lt-leb, eqb-true, eqb-false, eq-eqb, not-false}
use borrow.Author.Count.{below_more}
use lib.Dec.{leb, ltb, eqb}
use lib.ListN.{length, take, drop, get_or, length-drop}
use lib.Seq.{drop-drop, get_or-take, length-take-le}
use Rattle.unicode_standard.specs.Unicode.{scalar, within, range}
use Rattle.unicode_standard.specs.Likely.{is_control, is_tab_or_line_end, likely_piece, likely_text}
use Rattle.utf.specs.Utf8Code.{first_at, trail_at, is_scalar, PieceAt}
use Rattle.utf.specs.Utf8Blocks.{Follows, Each, Ends, led}
use Rattle.std.specs.Prelude.{Some}
use Rattle.utf.specs.LikelyCode.{LikelyAt, LikelyRun, Shown, AllShown, LikelyAfter}
use Rattle.utf.proofs.Utf8Laws.{step_ascii}
use Rattle.utf.proofs.Utf8BlockLaws.{neither, unless, ByPieces, whole_pieces}
use Rattle.utf.proofs.LikelyLaws.{likely, ascii_piece, other_piece, no_control_piece}

-- ---- runs

pub likely_none : (s : List ℕ) → LikelyRun 0 s
likely_none s = record { same = refl; fits = omega arith }

-- a run, and another after it
pub likely_more : (n m : ℕ) (s : List ℕ) → LikelyRun n s → LikelyRun m (drop n s) → LikelyRun (n + m) s
likely_more n m s r q = record {
  same = r.same ∙ q.same ∙ ap likely_text (drop-drop m n s);
  fits = omega (arith, length-drop n s, r.fits, q.fits);
}

-- a piece more
pub likely_next_piece : (s : List ℕ) (e n : ℕ) → LikelyRun e s → LikelyAt s e (Some n) → LikelyRun (e + n) s
likely_next_piece s e n r a = record { same = r.same ∙ a.1.1; fits = a.1.0 }

first_run : (s : List ℕ) (k : ℕ) → 0 < length s → PieceAt s 0 k true → likely_piece (first_at s 0).piece ≡ true → LikelyRun k s
first_run s k h p q =
    let e : 0 + k ≡ k = omega arith in
    subst (λ (n : ℕ). LikelyRun n s) e (likely_next_piece s 0 k (likely_none s) (likely s 0 h k p.0 q))

-- ---- ASCII

shown_first : (d : ℕ) (s : List ℕ) (n : ℕ) → d < 0x80 → Shown d → LikelyRun n s → LikelyRun (suc n) (d ∷ s)
shown_first d s n h q r =
    let e : 1 + n ≡ suc n = omega arith in
    let p = first_run (d ∷ s) 1 (omega arith) (step_ascii (d ∷ s) 0 h) (ap likely_piece (ascii_piece (d ∷ s) 0 h) ∙ q h) in
    subst (λ (m : ℕ). LikelyRun m (d ∷ s)) e (likely_more 1 n (d ∷ s) p r)

shown_run : (n : ℕ) (s : List ℕ) → n ≤ length s → AllShown s n → LikelyRun n s
shown_run zero s h f = likely_none s
shown_run (suc n) [] h f = let z : ⊥ = omega arith in absurd z
shown_run (suc n) (d ∷ s) h f =
    let q = f 0 (omega arith) in
    shown_first d s n q.0 q.1 (shown_run n s (omega arith) (λ j k. f (suc j) (omega arith)))

-- a byte more, by the code's tests
pub shown_more : (s : List ℕ) (i : ℕ) (x y : Bool) → (y ≡ false → AllShown s i) → (x ≡ false → Shown (get_or s i 0)) → (leb 0x80 (get_or s i 0) || x || y) ≡ false → AllShown s (i + 1)
shown_more s i x y f g e =
    let u = neither _ _ e in
    let v = neither _ _ u.0 in
    below_more (λ (j : ℕ). (get_or s j 0 < 0x80) × Shown (get_or s j 0)) i (f u.1) (leb-false 0x80 (get_or s i 0) v.0, g v.1)

-- a block more
pub shown_block : (s : List ℕ) (i e : ℕ) → LikelyRun i s → i ≤ e → e ≤ length s → AllShown (take (e - i) (drop i s)) (length (take (e - i) (drop i s))) → LikelyRun e s
shown_block s i e r h k f =
    let z : i + (e - i) ≡ e = omega arith in
    let m = length-take-le (e - i) (drop i s) (omega (arith, length-drop i s)) in
    subst (λ (n : ℕ). LikelyRun n s) z
    (likely_more i (e - i) s r (shown_run (e - i) (drop i s) (omega (arith, length-drop i s)) (λ j q. rw (get_or-take (e - i) (drop i s) j 0 q) at (f j (omega (arith, m))))))

-- ---- all sequences

-- of those longer than a byte, C2 with 80 to 9F are the control characters
longer_piece : (d e : ℕ) (l : List ℕ) → (d ≡ 0xC2 → within e (range 0x80 0x9F) ≡ false) → 0x80 ≤ d → is_scalar (first_at (d ∷ e ∷ l) 0).piece ≡ true
    → likely_piece (first_at (d ∷ e ∷ l) 0).piece ≡ true
unfolding trail_at
longer_piece d e l f h q = go (eqb d 0xC2) refl
  where
    no_trail : within e (range 0x80 0x9F) ≡ false → trail_at (d ∷ e ∷ l) 1 0x80 0x9F ≡ false
    no_trail r = rw (lt-ltb 1 (length (d ∷ e ∷ l)) (omega arith)) r

    go : (t : Bool) → eqb d 0xC2 ≡ t → likely_piece (first_at (d ∷ e ∷ l) 0).piece ≡ true
    go true p = let k = eqb-true d 0xC2 p in no_control_piece (d ∷ e ∷ l) 0 q k (no_trail (f k))
    go false p = other_piece (d ∷ e ∷ l) 0 h q (eqb-false d 0xC2 p)

likely_pieces : ByPieces LikelyAfter LikelyRun
likely_pieces = record {
  follows = λ a b c d f. f.follows;
  none = likely_none;
  ascii = λ a b c d f h n l r. shown_first d l n h f.shown r;
  longer = λ b c d e f h k n l p r. likely_more k n (d ∷ e ∷ l) (first_run (d ∷ e ∷ l) k (omega arith) p (longer_piece d e l f.after_c2 h (sym p.1))) r;
}

pub joined_likely : (s : List ℕ) (i r : ℕ) → i ≤ length s → Each LikelyAfter (led s) i → (r ≤ i) × Ends (led s) r → LikelyRun r s
joined_likely = whole_pieces LikelyAfter LikelyRun likely_pieces

-- ---- what the code's tests say

either : (x y z : Bool) → (x || y || z) ≡ cond x true (cond y true z)
either true y z = refl
either false true z = refl
either false false z = refl

pub no_control : (d : ℕ) → (ltb d 0x20 && not (eqb d 0x9 || eqb d 0xA || eqb d 0xD) || eqb d 0x7F) ≡ false → Shown d
unfolding likely_piece is_control is_tab_or_line_end
no_control d e h = go (ltb d 0x20) refl
  where
    x : ((ltb d 0x20 && not (eqb d 0x9 || eqb d 0xA || eqb d 0xD)) ≡ false) × (eqb d 0x7F ≡ false)
    x = neither _ _ e

    go : (t : Bool) → ltb d 0x20 ≡ t → likely_piece (scalar d) ≡ true
    go true p = rw p (sym (either (eqb d 0x9) (eqb d 0xA) (eqb d 0xD)) ∙ not-false _ (unless _ _ x.0 p))
    go false p =
        let k : 0x20 ≤ d = ltb-false d 0x20 p in
        let l : d ≡ 0x7F → ⊥ = eqb-false d 0x7F x.1 in
        rw (p, lt-leb 0x7F d (omega arith))

pub likely_after : (a b c d : ℕ) (x y z : Bool) → (x ≡ false → Follows a b c d) → (y ≡ false → Shown d) → z ≡ within d (range 0x80 0x9F)
    → (x || y || eqb c 0xC2 && z) ≡ false → LikelyAfter a b c d
likely_after a b c d x y z f g h e =
    let u = neither _ _ e in
    let v = neither _ _ u.0 in
    record { follows = f v.0; shown = g v.1; after_c2 = λ q. sym h ∙ unless _ _ u.1 (eq-eqb c 0xC2 q) }
