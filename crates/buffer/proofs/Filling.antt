-- A text that is written into a buffer from its first byte, part by part, where stores may run ahead of what is written, within the room that the text takes:
-- the invariant of loops that store more bytes than the next part has. Assumes nothing.
--     start           nothing is written yet
--     loosened        what was written otherwise, as `Writing` says it
--     again           the same, from what the buffer holds now
--     stored          a store of the next byte
--     ahead           a store beyond it, within the text's room
--     there           the next byte was stored ahead
--     three_stored    three bytes were stored, of which the next part has one, two or three
--     wrote           a part was written into the unwritten rest, `&mut out[o..]`, and perhaps more stored behind it
--     wrote_text      a part was written there, and no more
--     wrote_filling   a part was written there by a loop of this kind
--     left_length, fits   what is left fits
--     end, all        nothing is left: the text is written, and o is its length
use Prim.Native.Nat.{ℕ, ◌+◌, ◌-◌, ◌≤◌, ◌<◌}
use mathlib.Core.List.{List, [], ◌∷◌, ◌++◌, append-nil}
use mathlib.Core.Path.{◌≡◌, refl, sym, ap, ◌∙◌}
use native.Mathlib.Omega.{arith}
use native.Mathlib.Numerals.{add-one}
use lib.ListN.{length, take, drop, get_or, set, length-append, length-drop, length-set, take-append-drop, drop_of_length-le}
use lib.Seq.{take-append-add, drop-append-add, take_at, drop_at, take-add, drop-drop, take_all, take-length, length-take-le, take-suc-set, take-set-le, drop-set-lt, set-get_or, get_or-set_same, get_or-set_other}
use Rattle.buffer.specs.Buffer.{overwritten}
use Rattle.buffer.specs.Filling.{Filling}
use Rattle.buffer.proofs.Writing.{Writing, as_long}

pub start : (T d : List ℕ) → length T ≤ length d → Filling T d T d 0
start T d h = record { room = h; before = omega arith; left = refl; long = refl; front = refl; back = refl }

pub loosened : {T d rest out : List ℕ} {o : ℕ} → Writing T d rest out o → Filling T d rest out o
loosened {T} {d} {rest} {out} {o} w =
    let p : length (take o T) ≡ o = length-take-le o T w.before in
    let m : length T ≡ o + (length T - o) = omega (arith, w.before) in
    record {
      room = w.room;
      before = w.before;
      left = w.left;
      long = as_long w;
      front = rw w.buffer (take_at (take o T) (drop o d) o p);
      back =
          ap (drop (length T)) w.buffer ∙ ap (λ (j : ℕ). drop j (take o T ++ drop o d)) (m ∙ ap (λ (j : ℕ). j + (length T - o)) (sym p))
          ∙ drop-append-add (take o T) (drop o d) (length T - o) ∙ drop-drop (length T - o) o d ∙ ap (λ (j : ℕ). drop j d) (sym m);
    }

module _ {T d rest out : List ℕ} {o : ℕ} (w : Filling T d rest out o) where
  pub again : Filling T out rest out o
  again = record { room = omega (arith, w.room, w.long); before = w.before; left = w.left; long = refl; front = w.front; back = refl }

  pub left_length : o + length rest ≡ length T
  left_length =
      let e : length T - o ≡ length rest = sym (length-drop o T) ∙ ap length w.left in
      omega (arith, w.before)

  pub fits : o + length rest ≤ length out
  fits = omega (arith, left_length, w.long, w.room)

-- the next part of the text is t
module _ {T d l out : List ℕ} {o : ℕ} (w : Filling T d l out o) (t rest : List ℕ) (e : l ≡ t ++ rest) where
  taken : take (o + length t) T ≡ take o T ++ t
  taken = take-add o (length t) T ∙ rw (w.left, e, take_at t rest (length t) refl)

  after : drop (o + length t) T ≡ rest
  after = sym (drop-drop (length t) o T) ∙ rw (w.left, e, drop_at t rest (length t) refl)

  within : o + length t ≤ length T
  within = omega (arith, left_length w, ap length e, length-append t rest)

  -- what is lent of the buffer, `&mut out[o..]`, has room for t
  pub fits_rest : {n : ℕ} → n ≡ length t → n ≤ length (take (length out - o) (drop o out))
  fits_rest {n} q =
      let k : length (take (length out - o) (drop o out)) ≡ length out - o = length-take-le (length out - o) (drop o out) (omega (arith, length-drop o out)) in
      omega (arith, within, w.long, w.room)

  -- ys is what the callee left there: t, and after k bytes what was there
  pub wrote : (ys : List ℕ) → length ys ≡ length (take (length out - o) (drop o out)) → (n : ℕ) → n ≡ length t → take n ys ≡ t
      → (k : ℕ) → k ≤ length l → drop k ys ≡ drop k (take (length out - o) (drop o out)) → Filling T d rest (take o out ++ (ys ++ drop (length out - o) (drop o out))) (o + n)
  wrote ys m n z f k h b =
      let lent : take (length out - o) (drop o out) ≡ drop o out = take_all (length out - o) (drop o out) (omega (arith, length-drop o out)) in
      let none : drop (length out - o) (drop o out) ≡ [] = drop_of_length-le (drop o out) {i = length out - o} (omega (arith, length-drop o out)) in
      let p : length (take o out) ≡ o = length-take-le o out (omega (arith, fits w)) in
      let L : length ys ≡ length out - o = m ∙ ap length lent ∙ length-drop o out in
      let split : length l ≡ k + (length l - k) = omega arith in
      let tail : drop (length l) ys ≡ drop (length T) out =
      ap (λ (j : ℕ). drop j ys) split ∙ sym (drop-drop (length l - k) k ys) ∙ ap (drop (length l - k)) (b ∙ ap (drop k) lent)
      ∙ drop-drop (length l - k) k (drop o out) ∙ ap (λ (j : ℕ). drop j (drop o out)) (sym split) ∙ drop-drop (length l) o out ∙ ap (λ (j : ℕ). drop j out) (left_length w) in
      rw (none, append-nil) record {
        room = w.room;
        before = omega (arith, within);
        left = rw z after;
        long = length-append (take o out) ys ∙ omega (arith, p, L, fits w, w.long);
        front = ap (λ (j : ℕ). take (j + n) (take o out ++ ys)) (sym p) ∙ take-append-add (take o out) ys n ∙ rw (f, z, taken, w.front);
        back = ap (λ (j : ℕ). drop j (take o out ++ ys)) (sym (left_length w) ∙ ap (λ (j : ℕ). j + length l) (sym p)) ∙ drop-append-add (take o out) ys (length l) ∙ tail ∙ w.back;
      }

  pub wrote_text : (ys : List ℕ) → ys ≡ overwritten t (take (length out - o) (drop o out)) → (n : ℕ) → n ≡ length t
      → Filling T d rest (take o out ++ (ys ++ drop (length out - o) (drop o out))) (o + n)
  wrote_text ys q n z =
      let D : List ℕ = take (length out - o) (drop o out) in
      let h : length t ≤ length D = fits_rest refl in
      let m : length ys ≡ length D = ap length q ∙ length-append t (drop (length t) D) ∙ omega (arith, length-drop (length t) D) in
      wrote ys m n z (rw q (take_at t (drop (length t) D) n (sym z))) n (omega (arith, ap length e, length-append t rest)) (rw q (drop_at t (drop (length t) D) n (sym z) ∙ ap (λ (j : ℕ). drop j D) (sym z)))

pub wrote_filling : {T d l out rest ys : List ℕ} {o n : ℕ} → Filling T d l out o → Filling l (take (length out - o) (drop o out)) rest ys n
    → Filling T d rest (take o out ++ (ys ++ drop (length out - o) (drop o out))) (o + n)
wrote_filling {T} {d} {l} {out} {rest} {ys} {o} {n} w v =
    wrote w (take n l) rest (sym (take-append-drop n l) ∙ ap (λ (x : List ℕ). take n l ++ x) v.left) ys v.long n (sym (length-take-le n l v.before)) v.front (length l) (omega arith) v.back

-- a store of the next byte
pub stored : {T d l out : List ℕ} {o : ℕ} → Filling T d l out o → (b : ℕ) (rest : List ℕ) → l ≡ b ∷ rest → Filling T d rest (set out o b) (o + 1)
stored {T} {d} {l} {out} {o} w b rest e =
    let h : o < length T = omega (arith, left_length w, ap length e) in
    record {
      room = w.room;
      before = omega arith;
      left = after w (b ∷ []) rest e;
      long = length-set out o b ∙ w.long;
      front = rw (add-one o, take-suc-set out o b (omega (arith, w.long, w.room)), w.front) (sym (taken w (b ∷ []) rest e) ∙ ap (λ (j : ℕ). take j T) (add-one o));
      back = drop-set-lt (length T) out o b h ∙ w.back;
    }

-- a store beyond it
pub ahead : {T d l out : List ℕ} {o : ℕ} → Filling T d l out o → (p b : ℕ) → o ≤ p → p < length T → Filling T d l (set out p b) o
ahead {T} {d} {l} {out} {o} w p b h k = record {
  room = w.room;
  before = w.before;
  left = w.left;
  long = length-set out p b ∙ w.long;
  front = take-set-le o out p b h ∙ w.front;
  back = drop-set-lt (length T) out p b k ∙ w.back;
}

pub there : {T d l out : List ℕ} {o : ℕ} → Filling T d l out o → (b : ℕ) (rest : List ℕ) → l ≡ b ∷ rest → get_or out o 0 ≡ b → Filling T d rest out (o + 1)
there {T} {d} {l} {out} {o} w b rest e q =
    let same : set out o b ≡ out = ap (set out o) (sym q) ∙ set-get_or out o 0 in
    rw same at (stored w b rest e)

pub three_stored : {T d l out : List ℕ} {o : ℕ} → Filling T d l out o → o + 3 ≤ length T → (t rest : List ℕ) → l ≡ t ++ rest → (n : ℕ) → n ≡ length t → 0 < n → n ≤ 3
    → (f g h : ℕ) → f ≡ get_or t 0 0 → (1 < length t → g ≡ get_or t 1 0) → (2 < length t → h ≡ get_or t 2 0) → Filling T d rest (set (set (set out (o + 2) h) (o + 1) g) o f) (o + n)
three_stored {T} {d} {l} {out} {o} w m t rest e n z some most f g h q₀ q₁ q₂ = go t e z q₀ q₁ q₂
  where
    X : List ℕ
    X = set (set (set out (o + 2) h) (o + 1) g) o f

    first : (rs : List ℕ) → l ≡ f ∷ rs → Filling T d rs X (o + 1)
    first rs k = stored (ahead (ahead w (o + 2) h (omega arith) (omega arith)) (o + 1) g (omega arith) (omega arith)) f rs k

    size : o + 3 ≤ length out
    size = omega (arith, w.long, w.room)

    at_one : get_or X (o + 1) 0 ≡ g
    at_one = get_or-set_other (set (set out (o + 2) h) (o + 1) g) o (o + 1) f 0 (λ k. omega arith) ∙ get_or-set_same (set out (o + 2) h) (o + 1) g 0 (omega (arith, size, length-set out (o + 2) h))

    at_two : get_or X (o + 1 + 1) 0 ≡ h
    at_two =
        ap (λ (j : ℕ). get_or X j 0) (omega arith) ∙ get_or-set_other (set (set out (o + 2) h) (o + 1) g) o (o + 2) f 0 (λ k. omega arith)
        ∙ get_or-set_other (set out (o + 2) h) (o + 1) (o + 2) g 0 (λ k. omega arith) ∙ get_or-set_same out (o + 2) h 0 (omega (arith, size))

    go : (t : List ℕ) → l ≡ t ++ rest → n ≡ length t → f ≡ get_or t 0 0 → (1 < length t → g ≡ get_or t 1 0) → (2 < length t → h ≡ get_or t 2 0) → Filling T d rest X (o + n)
    go [] e z q₀ q₁ q₂ = let k : ⊥ = omega arith in absurd k
    go (a ∷ []) e z q₀ q₁ q₂ = rw z (first rest (rw q₀ e))
    go (a ∷ b ∷ []) e z q₀ q₁ q₂ =
        let k : o + n ≡ o + 1 + 1 = omega arith in
        rw k (there (first (b ∷ rest) (rw q₀ e)) b rest refl (at_one ∙ q₁ (omega arith)))
    go (a ∷ b ∷ c ∷ []) e z q₀ q₁ q₂ =
        let k : o + n ≡ o + 1 + 1 + 1 = omega arith in
        rw k (there (there (first (b ∷ c ∷ rest) (rw q₀ e)) b (c ∷ rest) refl (at_one ∙ q₁ (omega arith))) c rest refl (at_two ∙ q₂ (omega arith)))
    go (a ∷ b ∷ c ∷ x ∷ t) e z q₀ q₁ q₂ = let k : ⊥ = omega arith in absurd k

module _ {T d l out : List ℕ} {o : ℕ} (w : Filling T d l out o) (e : l ≡ []) where
  pub all : o ≡ length T
  all = omega (arith, left_length w, ap length e)

  pub end : out ≡ overwritten T d
  end =
      sym (take-append-drop (length T) out)
      ∙ ap (λ (x : List ℕ). x ++ drop (length T) out) (rw all at w.front ∙ take-length T)
      ∙ ap (λ (x : List ℕ). T ++ x) w.back
