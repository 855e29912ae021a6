-- The words of values: one value more, and those of one value. Assumes nothing.
use mathlib.Core.Path.{◌≡◌, refl, sym, ap, ◌∙◌}
use mathlib.Core.List.{List, [], ◌∷◌, ◌++◌}
use Prim.Native.Nat.{ℕ, zero, suc, ◌+◌, ◌*◌, ◌≤◌, ◌<◌}
use native.Mathlib.Omega.{arith}
use lib.ListN.{length, take, drop, set, get_or}
use lib.Seq.{drop-drop, sets, sets-eq, take_at, drop_at}
use Rattle.types.specs.declared.ValuePlace.{ValuePlace}
use Rattle.words.specs.Values.{kind_word, number_word, length_word, pack_values}

pub values_packed : (vs : List ValuePlace) → length (pack_values vs) ≡ 3 * length vs
unfolding pack_values
values_packed [] = refl
values_packed (v ∷ vs) = let e = values_packed vs in omega (arith, e)

-- the three words of a value
abbrev pub three : ValuePlace → List ℕ
three v = kind_word v ∷ number_word v.value ∷ length_word v.value ∷ []

more : (vs : List ValuePlace) (v : ValuePlace) → pack_values (vs ++ (v ∷ [])) ≡ pack_values vs ++ three v
unfolding pack_values
more [] v = refl
more (u ∷ vs) v = ap (λ (l : List ℕ). three u ++ l) (more vs v)

-- three words stored behind those of vs
pub stored_value : (vs : List ValuePlace) (v : ValuePlace) (old words : List ℕ) (q : ℕ) → q ≡ 3 * length vs → q + 3 ≤ length words → words ≡ pack_values vs ++ drop q old
    → set (set (set words q (kind_word v)) (q + 1) (number_word v.value)) (q + 2) (length_word v.value) ≡ pack_values (vs ++ (v ∷ [])) ++ drop (q + 3) old
stored_value vs v old words q e room w =
    let n : length (pack_values vs) ≡ q = values_packed vs ∙ sym e in
    let e1 : q + 1 ≡ suc q = omega arith in
    let e2 : q + 2 ≡ suc (suc q) = omega arith in
    let front : take q words ≡ pack_values vs = ap (take q) w ∙ take_at (pack_values vs) (drop q old) q n in
    let back : drop (q + 3) words ≡ drop (q + 3) old =
    sym (drop-drop 3 q words) ∙ ap (drop 3) (ap (drop q) w ∙ drop_at (pack_values vs) (drop q old) q n) ∙ drop-drop 3 q old in
    let stored : sets words q (three v) ≡ take q words ++ three v ++ drop (q + 3) words = sets-eq (three v) words q room in
    rw (e1, e2) stored ∙ ap (λ (l : List ℕ). l ++ three v ++ drop (q + 3) words) front ∙ ap (λ (l : List ℕ). pack_values vs ++ three v ++ l) back
    ∙ ap (λ (l : List ℕ). l ++ drop (q + 3) old) (sym (more vs v))

-- the words from those of value k on
pub packed_at : (vs : List ValuePlace) (k : ℕ) (blank : ValuePlace) (rest : List ℕ) → k < length vs
    → drop (3 * k) (pack_values vs ++ rest) ≡ three (get_or vs k blank) ++ (pack_values (drop (suc k) vs) ++ rest)
unfolding pack_values
packed_at [] k blank rest h = absurd (omega arith)
packed_at (v ∷ vs) zero blank rest h = refl
packed_at (v ∷ vs) (suc k) blank rest h =
    let e : 3 * suc k ≡ suc (suc (suc (3 * k))) = omega arith in
    rw e (packed_at vs k blank rest (omega arith))
