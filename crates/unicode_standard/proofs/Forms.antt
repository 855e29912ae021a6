-- An encoding form and its reading, for UTF-8 and UTF-16 alike: from what is read of one scalar value to what is read of any sequence. Assumes nothing.
use Prim.Native.Nat.{ℕ, zero, suc, ◌≤◌, ◌<◌}
use mathlib.Core.Bool.{true}
use mathlib.Core.List.Memᴰ
use mathlib.Core.List.{List, [], ◌∷◌, ◌++◌, append-nil, append_assoc, map, flatten}
use mathlib.Core.Logic.{◌⊎◌, inl, inr, ⊎_elim}
use mathlib.Core.Path.{◌≡◌, refl, sym, ap, ap₂, subst, ◌∙◌}
use native.Mathlib.Omega.{arith}
use lib.ListN.{length, take, drop, get_or, take-append-drop}
use lib.Seq.{drop_at}
use Rattle.unicode_standard.specs.Unicode.{Piece, scalar, malformed, within, is_scalar_value, utf8, replacement, piece_text, pieces_text, First, read_from}
use Rattle.unicode_standard.specs.Laws.{ScalarValues, WellFormed, Unconvertible, Subpart, MaximalSubpart}
use Rattle.unicode_standard.proofs.Reading.{read_cons}

-- the code units of v, with anything after them, are read as v
pub record Leads (encode : ℕ → List ℕ) (first : ℕ → List ℕ → First) (v : ℕ) : Type 0 where
  pub unit : ℕ
  pub others : List ℕ
  pub code : encode v ≡ unit ∷ others
  pub read : (rest : List ℕ) → first unit (others ++ rest) ≡ record { piece = scalar v; more = length others }

-- of two beginnings of one list, one begins the other
prefix : (a b c d : List ℕ) → a ++ b ≡ c ++ d → ((x : List ℕ) × (c ≡ a ++ x)) ⊎ ((x : List ℕ) × (a ≡ c ++ x))
prefix [] b c d e = inl (c, refl)
prefix (i ∷ a) b [] d e = inr (i ∷ a, refl)
prefix (i ∷ a) b (j ∷ c) d e =
    let h : i ≡ j = cc in
    let t : a ++ b ≡ c ++ d = cc in
    ⊎_elim (λ w. inl (w.0, ap₂ (λ (z : ℕ) (zs : List ℕ). z ∷ zs) (sym h) w.1)) (λ w. inr (w.0, ap₂ (λ (z : ℕ) (zs : List ℕ). z ∷ zs) h w.1)) (prefix a b c d t)

-- ---- well-formed sequences

pub nil_well_formed : (encode : ℕ → List ℕ) → WellFormed encode []
unfolding flatten
nil_well_formed encode = ([], λ v m. absurd (Memᴰ.not-nil m), refl)

pub cons_well_formed : (encode : ℕ → List ℕ) (v : ℕ) (s : List ℕ) → is_scalar_value v ≡ true → WellFormed encode s → WellFormed encode (encode v ++ s)
unfolding flatten
cons_well_formed encode v s h w = (v ∷ w.0, also, ap (λ (l : List ℕ). encode v ++ l) w.2)
  where
    also : ScalarValues (v ∷ w.0)
    also x (Memᴰ.head e) = rw e h
    also x (Memᴰ.tail m) = w.1 x m

one_well_formed : (encode : ℕ → List ℕ) (v : ℕ) → is_scalar_value v ≡ true → WellFormed encode (encode v)
one_well_formed encode v h = rw append-nil at (cons_well_formed encode v [] h (nil_well_formed encode))

-- the code units of a scalar value begin a well-formed sequence that is not empty
well_formed_cons : (encode : ℕ → List ℕ) (u : ℕ) (us : List ℕ) → WellFormed encode (u ∷ us) → (v : ℕ) × (rest : List ℕ) × (is_scalar_value v ≡ true) × (encode v ++ rest ≡ u ∷ us)
unfolding flatten
well_formed_cons encode u us w = go w.0 w.1 w.2
  where
    go : (vs : List ℕ) → ScalarValues vs → flatten (map encode vs) ≡ u ∷ us → (v : ℕ) × (rest : List ℕ) × (is_scalar_value v ≡ true) × (encode v ++ rest ≡ u ∷ us)
    go [] h e = let z : ◌≡◌ {A = ℕ} 0 1 = cc in absurd (omega arith)
    go (v ∷ vs) h e = (v, flatten (map encode vs), h v (Memᴰ.head refl), e)

-- ---- reading

module _ (encode : ℕ → List ℕ) (first : ℕ → List ℕ → First) (leads : (v : ℕ) → is_scalar_value v ≡ true → Leads encode first v) where
  pub back : (v : ℕ) → is_scalar_value v ≡ true → (rest : List ℕ) → read_from first 0 (encode v ++ rest) ≡ scalar v ∷ read_from first 0 rest
  back v h rest =
      let l : Leads encode first v = leads v h in
      rw (l.code, read_cons first l.unit (l.others ++ rest), l.read rest, drop_at l.others rest (length l.others) refl)

  -- scalar values' code units are read as those values
  pub back_all : (vs : List ℕ) → ScalarValues vs → read_from first 0 (flatten (map encode vs)) ≡ map scalar vs
  unfolding flatten read_from
  back_all [] h = refl
  back_all (v ∷ vs) h = back v (h v (Memᴰ.head refl)) (flatten (map encode vs)) ∙ ap (λ (ps : List Piece). scalar v ∷ ps) (back_all vs (λ w m. h w (Memᴰ.tail m)))

  -- where a scalar value's code units stand first, the first piece is that value
  pub stands_first : (v : ℕ) → is_scalar_value v ≡ true → (rest : List ℕ) (u : ℕ) (us : List ℕ) → encode v ++ rest ≡ u ∷ us → (first u us).piece ≡ scalar v
  stands_first v h rest u us e =
      let l : Leads encode first v = leads v h in
      let q : l.unit ∷ (l.others ++ rest) ≡ u ∷ us = rw l.code at e in
      let x : l.unit ≡ u = cc in
      let y : l.others ++ rest ≡ us = cc in
      rw (← x, ← y, l.read rest)

  module _ (u : ℕ) (us : List ℕ) (bad : (first u us).piece ≡ malformed) where
    -- nothing well-formed stands first
    none_first : (v : ℕ) → is_scalar_value v ≡ true → (rest : List ℕ) → encode v ++ rest ≡ u ∷ us → ⊥
    none_first v h rest e =
        let p : (first u us).piece ≡ scalar v = stands_first v h rest u us e in
        let z : ◌≡◌ {A = ℕ} 0 1 = cc in
        omega arith

    unconvertible : Unconvertible encode (u ∷ us)
    unconvertible zero h k w = omega arith
    unconvertible (suc n) h k w =
        let c = well_formed_cons encode u (take n us) w in
        none_first c.0 c.2 (c.1 ++ drop n us)
        (sym (append_assoc (encode c.0) c.1 (drop n us)) ∙ ap (λ (l : List ℕ). l ++ drop n us) c.3 ∙ ap (λ (l : List ℕ). u ∷ l) (take-append-drop n us))

    -- the maximal subpart is u and n code units more: they are there and begin a scalar value's code units, or are none; and no more of them begin one
    pub is_maximal : (n : ℕ) → n ≤ length us
        → (n ≡ 0) ⊎ ((v : ℕ) × (rest : List ℕ) × (is_scalar_value v ≡ true) × (encode v ≡ u ∷ (take n us ++ rest)))
        → ((k v : ℕ) (rest : List ℕ) → is_scalar_value v ≡ true → k ≤ length us → encode v ≡ u ∷ (take k us ++ rest) → k ≤ n)
        → MaximalSubpart encode (suc n) (u ∷ us)
    is_maximal n l b g = record { unconvertible = unconvertible; subpart = (omega arith, begins b); longest = longest }
      where
        begins : (n ≡ 0) ⊎ ((v : ℕ) × (rest : List ℕ) × (is_scalar_value v ≡ true) × (encode v ≡ u ∷ (take n us ++ rest))) → ((rest : List ℕ) × WellFormed encode (u ∷ (take n us ++ rest))) ⊎ (suc n ≡ 1)
        begins (inl e) = inr (ap suc e)
        begins (inr w) = inl (w.1, subst (WellFormed encode) w.3 (one_well_formed encode w.0 w.2))

        longest : (m : ℕ) → Subpart encode m (u ∷ us) → m ≤ suc n
        longest zero s = omega arith
        longest (suc k) s = ⊎_elim (λ w. within w) (λ e. omega arith) s.1
          where
            within : (rest : List ℕ) × WellFormed encode (u ∷ (take k us ++ rest)) → suc k ≤ suc n
            within w =
                let c = well_formed_cons encode u (take k us ++ w.0) w.1 in
                let lk : k ≤ length us = omega (arith, s.0) in
                ⊎_elim
                (λ x. let i : k ≤ n = g k c.0 x.0 c.2 lk x.1 in omega arith)
                (λ x. absurd (none_first c.0 c.2 (x.0 ++ drop k us) (sym (append_assoc (encode c.0) x.0 (drop k us)) ∙ ap (λ (l : List ℕ). l ++ drop k us) (sym x.1) ∙ ap (λ (l : List ℕ). u ∷ l) (take-append-drop k us))))
                (prefix (u ∷ take k us) w.0 (encode c.0) c.1 (sym c.3))

-- ---- the text of what is read

-- each piece is malformed, or a scalar value
abbrev pub Scalars : List Piece → Type 0
Scalars [] = Unit {0}
Scalars (scalar v ∷ ps) = (is_scalar_value v ≡ true) × Scalars ps
Scalars (malformed ∷ ps) = Scalars ps

pub read_scalars : (first : ℕ → List ℕ → First) (limit : ℕ) → ((u : ℕ) (us : List ℕ) (v : ℕ) → u < limit → (first u us).piece ≡ scalar v → is_scalar_value v ≡ true)
    → (k : ℕ) (s : List ℕ) → ((i : ℕ) → get_or s i 0 < limit) → Scalars (read_from first k s)
unfolding read_from
read_scalars first limit h k [] b = tt
read_scalars first limit h (suc k) (u ∷ us) b = read_scalars first limit h k us (λ i. b (suc i))
read_scalars first limit h zero (u ∷ us) b = go (first u us).piece refl (read_scalars first limit h (first u us).more us (λ i. b (suc i)))
  where
    go : (p : Piece) → (first u us).piece ≡ p → Scalars (read_from first (first u us).more us) → Scalars (p ∷ read_from first (first u us).more us)
    go (scalar v) e w = (h u us v (b 0) e, w)
    go malformed e w = w

-- it is well-formed UTF-8
pub scalars_well_formed : (ps : List Piece) → Scalars ps → WellFormed utf8 (pieces_text ps)
unfolding pieces_text piece_text is_scalar_value within
scalars_well_formed [] h = nil_well_formed utf8
scalars_well_formed (scalar v ∷ ps) h = cons_well_formed utf8 v (pieces_text ps) h.0 (scalars_well_formed ps h.1)
scalars_well_formed (malformed ∷ ps) h = cons_well_formed utf8 replacement (pieces_text ps) refl (scalars_well_formed ps h)
