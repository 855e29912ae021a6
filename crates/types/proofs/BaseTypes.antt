-- The table of base codes: each code is even and stands in it once, so each entry is what its code is looked up as. One test that antt
-- computes over the codes, and a law that carries it to every entry. Assumes nothing.
use mathlib.Core.Path.{◌≡◌, refl, sym, ap}
use mathlib.Core.Bool.{Bool, true, false, not, ◌&&◌}
use mathlib.Core.List.{List, [], ◌∷◌}
use Prim.Native.Nat.{ℕ, zero, suc, ◌<◌, ◌%◌}
use native.Mathlib.Nat.{not-suc-le-zero, le_of_suc-le-suc}
use lib.Dec.{T, eqb, eqb→eq, T_not, eqb_refl}
use lib.ListN.{length, get_or}
use borrow.Author.Tests.{eq-eqb, ne_eqb}
use Rattle.types.specs.declared.Db2Type.{Db2Type}
use Rattle.types.specs.declared.Db2Type.TheVariants as type
use Rattle.types.specs.Types.{listed_or, base_types}

-- no entry has the code
abbrev absent : ℕ → List (ℕ × Db2Type) → Bool
absent c [] = true
absent c (e ∷ es) = not (eqb e.0 c) && absent c es

-- each code is even, and no later entry has it
abbrev even_once : List (ℕ × Db2Type) → Bool
even_once [] = true
even_once (e ∷ es) = (eqb (e.0 % 2) 0 && absent e.0 es) && even_once es

left : (a b : Bool) → T (a && b) → T a
left true b t = tt
left false b t = t

right : (a b : Bool) → T (a && b) → T b
right true b t = t
right false b t = absurd t

-- what holds of the entry at the place k; d stands in for an entry past the end
pub record Listed (es : List (ℕ × Db2Type)) (t : Db2Type) (d : ℕ × Db2Type) (k : ℕ) : Type 0 where
  pub even : (get_or es k d).0 % 2 ≡ 0
  pub once : (j : ℕ) → j < length es → (get_or es j d).0 ≡ (get_or es k d).0 → j ≡ k
  pub found : listed_or t es (get_or es k d).0 ≡ (get_or es k d).1

not_there : (c : ℕ) (es : List (ℕ × Db2Type)) (d : ℕ × Db2Type) → T (absent c es) → (k : ℕ) → k < length es → (get_or es k d).0 ≡ c → ⊥
not_there c [] d t k h q = not-suc-le-zero h
not_there c (e ∷ es) d t zero h q =
    let i : T (eqb e.0 c) = rw q (eqb_refl c) in
    T_not (eqb e.0 c) (left (not (eqb e.0 c)) (absent c es) t) i
not_there c (e ∷ es) d t (suc k) h q = not_there c es d (right (not (eqb e.0 c)) (absent c es) t) k (le_of_suc-le-suc h) q

-- the entry e, whose code no other of e ∷ es has
module _ (e : ℕ × Db2Type) (es : List (ℕ × Db2Type)) (d : ℕ × Db2Type) (a : T (absent e.0 es)) where
  first_once : (j : ℕ) → j < length (e ∷ es) → (get_or (e ∷ es) j d).0 ≡ e.0 → j ≡ 0
  first_once zero h q = refl
  first_once (suc j) h q = absurd (not_there e.0 es d a j (le_of_suc-le-suc h) q)

  later_once : (k : ℕ) → k < length es → ((j : ℕ) → j < length es → (get_or es j d).0 ≡ (get_or es k d).0 → j ≡ k)
      → (j : ℕ) → j < length (e ∷ es) → (get_or (e ∷ es) j d).0 ≡ (get_or es k d).0 → j ≡ suc k
  later_once k l f zero h q = absurd (not_there e.0 es d a k l (sym q))
  later_once k l f (suc j) h q = ap suc (f j (le_of_suc-le-suc h) q)

each : (u : Db2Type) (es : List (ℕ × Db2Type)) (d : ℕ × Db2Type) → T (even_once es) → (k : ℕ) → k < length es → Listed es u d k
unfolding listed_or
each u [] d t k h = absurd (not-suc-le-zero h)
each u (e ∷ es) d t zero h =
    let a = right (eqb (e.0 % 2) 0) (absent e.0 es) (left (eqb (e.0 % 2) 0 && absent e.0 es) (even_once es) t) in
    record {
      even = eqb→eq (e.0 % 2) 0 (left (eqb (e.0 % 2) 0) (absent e.0 es) (left (eqb (e.0 % 2) 0 && absent e.0 es) (even_once es) t));
      once = first_once e es d a;
      found = rw (eq-eqb e.0 e.0 refl);
    }
each u (e ∷ es) d t (suc k) h =
    let a = right (eqb (e.0 % 2) 0) (absent e.0 es) (left (eqb (e.0 % 2) 0 && absent e.0 es) (even_once es) t) in
    let l = each u es d (right (eqb (e.0 % 2) 0 && absent e.0 es) (even_once es) t) k (le_of_suc-le-suc h) in
    record {
      even = l.even;
      once = later_once e es d a k (le_of_suc-le-suc h) l.once;
      found = rw (ne_eqb e.0 (get_or es k d).0 (λ q. not_there e.0 es d a k (le_of_suc-le-suc h) (sym q))) l.found;
    }

-- the rule at each entry of the table
pub listed : (n p s : ℕ) (d : ℕ × Db2Type) (k : ℕ)
    → k < length (base_types n p s)
    → Listed (base_types n p s) (type.VarChar n) d k
unfolding base_types
listed n p s d k h = each (type.VarChar n) (base_types n p s) d tt k h
