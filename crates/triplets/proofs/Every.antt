-- What holds of the column of every SDA and of every LID holds of every column of a description. B is what is known of its bytes, and E of the environment's
-- entries. Assumes nothing.
use Rattle.std.specs.Prelude.{Option, None, Some}
use Prim.Native.Nat.{ℕ, zero, suc, ◌-◌}
use mathlib.Core.Bool.{Bool, true, false, cond}
use mathlib.Core.List.{List, [], ◌∷◌, ◌++◌}
use lib.Dec.{eqb}
use lib.ListN.{length, get_or, take, drop, set, replicate}
use Rattle.types.specs.declared.ColumnDescriptor.{ColumnDescriptor}
use Rattle.column.specs.declared.EnvEntry.{EnvEntry}
use Rattle.column.specs.Column.{sda_column}
use Rattle.column.specs.Group.{entry_of, first_entry, no_entry, lid_column}
use Rattle.triplets.specs.Triplets.{Triplet, first_triplet, begins, Reading, stopped, cons_triplet, reading_of, reading}
use Rattle.triplets.specs.Descriptors.{Environment, last_of, pending_after, no_entries, declare, environment_after, sda_columns, outer_sda, lid_columns, inner_columns, group_columns, triplet_columns, columns_from, columns_of}

abbrev pub Every : {A : Type 0} → (A → Type 0) → List A → Type 0
Every P [] = Unit {0}
Every P (x ∷ xs) = P x × Every P xs

-- each byte, and 0 where there is none
abbrev pub EachByte : (ℕ → Type 0) → List ℕ → Type 0
EachByte B s = (i : ℕ) → B (get_or s i 0)

pub record Describes (P : ColumnDescriptor → Type 0) (E : Option EnvEntry → Type 0) (B : ℕ → Type 0) : Type 0 where
  pub of_zero : B 0
  pub of_no_entry : E no_entry
  pub of_entry : (mdd : ℕ) (d : List ℕ) → B mdd → EachByte B d → E (Some (entry_of mdd d))
  pub of_sda : (d : List ℕ) → EachByte B d → P (sda_column d)
  pub of_lid : (e : Option EnvEntry) (l a b : ℕ) → E e → B l → B a → B b → P (lid_column e l a b)

every_append : {A : Type 0} (P : A → Type 0) (xs ys : List A) → Every P xs → Every P ys → Every P (xs ++ ys)
every_append P [] ys h k = k
every_append P (x ∷ xs) ys h k = (h.0, every_append P xs ys h.1 k)

every_at : {A : Type 0} (P : A → Type 0) (x : A) → P x → (xs : List A) → Every P xs → (i : ℕ) → P (get_or xs i x)
every_at P x k [] h i = k
every_at P x k (y ∷ xs) h zero = h.0
every_at P x k (y ∷ xs) h (suc i) = every_at P x k xs h.1 i

every_set : {A : Type 0} (P : A → Type 0) (xs : List A) → Every P xs → (i : ℕ) (x : A) → P x → Every P (set xs i x)
every_set P [] h i x k = tt
every_set P (y ∷ xs) h zero x k = (k, h.1)
every_set P (y ∷ xs) h (suc i) x k = (h.0, every_set P xs h.1 i x k)

every_alike : {A : Type 0} (P : A → Type 0) (n : ℕ) (x : A) → P x → Every P (replicate n x)
every_alike P zero x k = tt
every_alike P (suc n) x k = (k, every_alike P n x k)

pub each_drop : (B : ℕ → Type 0) (n : ℕ) (s : List ℕ) → EachByte B s → EachByte B (drop n s)
each_drop B zero s h = h
each_drop B (suc n) [] h = h
each_drop B (suc n) (b ∷ s) h = each_drop B n s (λ i. h (suc i))

each_take : (B : ℕ → Type 0) → B 0 → (n : ℕ) (s : List ℕ) → EachByte B s → EachByte B (take n s)
each_take B z zero s h i = z
each_take B z (suc n) [] h i = z
each_take B z (suc n) (b ∷ s) h zero = h 0
each_take B z (suc n) (b ∷ s) h (suc i) = each_take B z n s (λ j. h (suc j)) i

-- a triplet's data
abbrev pub Body : (ℕ → Type 0) → Triplet → Type 0
Body B t = EachByte B t.body

module _ (B : ℕ → Type 0) (z : B 0) where
  abbrev Read : Reading → Type 0
  Read r = Every (Body B) r.triplets

  pub every_read : (least n : ℕ) (s : List ℕ) → EachByte B s → Read (reading_of least n s)
  unfolding reading_of
  every_read least zero s h = tt
  every_read least (suc n) s h = go (begins least s) (every_read least n (drop (get_or s 0 0) s) (each_drop B (get_or s 0 0) s h))
    where
      go : (b : Bool) → Read (reading_of least n (drop (get_or s 0 0) s)) → Read (cond b (cons_triplet (first_triplet s) (reading_of least n (drop (get_or s 0 0) s))) (stopped s))
      go true r = (each_take B z (get_or s 0 0 - 2) (drop 2 s) (each_drop B 2 s h), r)
      go false r = tt

module _ (P : ColumnDescriptor → Type 0) (E : Option EnvEntry → Type 0) (B : ℕ → Type 0) (k : Describes P E B) where
  every_sda : (d : List ℕ) → EachByte B d → Every P (sda_columns d)
  unfolding sda_columns
  every_sda d h = go (eqb (length d) 0)
    where
      go : (b : Bool) → Every P (cond b [] (sda_column d ∷ []))
      go true = tt
      go false = (k.of_sda d h, tt)

  every_lid : (env : Environment) → Every E env → (d : List ℕ) → EachByte B d → Every P (lid_columns env d)
  unfolding lid_columns
  every_lid env he [] h = tt
  every_lid env he (l ∷ []) h = tt
  every_lid env he (l ∷ a ∷ []) h = tt
  every_lid env he (l ∷ a ∷ b ∷ d) h =
      (k.of_lid (get_or env l no_entry) l a b (every_at E no_entry k.of_no_entry env he l) (h 0) (h 1) (h 2), every_lid env he d (λ i. h (suc (suc (suc i)))))

  every_inner : (ts : List Triplet) → Every (Body B) ts → Every P (inner_columns ts)
  unfolding inner_columns
  every_inner [] h = tt
  every_inner (t ∷ ts) h = every_append P (cond (eqb t.kind 0x70) (sda_columns t.body) []) (inner_columns ts) (go (eqb t.kind 0x70)) (every_inner ts h.1)
    where
      go : (b : Bool) → Every P (cond b (sda_columns t.body) [])
      go true = every_sda t.body h.0
      go false = tt

  every_group : (env : Environment) → Every E env → (d : List ℕ) → EachByte B d → Every P (group_columns env d)
  unfolding group_columns reading
  every_group env he d h = go (eqb (get_or d 0 0) 0xD0)
    where
      go : (b : Bool) → Every P (cond b (lid_columns env (drop 1 d)) (inner_columns (reading_of 3 (length d) d).triplets))
      go true = every_lid env he (drop 1 d) (each_drop B 1 d h)
      go false = every_inner (reading_of 3 (length d) d).triplets (every_read B k.of_zero 3 (length d) d h)

  abbrev PendingIs : Option ℕ → Type 0
  PendingIs None = Unit {0}
  PendingIs (Some m) = B m

  every_outer : (p : Option ℕ) (d : List ℕ) → EachByte B d → Every P (outer_sda p d)
  unfolding outer_sda
  every_outer None d h = every_sda d h
  every_outer (Some m) d h = tt

  every_triplet : (p : Option ℕ) (env : Environment) → Every E env → (t : Triplet) → Body B t → Every P (triplet_columns p env t)
  unfolding triplet_columns
  every_triplet p env he t h = go (eqb t.kind 0x70) (eqb t.kind 0x76)
    where
      go : (x y : Bool) → Every P (cond x (outer_sda p t.body) (cond y (group_columns env t.body) []))
      go true y = every_outer p t.body h
      go false true = every_group env he t.body h
      go false false = tt

  pending_after_lem : (t : Triplet) → Body B t → PendingIs (pending_after t)
  unfolding pending_after last_of
  pending_after_lem t h = go (eqb t.kind 0x78) (eqb (length t.body) 0)
    where
      go : (x y : Bool) → PendingIs (cond x (cond y None (Some (get_or t.body (length t.body - 1) 0))) None)
      go true true = tt
      go true false = h (length t.body - 1)
      go false y = tt

  first_kept : (x y : Option EnvEntry) → E x → E y → E (first_entry x y)
  unfolding first_entry
  first_kept None y hx hy = hy
  first_kept (Some e) y hx hy = hx

  environment_after_lem : (p : Option ℕ) → PendingIs p → (env : Environment) → Every E env → (t : Triplet) → Body B t → Every E (environment_after p env t)
  unfolding environment_after declare
  environment_after_lem None hp env he t h = he
  environment_after_lem (Some m) hp env he t h = go (eqb t.kind 0x70) (eqb (length t.body) 0)
    where
      l : ℕ
      l = get_or t.body 0 0

      go : (x y : Bool) → Every E (cond x (cond y env (declare env l (entry_of m t.body))) env)
      go true true = he
      go true false =
          every_set E env he l (first_entry (get_or env l no_entry) (Some (entry_of m t.body)))
          (first_kept (get_or env l no_entry) (Some (entry_of m t.body)) (every_at E no_entry k.of_no_entry env he l) (k.of_entry m t.body hp h))
      go false y = he

  every_from : (p : Option ℕ) → PendingIs p → (env : Environment) → Every E env → (ts : List Triplet) → Every (Body B) ts → Every P (columns_from p env ts)
  unfolding columns_from
  every_from p hp env he [] h = tt
  every_from p hp env he (t ∷ ts) h =
      every_append P (triplet_columns p env t) (columns_from (pending_after t) (environment_after p env t) ts) (every_triplet p env he t h.0)
      (every_from (pending_after t) (pending_after_lem t h.0) (environment_after p env t) (environment_after_lem p hp env he t h.0) ts h.1)

  pub every_column : (s : List ℕ) → EachByte B s → Every P (columns_of s)
  unfolding columns_of reading no_entries
  every_column s h = every_from None tt no_entries (every_alike E 256 no_entry k.of_no_entry) (reading_of 2 (length s) s).triplets (every_read B k.of_zero 2 (length s) s h)
