-- What the origins in a description's column list say (specs/Origins.antt): of every description. Assumes nothing.
use Rattle.std.specs.Prelude.{Option, None, Some, is_some}
use mathlib.Core.Path.{◌≡◌, refl, sym, ap, ◌∙◌}
use mathlib.Core.Bool.{Bool, true, false, cond, not, ◌&&◌, ◌||◌}
use mathlib.Core.List.{List, [], ◌∷◌, ◌++◌}
use Prim.Native.Nat.{ℕ, zero, suc, ◌+◌, ◌-◌, ◌<◌}
use native.Mathlib.Omega.{arith}
use native.Mathlib.Nat.{not-suc-le-zero, le_of_suc-le-suc}
use lib.Dec.{ltb, eqb}
use lib.ListN.{length, get_or, drop, set, replicate, length-set, length-replicate, get_or-append}
use lib.Seq.{get_or-set_same, get_or-set_other}
use borrow.Author.Tests.{eqb-true, eqb-false}
use Rattle.refusal.specs.Refusal.{accepted, told_number}
use Rattle.types.specs.declared.Origin.{Origin}
use Rattle.types.specs.declared.Origin.TheVariants.{Sda, UndeclaredLid, DeclaredLid}
use Rattle.types.specs.declared.ColumnDescriptor.{ColumnDescriptor}
use Rattle.types.specs.Places.{max_columns, filled, blank_column, column_list}
use Rattle.column.specs.declared.EnvEntry.{EnvEntry}
use Rattle.column.specs.Column.{sda_column}
use Rattle.column.specs.Group.{entry_of, first_entry, no_entry, declared_column, lid_column}
use Rattle.column.proofs.Undeclared.{undeclared_is}
use Rattle.triplets.specs.Triplets.{Triplet, reading_of, reading, breaks_off}
use Rattle.triplets.specs.Descriptors.{Environment, last_of, pending_after, no_entries, declare, environment_after, sda_columns, outer_sda, lid_columns, inner_columns, group_columns, triplet_columns, columns_from, columns_of}
use Rattle.triplets.proofs.Every.{Every, EachByte, Body, Describes, each_drop, every_read, every_column}
use Rattle.qrydsc.specs.Qrydsc.{numbered, DescriptionTold, refused_description, list_answer, max_qrydsc, description}
use Rattle.qrydsc.specs.Origins.{column_at, order_from, OrderedByOrigin, behind_mdd, is_declared, lid_origins, sda_origins, inner_origins, triplet_origins, origins_from, OriginsByTriplets}
use Rattle.qrydsc.proofs.Lists.{length_numbered, blank_after}

abbrev ByOrigin : ColumnDescriptor → Type 0
ByOrigin c = c.byte_order ≡ order_from c.origin

sda_by_origin : (d : List ℕ) → ByOrigin (sda_column d)
unfolding sda_column
sda_by_origin d = refl

lid_by_origin : (e : Option EnvEntry) (l a b : ℕ) → ByOrigin (lid_column e l a b)
unfolding lid_column declared_column
lid_by_origin None l a b = undeclared_is ByOrigin l a b (λ n m t. refl)
lid_by_origin (Some e) l a b = refl

described : Describes ByOrigin (λ e. Unit {0}) (λ b. Unit {0})
described = record { of_zero = tt; of_no_entry = tt; of_entry = λ mdd d h k. tt; of_sda = λ d h. sda_by_origin d; of_lid = λ e l a b h i j k. lid_by_origin e l a b }

numbered_at : (k : ℕ) (cs : List ColumnDescriptor) → Every ByOrigin cs → (i : ℕ) → i < length cs → ByOrigin (get_or (numbered k cs) i blank_column)
unfolding numbered
numbered_at k [] h i l = absurd (not-suc-le-zero l)
numbered_at k (c ∷ cs) h zero l = h.0
numbered_at k (c ∷ cs) h (suc i) l = numbered_at (k + 1) cs h.1 i (le_of_suc-le-suc l)

listed : (cs : List ColumnDescriptor) → Every ByOrigin cs → OrderedByOrigin (column_list (numbered 0 cs))
unfolding column_list filled
listed cs h i l =
    let n = length_numbered 0 cs in
    rw (get_or-append (numbered 0 cs) (replicate (max_columns - length (numbered 0 cs)) blank_column) blank_column i l) (numbered_at 0 cs h i (omega arith))

pub none_by_origin : OrderedByOrigin (column_list [])
unfolding numbered
none_by_origin = listed [] tt

answered : (f : Bool) (cs : List ColumnDescriptor) → Every ByOrigin cs → OrderedByOrigin (list_answer f cs).columns
unfolding list_answer
answered f cs h = go (ltb max_columns (length cs)) refl
  where
    go : (b : Bool) → ltb max_columns (length cs) ≡ b → OrderedByOrigin (list_answer f cs).columns
    go true t = rw t none_by_origin
    go false t = rw t (listed cs h)

-- of every description
pub description_by_origin : (s : List ℕ) → OrderedByOrigin (description s).columns
unfolding description
description_by_origin s = go (ltb max_qrydsc (length s)) refl
  where
    go : (b : Bool) → ltb max_qrydsc (length s) ≡ b → OrderedByOrigin (description s).columns
    go true t = rw t none_by_origin
    go false t = rw t (answered (breaks_off s) (columns_of s) (every_column ByOrigin (λ e. Unit {0}) (λ b. Unit {0}) described s (λ i. tt)))

-- ---- the origins by the triplets alone

origins : List ColumnDescriptor → List Origin
origins [] = []
origins (c ∷ cs) = c.origin ∷ origins cs

origins_append : (cs ds : List ColumnDescriptor) → origins (cs ++ ds) ≡ origins cs ++ origins ds
unfolding origins
origins_append [] ds = refl
origins_append (c ∷ cs) ds = ap (λ (os : List Origin). c.origin ∷ os) (origins_append cs ds)

pick : (b : Bool) (cs ds : List ColumnDescriptor) → origins (cond b cs ds) ≡ cond b (origins cs) (origins ds)
pick true cs ds = refl
pick false cs ds = refl

-- what is pending and the environment, by the triplets before
record Known (before : List Triplet) (p : Option ℕ) (env : Environment) : Type 0 where
  pub left : is_some p ≡ behind_mdd before
  pub places : length env ≡ 256
  pub entries : (l : ℕ) → l < 256 → is_some (get_or env l no_entry) ≡ is_declared before l

abbrev Bytes : List ℕ → Type 0
Bytes = EachByte (λ (b : ℕ). b < 256)

sda_origins_lem : (d : List ℕ) → origins (sda_columns d) ≡ sda_origins d
unfolding origins sda_columns sda_column
sda_origins_lem d = pick (eqb (length d) 0) [] (sda_column d ∷ [])

lid_origin : (e : Option EnvEntry) (l a b : ℕ) → (lid_column e l a b).origin ≡ cond (is_some e) DeclaredLid UndeclaredLid
unfolding lid_column declared_column
lid_origin None l a b = undeclared_is (λ (c : ColumnDescriptor). c.origin ≡ UndeclaredLid) l a b (λ n m t. refl)
lid_origin (Some e) l a b = refl

lid_origins_lem : (before : List Triplet) (p : Option ℕ) (env : Environment) → Known before p env → (d : List ℕ) → Bytes d → origins (lid_columns env d) ≡ lid_origins before d
unfolding origins lid_columns lid_origins
lid_origins_lem before p env k [] h = refl
lid_origins_lem before p env k (l ∷ []) h = refl
lid_origins_lem before p env k (l ∷ a ∷ []) h = refl
lid_origins_lem before p env k (l ∷ a ∷ b ∷ d) h =
    rw (lid_origin (get_or env l no_entry) l a b, k.entries l (h 0), lid_origins_lem before p env k d (λ i. h (suc (suc (suc i)))))

outer_origins : (p : Option ℕ) (d : List ℕ) → origins (outer_sda p d) ≡ cond (is_some p) [] (sda_origins d)
unfolding origins outer_sda
outer_origins None d = sda_origins_lem d
outer_origins (Some m) d = refl

inner_origins_lem : (ts : List Triplet) → origins (inner_columns ts) ≡ inner_origins ts
unfolding origins inner_columns inner_origins
inner_origins_lem [] = refl
inner_origins_lem (t ∷ ts) =
    origins_append (cond (eqb t.kind 0x70) (sda_columns t.body) []) (inner_columns ts)
    ∙ rw (pick (eqb t.kind 0x70) (sda_columns t.body) [], sda_origins_lem t.body, inner_origins_lem ts)

triplet_origins_lem : (before : List Triplet) (p : Option ℕ) (env : Environment) → Known before p env → (t : Triplet) → Body (λ (b : ℕ). b < 256) t
    → origins (triplet_columns p env t) ≡ triplet_origins before t
unfolding origins triplet_columns triplet_origins group_columns
triplet_origins_lem before p env k t h =
    pick (eqb t.kind 0x70) (outer_sda p t.body) (cond (eqb t.kind 0x76) (group_columns env t.body) [])
    ∙ rw (
      outer_origins p t.body,
      k.left,
      pick (eqb t.kind 0x76) (group_columns env t.body) [],
      pick (eqb (get_or t.body 0 0) 0xD0) (lid_columns env (drop 1 t.body)) (inner_columns (reading 3 t.body).triplets),
      lid_origins_lem before p env k (drop 1 t.body) (each_drop (λ (b : ℕ). b < 256) 1 t.body h),
      inner_origins_lem (reading 3 t.body).triplets,
    )

-- ---- a triplet more

left_after : (t : Triplet) (before : List Triplet) → is_some (pending_after t) ≡ behind_mdd (t ∷ before)
unfolding pending_after last_of
left_after t before = go (eqb t.kind 0x78) (eqb (length t.body) 0)
  where
    go : (x y : Bool) → is_some (cond x (cond y None (Some (get_or t.body (length t.body - 1) 0))) None) ≡ x && not y
    go true true = refl
    go true false = refl
    go false y = refl

-- an SDA behind an MDD
module _ (before : List Triplet) (m : ℕ) (env : Environment) (k : Known before (Some m) env) (t : Triplet) (h : Body (λ (b : ℕ). b < 256) t) where
  l : ℕ
  l = get_or t.body 0 0

  entry : Option EnvEntry
  entry = first_entry (get_or env l no_entry) (Some (entry_of m t.body))

  first_some : (known : Option EnvEntry) (e : EnvEntry) → is_some (first_entry known (Some e)) ≡ true
  unfolding first_entry
  first_some None e = refl
  first_some (Some k) e = refl

  declared_places : length (environment_after (Some m) env t) ≡ 256
  unfolding environment_after declare
  declared_places = go (eqb t.kind 0x70) (eqb (length t.body) 0)
    where
      go : (x y : Bool) → length (cond x (cond y env (declare env (get_or t.body 0 0) (entry_of m t.body))) env) ≡ 256
      go true true = k.places
      go true false = length-set env (get_or t.body 0 0) (first_entry (get_or env (get_or t.body 0 0) no_entry) (Some (entry_of m t.body))) ∙ k.places
      go false y = k.places

  declared_entries : (j : ℕ) → j < 256 → is_some (get_or (environment_after (Some m) env t) j no_entry) ≡ is_declared (t ∷ before) j
  unfolding environment_after declare is_declared l entry
  declared_entries j hj = rw (← k.left) (go (eqb t.kind 0x70) (eqb (length t.body) 0) (eqb l j) refl)
    where
      go : (x y z : Bool) → eqb l j ≡ z
          → is_some (get_or (cond x (cond y env (set env l entry)) env) j no_entry) ≡ (x && (not y && z)) || is_declared before j
      go true true z e = k.entries j hj
      go false y z e = k.entries j hj
      go true false true e =
          let same : j ≡ l = sym (eqb-true l j e) in
          let fits : l < length env = omega (arith, h 0, k.places) in
          rw same (ap (λ (v : Option EnvEntry). is_some v) (get_or-set_same env l entry no_entry fits) ∙ first_some (get_or env l no_entry) (entry_of m t.body))
      go true false false e =
          ap (λ (v : Option EnvEntry). is_some v) (get_or-set_other env l j entry no_entry (λ q. eqb-false l j e (sym q))) ∙ k.entries j hj

known_after : (before : List Triplet) (p : Option ℕ) (env : Environment) → Known before p env → (t : Triplet) → Body (λ (b : ℕ). b < 256) t
    → Known (t ∷ before) (pending_after t) (environment_after p env t)
unfolding environment_after is_declared
known_after before None env k t h = record { left = left_after t before; places = k.places; entries = λ j hj. rw (← k.left) (k.entries j hj) }
known_after before (Some m) env k t h =
    record { left = left_after t before; places = declared_places before m env k t h; entries = declared_entries before m env k t h }

origins_from_lem : (before : List Triplet) (p : Option ℕ) (env : Environment) → Known before p env → (ts : List Triplet) → Every (Body (λ (b : ℕ). b < 256)) ts
    → origins (columns_from p env ts) ≡ origins_from before ts
unfolding origins columns_from origins_from
origins_from_lem before p env k [] h = refl
origins_from_lem before p env k (t ∷ ts) h =
    origins_append (triplet_columns p env t) (columns_from (pending_after t) (environment_after p env t) ts)
    ∙ rw (triplet_origins_lem before p env k t h.0, origins_from_lem (t ∷ before) (pending_after t) (environment_after p env t) (known_after before p env k t h.0) ts h.1)

known_first : Known [] None no_entries
unfolding is_declared no_entries no_entry
known_first = record { left = refl; places = length-replicate 256 no_entry; entries = λ j hj. ap (λ (v : Option EnvEntry). is_some v) (blank_after no_entry 256 j) }

columns_origins : (s : List ℕ) → Bytes s → origins (columns_of s) ≡ origins_from [] (reading 2 s).triplets
unfolding columns_of reading
columns_origins s h = origins_from_lem [] None no_entries known_first (reading_of 2 (length s) s).triplets (every_read (λ (b : ℕ). b < 256) (omega arith) 2 (length s) s h)

-- ---- in the list

placed : (k : ℕ) (cs : List ColumnDescriptor) (n i : ℕ) → (get_or (numbered k cs ++ replicate n blank_column) i blank_column).origin ≡ get_or (origins cs) i Sda
unfolding numbered origins blank_column
placed k [] n i = ap (λ (c : ColumnDescriptor). c.origin) (blank_after blank_column n i)
placed k (c ∷ cs) n zero = refl
placed k (c ∷ cs) n (suc i) = placed (k + 1) cs n i

-- of every description that is accepted
pub origins_by_triplets : OriginsByTriplets
unfolding description list_answer column_list filled
origins_by_triplets s h a i = go (ltb max_qrydsc (length s)) (ltb max_columns (length (columns_of s))) a
  where
    answer : Bool → Bool → DescriptionTold
    answer x y = cond x (refused_description 1 []) (cond y (refused_description 2 []) (record { outcome = accepted; columns = column_list (numbered 0 (columns_of s)); broken_off = breaks_off s }))

    go : (x y : Bool) → (answer x y).outcome ≡ accepted → (column_at (answer x y).columns i).origin ≡ get_or (origins_from [] (reading 2 s).triplets) i Sda
    go true y e = let z = ap told_number e in absurd (omega (arith, z))
    go false true e = let z = ap told_number e in absurd (omega (arith, z))
    go false false e =
        placed 0 (columns_of s) (max_columns - length (numbered 0 (columns_of s))) i
        ∙ ap (λ (os : List Origin). get_or os i Sda) (columns_origins s h)
