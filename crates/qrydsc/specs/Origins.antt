-- What the origins in a description's column list say: N2a to N2c. Statements; proofs/Origins.antt proves them of every description. Assumes nothing.
use Rattle.std.specs.Prelude.{ℕ, ◌<◌, ◌≡◌, Bool, false, cond, not, ◌&&◌, ◌||◌, List, [], ◌∷◌, ◌++◌, eqb, length, get_or, drop}
use Rattle.refusal.specs.Refusal.{accepted}
use Rattle.types.specs.declared.ByteOrder.{ByteOrder}
use Rattle.types.specs.declared.ByteOrder.TheVariants.{BigEndian, LittleEndian}
use Rattle.types.specs.declared.Origin.{Origin}
use Rattle.types.specs.declared.Origin.TheVariants.{Sda, UndeclaredLid, DeclaredLid}
use Rattle.types.specs.declared.ColumnDescriptor.{ColumnDescriptor}
use Rattle.types.specs.declared.Columns.{Columns}
use Rattle.types.specs.Places.{blank_column}
use Rattle.triplets.specs.Triplets.{Triplet, reading}
use Rattle.qrydsc.specs.Qrydsc.{description}

-- the column at a place of a list
abbrev pub column_at : Columns → ℕ → ColumnDescriptor
column_at l i = get_or l.columns i blank_column

-- Q10, N2c: an SDA's column is little-endian, and a LID's big-endian
abbrev pub order_from : Origin → ByteOrder
order_from Sda = LittleEndian
order_from UndeclaredLid = BigEndian
order_from DeclaredLid = BigEndian

-- below the count: a blank place says SDA and is big-endian
abbrev pub OrderedByOrigin : Columns → Type 0
OrderedByOrigin l = (i : ℕ) → i < l.count → (column_at l i).byte_order ≡ order_from (column_at l i).origin

-- ---- N2a, N2b: the origins by the triplets alone, with nothing kept from one to the next. `before` are the triplets before a place, the nearest first

-- an MDD with data stands right before
abbrev pub behind_mdd : List Triplet → Bool
behind_mdd [] = false
behind_mdd (t ∷ before) = eqb t.kind 0x78 && not (eqb (length t.body) 0)

-- the LID l is declared: somewhere before, behind such an MDD, stands an SDA whose data begin with l
unfoldable pub is_declared : List Triplet → ℕ → Bool
is_declared [] l = false
is_declared (t ∷ before) l =
    (behind_mdd before && (eqb t.kind 0x70 && (not (eqb (length t.body) 0) && eqb (get_or t.body 0 0) l))) || is_declared before l

-- of a D0 group, from the bytes after D0
unfoldable pub lid_origins : List Triplet → List ℕ → List Origin
lid_origins before [] = []
lid_origins before (l ∷ []) = []
lid_origins before (l ∷ a ∷ []) = []
lid_origins before (l ∷ a ∷ b ∷ d) = cond (is_declared before l) DeclaredLid UndeclaredLid ∷ lid_origins before d

-- of an SDA with the data d, and of the inner triplets of another group
abbrev pub sda_origins : List ℕ → List Origin
sda_origins d = cond (eqb (length d) 0) [] (Sda ∷ [])

unfoldable pub inner_origins : List Triplet → List Origin
inner_origins [] = []
inner_origins (t ∷ ts) = cond (eqb t.kind 0x70) (sda_origins t.body) [] ++ inner_origins ts

abbrev pub group_origins : List Triplet → List ℕ → List Origin
group_origins before d = cond (eqb (get_or d 0 0) 0xD0) (lid_origins before (drop 1 d)) (inner_origins (reading 3 d).triplets)

unfoldable pub triplet_origins : List Triplet → Triplet → List Origin
triplet_origins before t =
    cond (eqb t.kind 0x70) (cond (behind_mdd before) [] (sda_origins t.body))
    (cond (eqb t.kind 0x76) (group_origins before t.body) [])

unfoldable pub origins_from : List Triplet → List Triplet → List Origin
origins_from before [] = []
origins_from before (t ∷ ts) = triplet_origins before t ++ origins_from (t ∷ before) ts

-- of a description that is accepted, at every place: behind the last column too, where a blank place says SDA
abbrev pub OriginsByTriplets : Type 0
OriginsByTriplets =
    (s : List ℕ) → ((i : ℕ) → get_or s i 0 < 0x100) → (description s).outcome ≡ accepted
    → (i : ℕ) → (column_at (description s).columns i).origin ≡ get_or (origins_from [] (reading 2 s).triplets) i Sda
