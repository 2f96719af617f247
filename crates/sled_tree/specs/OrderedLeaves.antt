-- What a leaf shows of the pairs next to a bound, of those within two bounds, and of the number of pairs.
use Rattle.std.specs.Prelude.{◌≡◌, ◌≢◌, ◌⊎◌, ℕ, ◌+◌, List, [], ◌∷◌, ◌++◌, length, Option, Some, None}
use Rattle.std.specs.declared.ops.Bound.{Bound}
use Rattle.std.specs.declared.ops.Bound.TheVariants.{Included, Excluded}
use Rattle.sled_base.specs.Order.{Bytes, IsBelow}
use Rattle.sled_log.specs.Contents.{Content}
use Rattle.sled_node.specs.Neighbours.{IsBehind, IsBefore, IsLeast, IsGreatest, HasNone}
use Rattle.sled_node.specs.Node.{WholeNode, Item, Value, IsWellFormed}
use Rattle.sled_search.specs.Map.{Map}
use Rattle.sled_search.specs.Ordered.{IsNextAbove, IsNextBelow, IsLeafBefore, GoesBefore, start_of}
use Rattle.sled_search.specs.Search.{HasNodeAt, ComesToLeafOf, IsTreeOf}
use Rattle.sled_tree.specs.Ordered.{behind, before, within, first_of, last_of}
use Rattle.sled_tree.specs.declared.neighbours.Near.{Near}
use Rattle.sled_tree.specs.declared.neighbours.Near.TheVariants.{Pair, Further, Nothing}
use Rattle.sled_tree.specs.declared.neighbours.Side.{Side}
use Rattle.sled_tree.specs.declared.neighbours.Side.TheVariants.{Above, Below}
use Rattle.sled_tree.specs.declared.neighbours.count.Part.{Part}
use Rattle.sled_tree.specs.declared.neighbours.pieces.LeafPart.{LeafPart}

-- the search for the keys just before a bound comes to this leaf
abbrev pub ComesBefore : List Content → ℕ → Bound Bytes → ℕ → Type 0
ComesBefore pages root bound leaf = (turns : ℕ) × GoesBefore pages bound turns root leaf × HasNodeAt pages leaf (IsLeafBefore bound)

-- ---- the pair next to a bound

-- the pair of the map on a side of the bound that is next to it
abbrev pub IsNextTo : Side → Map → Bound Bytes → Option (Bytes × Bytes) → Type 0
IsNextTo Above m bound answer = IsNextAbove m bound answer
IsNextTo Below m bound answer = IsNextBelow m bound answer

-- the same pair, of the pairs on that side
abbrev pub next_of : Side → Bound Bytes → Map → Option (Bytes × Bytes)
next_of Above bound m = first_of (behind bound m)
next_of Below bound m = last_of (before bound m)

-- the first pair of a leaf after a bound; or the leaf has none, and its end is where to look further
abbrev pub ShowsAbove : Bound Bytes → Near → WholeNode → Type 0
ShowsAbove bound (Pair pair) n = IsWellFormed n × IsLeast (IsBehind bound) n pair
ShowsAbove bound (Further next) n = HasNone (IsBehind bound) n × (next ≡ Included n.hi) × (n.hi ≢ [])
ShowsAbove bound Nothing n = HasNone (IsBehind bound) n × (n.hi ≡ [])

-- the last pair of a leaf before a bound; or the leaf has none, and its beginning is where to look further
abbrev pub ShowsBelow : Bound Bytes → Near → WholeNode → Type 0
ShowsBelow bound (Pair pair) n = IsWellFormed n × IsGreatest (IsBefore bound) n pair
ShowsBelow bound (Further next) n = HasNone (IsBefore bound) n × (next ≡ Excluded n.lo)
ShowsBelow bound Nothing n = ⊥

abbrev pub ShowsNear : Side → Bound Bytes → Near → WholeNode → Type 0
ShowsNear Above bound near n = ShowsAbove bound near n
ShowsNear Below bound near n = ShowsBelow bound near n

-- the same for the map: the pair; or another bound, next to which the pair is
abbrev pub IsNear : Side → Map → Bound Bytes → Near → Type 0
IsNear side m bound (Pair pair) = IsNextTo side m bound (Some pair)
IsNear side m bound (Further next) = (answer : Option (Bytes × Bytes)) → IsNextTo side m next answer → IsNextTo side m bound answer
IsNear side m bound Nothing = IsNextTo side m bound None

-- the same for whichever map the tree is
abbrev pub SeesNear : Side → ℕ → Bound Bytes → List Content → Near → Type 0
SeesNear side root bound pages near = (m : Map) → IsTreeOf pages root m → IsNear side m bound near

-- ---- the pairs within two bounds

-- pairs as a leaf has them
abbrev pub as_items : Map → List (Bytes × Item)
as_items [] = []
as_items (pair ∷ m) = (pair.0, Value pair.1) ∷ as_items m

-- the pairs of a leaf within the bounds, and the end of the leaf
pub record ShowsWithin (from to : Bound Bytes) (part : LeafPart) (n : WholeNode) : Type 0 where
  pub well_formed : IsWellFormed n
  pub pairs : as_items part.pairs.items ≡ within from to n.pairs
  pub end : n.hi ≡ part.end

-- the same for the map: these pairs come first within the bounds, and the others are from the end on, which is above the lower bound
pub record IsPartOf (from to : Bound Bytes) (m : Map) (part : LeafPart) : Type 0 where
  pub ends : part.end ≡ [] → within from to m ≡ part.pairs.items
  pub goes_on : part.end ≢ [] → within from to m ≡ part.pairs.items ++ within (Included part.end) to m
  pub further : part.end ≢ [] → IsBelow (start_of from) part.end

abbrev pub SeesPart : ℕ → Bound Bytes → Bound Bytes → List Content → LeafPart → Type 0
SeesPart root from to pages part = (m : Map) → IsTreeOf pages root m → IsPartOf from to m part

-- ---- the number of pairs

-- a leaf has this number of pairs, and ends there
pub record ShowsPart (part : Part) (n : WholeNode) : Type 0 where
  pub well_formed : IsWellFormed n
  pub pairs : length n.pairs ≡ part.pairs
  pub end : n.hi ≡ part.end

-- the leaf of the key has this part
abbrev pub HasPart : List Content → ℕ → Bytes → Part → Type 0
HasPart pages root key part = (leaf : ℕ) × ComesToLeafOf pages key key leaf root × HasNodeAt pages leaf (ShowsPart part)

-- the first of all keys, or one at which a leaf ends
abbrev pub IsStart : List Content → ℕ → Bytes → Type 0
IsStart pages root key = (key ≡ []) ⊎ ((other : Bytes) × (leaf : ℕ) × ComesToLeafOf pages other other leaf root × HasNodeAt pages leaf (λ n. n.hi ≡ key))

-- The map has this number of pairs below the key. The part is that of the leaf of the key.
pub record IsCounted (pages : List Content) (root count : ℕ) (part : Part) : Type 0 where
  pub key : Bytes
  pub start : IsStart pages root key
  pub has : HasPart pages root key part
  pub counted : (m : Map) → IsTreeOf pages root m → length m ≡ count + length (behind (Included key) m)
