-- The pair of a map that is next to a bound, and where a search for the keys just before a bound goes.
use Rattle.std.specs.Prelude.{◌≡◌, ◌≢◌, ◌⊎◌, ℕ, zero, suc, Bool, true, false, not, List, [], ◌∷◌, Option, Some, None, slice_get, if◌then◌else◌}
use Rattle.std.specs.declared.ops.Bound.{Bound}
use Rattle.std.specs.declared.ops.Bound.TheVariants.{Included, Excluded, Unbounded}
use Rattle.sled_base.specs.Order.{Bytes, is_below, IsAtMost}
use Rattle.sled_log.specs.Contents.{Content}
use Rattle.sled_node.specs.Bounds.{ContainsUpper, ContainsLower}
use Rattle.sled_node.specs.Neighbours.{IsBehind, IsBefore}
use Rattle.sled_node.specs.Node.{Item, Child, WholeNode}
use Rattle.sled_search.specs.Map.{Map, at_key, or_else}
use Rattle.sled_search.specs.Search.{HasNodeAt, ComesToLeafOf}

-- the pair is in the map, its key meets the condition, and it is the least of all keys that do; or no key of the map does
abbrev pub IsFirst : (Bytes → Type 0) → Map → Option (Bytes × Bytes) → Type 0
IsFirst IsSuch m (Some pair) = (at_key m pair.0 ≡ Some pair.1) × IsSuch pair.0 × ((key value : Bytes) → at_key m key ≡ Some value → IsSuch key → IsAtMost pair.0 key)
IsFirst IsSuch m None = (key value : Bytes) → at_key m key ≡ Some value → IsSuch key → ⊥

-- the same with the greatest key
abbrev pub IsLast : (Bytes → Type 0) → Map → Option (Bytes × Bytes) → Type 0
IsLast IsSuch m (Some pair) = (at_key m pair.0 ≡ Some pair.1) × IsSuch pair.0 × ((key value : Bytes) → at_key m key ≡ Some value → IsSuch key → IsAtMost key pair.0)
IsLast IsSuch m None = (key value : Bytes) → at_key m key ≡ Some value → IsSuch key → ⊥

-- the first pair of the map after a bound, and the last one before it
abbrev pub IsNextAbove : Map → Bound Bytes → Option (Bytes × Bytes) → Type 0
IsNextAbove m bound answer = IsFirst (IsBehind bound) m answer

abbrev pub IsNextBelow : Map → Bound Bytes → Option (Bytes × Bytes) → Type 0
IsNextBelow m bound answer = IsLast (IsBefore bound) m answer

-- the key to search for to find the keys after a bound: none of them is below it
abbrev pub start_of : Bound Bytes → Bytes
start_of (Included key) = key
start_of (Excluded key) = key
start_of Unbounded = []

-- ---- the keys just before a bound

abbrev pub is_before : Bound Bytes → Bytes → Bool
is_before (Included bound) key = not (is_below bound key)
is_before (Excluded bound) key = is_below key bound
is_before Unbounded key = true

-- the node's range has the keys just before the bound
abbrev pub HasBefore : Bound Bytes → WholeNode → Type 0
HasBefore bound n = ContainsUpper n bound × ContainsLower n false bound

-- the value of the last pair whose key is before the bound
abbrev pub last_before : {V : Type 0} → List (Bytes × V) → Bound Bytes → Option V
last_before [] bound = None
last_before (pair ∷ pairs) bound = or_else (last_before pairs bound) (if is_before bound pair.0 then Some pair.1 else None)

-- a leaf whose range has them
abbrev pub IsLeafBefore : Bound Bytes → WholeNode → Type 0
IsLeafBefore bound n = (n.is_index ≡ false) × HasBefore bound n

-- an index whose range has them leads them to the child of the last pair whose key is before the bound
abbrev pub LeadsDownBefore : WholeNode → Bound Bytes → ℕ → Type 0
LeadsDownBefore n bound child = (n.is_index ≡ true) × HasBefore bound n × (last_before n.pairs bound ≡ Some (Child child))

-- a node whose range lacks them leads them to the right
abbrev pub LeadsRightBefore : WholeNode → Bound Bytes → ℕ → Type 0
LeadsRightBefore n bound page = (¬ HasBefore bound n) × (n.next ≡ Some page)

abbrev pub LeadsBefore : WholeNode → Bound Bytes → ℕ → Type 0
LeadsBefore n bound page = LeadsDownBefore n bound page ⊎ LeadsRightBefore n bound page

-- the node is no such leaf, and leads them nowhere
abbrev pub IsAstrayBefore : Bound Bytes → WholeNode → Type 0
IsAstrayBefore bound n = (¬ IsLeafBefore bound n) × ((page : ℕ) → LeadsBefore n bound page → ⊥)

-- the search goes from one page to another in this number of turns
abbrev pub GoesBefore : List Content → Bound Bytes → ℕ → ℕ → ℕ → Type 0
GoesBefore pages bound zero from to = from ≡ to
GoesBefore pages bound (suc turns) from to = (next : ℕ) × HasNodeAt pages from (λ n. LeadsBefore n bound next) × GoesBefore pages bound turns next to

-- ---- one leaf after another

-- from the leaf of a bound to that leaf's end and on from there, over this number of leaves
abbrev pub GoesUp : List Content → ℕ → Bound Bytes → ℕ → Bound Bytes → Type 0
GoesUp pages root from zero to = from ≡ to
GoesUp pages root from (suc leaves) to = (leaf : ℕ) × ComesToLeafOf pages (start_of from) (start_of from) leaf root × HasNodeAt pages leaf (λ n. (n.hi ≢ []) × GoesUp pages root (Included n.hi) leaves to)

-- the same downwards: from the leaf of the keys just before a bound to that leaf's beginning
abbrev pub GoesDown : List Content → ℕ → Bound Bytes → ℕ → Bound Bytes → Type 0
GoesDown pages root from zero to = from ≡ to
GoesDown pages root from (suc leaves) to = (leaf : ℕ) × ((turns : ℕ) × GoesBefore pages from turns root leaf) × HasNodeAt pages leaf (λ n. IsLeafBefore from n × (n.lo ≢ []) × GoesDown pages root (Excluded n.lo) leaves to)

-- the child of the last of this number of first pairs, or none if the number is zero
abbrev pub IsChildOf : List (Bytes × Item) → ℕ → Option ℕ → Type 0
IsChildOf pairs zero child = child ≡ None
IsChildOf pairs (suc i) child = (key : Bytes) × (page : ℕ) × (slice_get pairs i ≡ Some (key, Child page)) × (child ≡ Some page)
