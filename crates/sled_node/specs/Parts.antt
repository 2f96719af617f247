-- The parts of which a node is made: stored keys lack the first bytes of lo.
use Rattle.std.specs.Prelude.{◌≡◌, ◌≢◌, ℕ, ◌<◌, ◌≤◌, ◌^◌, ◌==◌, Bool, true, false, List, [], ◌∷◌, ◌++◌, length, map, take, Option, Any, ⊤, if◌then◌else◌}
use Rattle.std.specs.List.{AllByRecursion}
use Rattle.sled_base.specs.Order.{Bytes, IsBelow, IsAtMost}
use Rattle.sled_node.specs.declared.node.data.Data.{Data}
use Rattle.sled_node.specs.declared.node.data.Data.TheVariants.{Leaf, Index}
use Rattle.sled_node.specs.declared.node.data.Item.{Item as Lent}
use Rattle.sled_node.specs.declared.node.data.Item.TheVariants as lent
use Rattle.sled_node.specs.Pairs.{IsWithinLimit, set_pair, del_pair, HasPairs}
use Rattle.sled_node.specs.Node.{Item, Value, Child, WholeNode}
use Rattle.sled_node.specs.Limits.{pairs_limit}

abbrev pub is_index : Data → Bool
is_index (Leaf pairs) = false
is_index (Index pairs) = true

-- the pairs with whole keys
abbrev pub pairs_under : Bytes → Data → List (Bytes × Item)
pairs_under front (Leaf pairs) = map (λ pair. (front ++ pair.0, Value pair.1)) pairs
pairs_under front (Index pairs) = map (λ pair. (front ++ pair.0, Child pair.1)) pairs

-- the node of these parts
abbrev pub node_of : ℕ → Option ℕ → Option ℕ → Bool → Bytes → Bytes → Data → WholeNode
node_of prefix_len next child capped lo hi parts = record {
  prefix_len = prefix_len;
  lo = lo;
  hi = hi;
  next = next;
  child = child;
  capped = capped;
  is_index = is_index parts;
  pairs = pairs_under (take prefix_len lo) parts;
}

-- the node's pairs by their stored keys
pub record HoldsData (n : WholeNode) (parts : Data) : Type 0 where
  pub kind : n.is_index ≡ is_index parts
  pub pairs : n.pairs ≡ pairs_under (take n.prefix_len n.lo) parts

-- what a key leads to, of a borrowed item
abbrev pub item_of : Lent → Item
item_of (lent.Value value) = Value value.now
item_of (lent.Child page) = Child page

-- the stored pairs of a leaf after a change; an index has no values, and is unchanged
abbrev pub set_stored : Bytes → Bytes → Data → Data
set_stored key value (Leaf pairs) = Leaf (set_pair key value pairs)
set_stored key value (Index pairs) = Index pairs

abbrev pub del_stored : Bytes → Data → Data
del_stored key (Leaf pairs) = Leaf (del_pair key pairs)
del_stored key (Index pairs) = Index pairs

-- a leaf with room for the pair, which is within the limits
abbrev pub CanSet : Bytes → Bytes → Data → Type 0
CanSet key value (Leaf pairs) = IsWithinLimit key × IsWithinLimit value × (length (set_pair key value pairs) ≤ pairs_limit)
CanSet key value (Index pairs) = ⊤

-- the stored pairs without the first that leads to the page
abbrev pub without_page : ℕ → List (Bytes × ℕ) → List (Bytes × ℕ)
without_page page [] = []
without_page page (pair ∷ pairs) = if pair.1 == page then pairs else pair ∷ without_page page pairs

abbrev pub without_stored : ℕ → Data → Data
without_stored page (Leaf pairs) = Leaf pairs
without_stored page (Index pairs) = Index (without_page page pairs)

abbrev pub LeadsTo : ℕ → Data → Type 0
LeadsTo page (Leaf pairs) = ⊥
LeadsTo page (Index pairs) = Any (λ pair. pair.1 ≡ page) pairs

-- the bounds of a well-formed node whose stored keys lack p bytes
pub record AreBounds (p : ℕ) (lo hi : Bytes) : Type 0 where
  pub range : hi ≢ [] → IsBelow lo hi
  pub prefix_open : hi ≡ [] → p ≡ 0
  pub prefix_common : take p lo ≡ take p hi
  pub bounds : IsWithinLimit lo × IsWithinLimit hi

-- a stored key within the rest of the bounds, of at most this many bytes
abbrev pub IsStoredWithin : Bytes → Bytes → ℕ → Bytes → Type 0
IsStoredWithin lo hi most key = (length key ≤ most) × IsAtMost lo key × (hi ≢ [] → IsBelow key hi)

abbrev pub AreStoredWithin : Bytes → Bytes → ℕ → Data → Type 0
AreStoredWithin lo hi most (Leaf pairs) = AllByRecursion (λ pair. IsStoredWithin lo hi most pair.0) pairs
AreStoredWithin lo hi most (Index pairs) = AllByRecursion (λ pair. IsStoredWithin lo hi most pair.0) pairs

-- what holds for every leaf and every index
abbrev pub HasStored : Data → Type 0
HasStored (Leaf pairs) = HasPairs IsWithinLimit pairs
HasStored (Index pairs) = HasPairs (λ page. page < 2 ^ 64) pairs
