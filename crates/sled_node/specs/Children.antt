-- The children of an index, by whole keys.
use Rattle.std.specs.Prelude.{◌≡◌, ◌⊎◌, ℕ, ◌+◌, ◌<◌, true, false, List, [], ◌∷◌, length, drop, None, Some, slice_get}
use Rattle.std.specs.List.{AllByRecursion}
use Rattle.sled_base.specs.Order.{Bytes, IsBelow, IsAtMost}
use Rattle.sled_node.specs.Limits.{pairs_limit}
use Rattle.sled_node.specs.Pairs.{IsWithinLimit, set_pair}
use Rattle.sled_node.specs.Inserts.{HasKey}
use Rattle.sled_node.specs.Node.{Item, Child, WholeNode, IsInRange}

-- an index of these pairs, over all keys
abbrev pub index_of : List (Bytes × Item) → WholeNode
index_of pairs = record { prefix_len = 0; lo = []; hi = []; next = None; child = None; capped = false; is_index = true; pairs = pairs }

-- there is a first pair, and its key isn't above the given one
abbrev pub BeginsAtMost : {V : Type 0} → List (Bytes × V) → Bytes → Type 0
BeginsAtMost [] key = ⊥
BeginsAtMost (pair ∷ pairs) key = IsAtMost pair.0 key

-- an index with the key in its range, which has a child for it
abbrev pub HasChildFor : WholeNode → Bytes → Type 0
HasChildFor n key = (n.is_index ≡ true) × IsInRange n key × BeginsAtMost n.pairs key

-- the pair at place i is the last one whose key isn't above the given one; the keys after it are above
pub record IsLeadingPair {V : Type 0} (pairs : List (Bytes × V)) (key : Bytes) (i : ℕ) (item : V) : Type 0 where
  pub found : Bytes
  pub here : slice_get pairs i ≡ Some (found, item)
  pub at_most : IsAtMost found key
  pub behind : AllByRecursion (λ later. IsBelow key later.0) (drop (i + 1) pairs)

-- a child may be added to the index at the key: the index has the key, or room for another pair
pub record AcceptsChild (n : WholeNode) (key : Bytes) : Type 0 where
  pub index : n.is_index ≡ true
  pub range : IsInRange n key
  pub limit : IsWithinLimit key
  pub room : (length n.pairs < pairs_limit) ⊎ HasKey n.pairs key

-- the index with the key mapped to the page
abbrev pub with_child : Bytes → ℕ → WholeNode → WholeNode
with_child key page n = record n { pairs = set_pair key (Child page) n.pairs }
