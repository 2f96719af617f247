-- What a node is, by whole keys.
use Rattle.std.specs.Prelude.{◌≡◌, ◌≢◌, ℕ, ◌<◌, ◌≤◌, ◌^◌, Bool, true, false, List, [], ◌++◌, length, take, Option, None, IfSome}
use Rattle.std.specs.List.{AllByRecursion}
use Rattle.sled_base.specs.Order.{Bytes, IsBelow, IsAtMost}
use Rattle.sled_node.specs.Pairs.{IsWithinLimit, IsAscending}
use Rattle.sled_node.specs.Limits.{pairs_limit, prefix_limit}

-- what a key leads to: a leaf's value, or an index's page
pub data Item : Type 0 where
  Value : Bytes → Item
  Child : ℕ → Item

-- A node with whole keys. If hi is empty, the range has no upper end. Keys are whole, so prefix_len is only a number of the node.
pub record WholeNode : Type 0 where
  pub prefix_len : ℕ
  pub lo : Bytes
  pub hi : Bytes
  pub next : Option ℕ
  -- the child that is being merged
  pub child : Option ℕ
  -- whether the node itself is being merged
  pub capped : Bool
  pub is_index : Bool
  pub pairs : List (Bytes × Item)

-- the whole key of a stored key: the first bytes of lo, and the stored key
abbrev pub whole : WholeNode → Bytes → Bytes
whole n stored = take n.prefix_len n.lo ++ stored

-- not below lo, and below hi unless that is empty
abbrev pub IsInRange : WholeNode → Bytes → Type 0
IsInRange n key = IsAtMost n.lo key × (n.hi ≢ [] → IsBelow key n.hi)

-- an item of the node's kind, within the limit
abbrev pub ItemFits : Bool → Item → Type 0
ItemFits false (Value value) = IsWithinLimit value
ItemFits true (Child page) = page < 2 ^ 64
ItemFits false (Child page) = ⊥
ItemFits true (Value value) = ⊥

-- a page other than 0
abbrev pub IsPage : ℕ → Type 0
IsPage page = (0 < page) × (page < 2 ^ 64)

pub record IsWellFormed (n : WholeNode) : Type 0 where
  -- lo < hi, or hi is empty
  pub range : n.hi ≢ [] → IsBelow n.lo n.hi
  -- the first prefix_len bytes of lo and hi are the same; there are none if hi is empty
  pub prefix_byte : n.prefix_len ≤ prefix_limit
  pub prefix_open : n.hi ≡ [] → n.prefix_len ≡ 0
  pub prefix_common : take n.prefix_len n.lo ≡ take n.prefix_len n.hi
  -- the keys ascend and are in the range
  pub ascending : IsAscending n.pairs
  pub in_range : AllByRecursion (λ pair. IsInRange n pair.0) n.pairs
  -- the limits
  pub few : length n.pairs ≤ pairs_limit
  pub bounds : IsWithinLimit n.lo × IsWithinLimit n.hi
  pub keys : AllByRecursion (λ pair. IsWithinLimit pair.0) n.pairs
  pub items : AllByRecursion (λ pair. ItemFits n.is_index pair.1) n.pairs
  pub pages : IfSome n.next IsPage × IfSome n.child IsPage

-- a leaf of these pairs, over all keys
abbrev pub leaf_of : List (Bytes × Item) → WholeNode
leaf_of pairs = record { prefix_len = 0; lo = []; hi = []; next = None; child = None; capped = false; is_index = false; pairs = pairs }

-- a leaf without pairs, over all keys
abbrev pub empty_leaf : WholeNode
empty_leaf = leaf_of []
