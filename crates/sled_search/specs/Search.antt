-- Where a search for a key goes in the pages of a tree, and what it finds.
use Rattle.std.specs.Prelude.{◌≡◌, ◌⊎◌, ℕ, zero, suc, true, false, List, Option, Some, slice_get}
use Rattle.std.specs.Option.{option_map}
use Rattle.sled_base.specs.Order.{Bytes}
use Rattle.sled_log.specs.Contents.{Content, Node}
use Rattle.sled_node.specs.Node.{Value, Child, WholeNode, IsInRange}
use Rattle.sled_node.specs.Pairs.{IsAscending}
use Rattle.sled_search.specs.Map.{Map, at_key, leading}

-- the page has a node that meets the condition
abbrev pub HasNodeAt : List Content → ℕ → (WholeNode → Type 0) → Type 0
HasNodeAt pages pid Is = (n : WholeNode) × (slice_get pages pid ≡ Some (Node n)) × Is n

-- an index leads a key of its range to the child of the last pair whose key is not above it
abbrev pub LeadsDown : WholeNode → Bytes → ℕ → Type 0
LeadsDown n key child = (n.is_index ≡ true) × IsInRange n key × (leading n.pairs key ≡ Some (Child child))

-- a node leads a key outside its range to the right
abbrev pub LeadsRight : WholeNode → Bytes → ℕ → Type 0
LeadsRight n key page = (¬ IsInRange n key) × (n.next ≡ Some page)

abbrev pub LeadsTo : WholeNode → Bytes → ℕ → Type 0
LeadsTo n key page = LeadsDown n key page ⊎ LeadsRight n key page

-- a leaf with the key in its range
abbrev pub IsLeafOf : Bytes → WholeNode → Type 0
IsLeafOf key n = (n.is_index ≡ false) × IsInRange n key

-- the node has this value at the key, or none
abbrev pub HasAt : Bytes → Option Bytes → WholeNode → Type 0
HasAt key value n = at_key n.pairs key ≡ option_map Value value

abbrev pub Answers : Bytes → Option Bytes → WholeNode → Type 0
Answers key value n = IsLeafOf key n × HasAt key value n

-- the search goes from one page to another in this number of turns
abbrev pub Goes : List Content → Bytes → ℕ → ℕ → ℕ → Type 0
Goes pages key zero from to = from ≡ to
Goes pages key (suc turns) from to = (next : ℕ) × HasNodeAt pages from (λ n. LeadsTo n key next) × Goes pages key turns next to

-- the search goes from the page, in this number of turns, to a leaf of the key that meets the condition
abbrev pub Finds : List Content → Bytes → (ℕ → WholeNode → Type 0) → ℕ → ℕ → Type 0
Finds pages key Is zero from = HasNodeAt pages from (λ n. IsLeafOf key n × Is from n)
Finds pages key Is (suc turns) from = (next : ℕ) × HasNodeAt pages from (λ n. LeadsTo n key next) × Finds pages key Is turns next

abbrev pub Comes : List Content → Bytes → (ℕ → WholeNode → Type 0) → ℕ → Type 0
Comes pages key Is from = (turns : ℕ) × Finds pages key Is turns from

-- the search comes to a leaf that has this value at the key, or none
abbrev pub ComesToValue : List Content → Bytes → Option Bytes → ℕ → Type 0
ComesToValue pages key value from = Comes pages key (λ _ n. HasAt key value n) from

-- the search comes to this leaf, whose range has the other key too
abbrev pub ComesToLeafOf : List Content → Bytes → Bytes → ℕ → ℕ → Type 0
ComesToLeafOf pages key other leaf from = Comes pages key (λ pid n. (pid ≡ leaf) × IsInRange n other) from

-- The tree with this root is the map.
pub record IsTreeOf (pages : List Content) (root : ℕ) (m : Map) : Type 0 where
  pub ascending : IsAscending m
  -- a search for any key finds what the map has at that key
  pub comes : (key : Bytes) → ComesToValue pages key (at_key m key) root
  -- if it comes to a leaf, a search for another key in that leaf's range comes there too
  pub covers : (key other : Bytes) (leaf : ℕ) → ComesToLeafOf pages key other leaf root → ComesToLeafOf pages other key leaf root
