-- The order of the pages of a tree: searches come to a page from one key on, and all of them by the same way.
use Rattle.std.specs.Prelude.{◌≡◌, ◌⊎◌, ℕ, List, [], Some, slice_get}
use Rattle.std.specs.List.{AllByRecursion}
use Rattle.sled_base.specs.Order.{Bytes, IsBelow, IsAtMost}
use Rattle.sled_log.specs.Contents.{Content, Node}
use Rattle.sled_node.specs.Node.{Item, WholeNode}
use Rattle.sled_search.specs.Search.{LeadsDown, LeadsRight, LeadsTo, Goes}

-- the search for the key from the root reaches the page, which has that node
abbrev pub IsAt : List Content → ℕ → Bytes → ℕ → WholeNode → Type 0
IsAt pages root key page n = ((turns : ℕ) × Goes pages key turns root page) × (slice_get pages page ≡ Some (Node n))

-- each pair begins at the first of these keys or before it, or after the last
abbrev pub HasNoneWithin : List (Bytes × Item) → Bytes → Bytes → Type 0
HasNoneWithin pairs first last = AllByRecursion (λ pair. IsAtMost pair.0 first ⊎ IsBelow last pair.0) pairs

pub record IsOrderly (pages : List Content) (root : ℕ) : Type 0 where
  -- the key from which on searches come to a page
  pub first : ℕ → Bytes
  pub root_first : first root ≡ []
  -- a search for a key below the node's range doesn't come there
  pub low : (key : Bytes) (page : ℕ) (n : WholeNode) → IsAt pages root key page n → IsAtMost n.lo (first page)
  -- a search goes from one page to another in the order of these keys, and none of them is above its own
  pub rises : (key : Bytes) (page to : ℕ) (n : WholeNode) → IsAt pages root key page n → LeadsTo n key to → IsAtMost (first page) (first to) × IsAtMost (first to) key
  -- it goes down by the pair by which the first key does, and to the right where the first key does too
  pub down : (key : Bytes) (page child : ℕ) (n : WholeNode) → IsAt pages root key page n → LeadsDown n key child → HasNoneWithin n.pairs (first child) key
  pub right : (key : Bytes) (page beside : ℕ) (n : WholeNode) → IsAt pages root key page n → LeadsRight n key beside → IsAtMost n.hi (first beside)
