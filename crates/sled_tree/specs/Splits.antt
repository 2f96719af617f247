-- The steps in which a node is split.
use Rattle.std.specs.Prelude.{◌≡◌, ◌≢◌, ℕ, true, List, [], Some, Result, slice_set}
use Rattle.sled_base.specs.Order.{Bytes}
use Rattle.sled_log.specs.Contents.{Content, Node, Update}
use Rattle.sled_log.specs.Events.{Event}
use Rattle.sled_node.specs.Children.{with_child}
use Rattle.sled_node.specs.Node.{WholeNode, Child, IsWellFormed}
use Rattle.sled_node.specs.Pairs.{IsAscending}
use Rattle.sled_node.specs.Splitting.{SplitsBehind}
use Rattle.sled_pagecache.specs.State.{State, contents_of}
use Rattle.sled_search.specs.Map.{leading}
use Rattle.sled_search.specs.Search.{HasNodeAt}
use Rattle.sled_tree.specs.Changed.{Ends}
use Rattle.sled_tree.specs.Named.{Named}
use Rattle.sled_tree.specs.Walks.{IsReached}

-- two nodes are the parts of a node
pub record AreParts (n l r : WholeNode) : Type 0 where
  pub many : ℕ
  pub splits : SplitsBehind n many l r
  pub well : IsWellFormed n
  pub left : IsWellFormed l
  pub right : IsWellFormed r

-- the node ends at the key, and leads on to the page
abbrev pub EndsSo : Bytes → ℕ → WholeNode → Type 0
EndsSo at page n = (n.hi ≡ at) × (n.next ≡ Some page)

-- an index that led the key to the child gets the page as the child from that key on
pub record IsLed (n : WholeNode) (child : ℕ) (at : Bytes) (page : ℕ) (made : WholeNode) : Type 0 where
  pub index : n.is_index ≡ true
  pub ascending : IsAscending n.pairs
  pub leads : leading n.pairs at ≡ Some (Child child)
  pub is : made ≡ with_child at page n

-- the call puts the node on the page; or it is refused
pub record Puts {T E : Type 0} (pid : ℕ) (node : WholeNode) (result : Result T E) (s : State) (events : List (Event Update)) (t : State) : Type 0 where
  pub stuck : s.fault ≡ true → (events ≡ []) × (t ≡ s)
  pub ends : Ends result s (slice_set (contents_of s) pid (Node node)) events t

-- the child ends at the key and leads on to the page, and a search from one of the roots reaches the node above
pub record IsCut (above child : ℕ) (at : Bytes) (page : ℕ) (pages : List Content) (w : Named) : Type 0 where
  pub ends : HasNodeAt pages child (EndsSo at page)
  pub some : at ≢ []
  pub reached : IsReached above pages w
