-- Merging two neighbours into one node.
use Rattle.std.specs.Prelude.{◌≡◌, ℕ, ◌+◌, true, List, Some, Result, slice_get, ⊤}
use Rattle.sled_base.specs.Order.{Bytes}
use Rattle.sled_log.specs.Contents.{Content, Update}
use Rattle.sled_log.specs.Events.{Event}
use Rattle.sled_node.specs.Links.{without_child}
use Rattle.sled_node.specs.Node.{WholeNode, Child, IsWellFormed}
use Rattle.sled_node.specs.Splitting.{CanReceive, merged}
use Rattle.sled_pagecache.specs.State.{State}
use Rattle.sled_search.specs.Maps.{HasTree}
use Rattle.sled_search.specs.Merging.{AreUnder}
use Rattle.sled_search.specs.Search.{HasNodeAt}
use Rattle.sled_tree.specs.Changed.{Reads}
use Rattle.sled_tree.specs.Named.{Named}
use Rattle.sled_tree.specs.declared.merging.plan.Joined.{Joined}
use Rattle.sled_tree.specs.declared.merging.plan.Neighbours.{Neighbours}
use Rattle.sled_tree.specs.declared.merging.plan.Parted.{Parted}
use Rattle.sled_tree.specs.declared.merging.plan.Plan.{Plan}

-- the call only reads; nothing is said of its answer
abbrev pub LooksOn : {T E : Type 0} → Result T E → State → List (Event Update) → State → Type 0
LooksOn result = Reads result (λ _ _. ⊤)

-- an index leads to both neighbours by adjacent pairs, and to the right one from this key on
pub record LeadsToBoth (n : WholeNode) (neighbours : Neighbours) (begin : Bytes) : Type 0 where
  pub index : n.is_index ≡ true
  pub place : ℕ
  pub low : Bytes
  pub to_left : slice_get n.pairs place ≡ Some (low, Child neighbours.left)
  pub to_right : slice_get n.pairs (place + 1) ≡ Some (begin, Child neighbours.right)

-- the left node leads on to the right one, and receives its pairs
pub record IsJoined (left : WholeNode) (right : ℕ) (joined : Joined) (r : WholeNode) : Type 0 where
  pub next : left.next ≡ Some right
  pub can : CanReceive left r
  pub left_well : IsWellFormed left
  pub right_well : IsWellFormed r
  pub node : joined.left.node ≡ merged left r
  pub begin : joined.begin ≡ r.lo

-- the same for the nodes that are on the pages now
abbrev pub AreJoined : List Content → Neighbours → Joined → Type 0
AreJoined pages neighbours joined = HasNodeAt pages neighbours.left (λ l. HasNodeAt pages neighbours.right (IsJoined l neighbours.right joined))

-- the index that leads to both neighbours, without its pair to the right one
pub record IsParted (neighbours : Neighbours) (begin : Bytes) (parted : Parted) (n : WholeNode) : Type 0 where
  pub both : LeadsToBoth n neighbours begin
  pub well : IsWellFormed n
  pub node : parted.index.node ≡ record n { pairs = without_child neighbours.right n.pairs }
  pub low : parted.low ≡ n.lo

-- The pages have the neighbours under the index, and the plan has the nodes that replace them.
pub record IsPlanned (pages : List Content) (root above : ℕ) (neighbours : Neighbours) (plan : Plan) : Type 0 where
  pub n : WholeNode
  pub l : WholeNode
  pub r : WholeNode
  pub under : AreUnder pages root above n neighbours.left l neighbours.right r
  pub can : CanReceive l r
  pub index_well : IsWellFormed n
  pub left_well : IsWellFormed l
  pub right_well : IsWellFormed r
  pub index : plan.above.node ≡ record n { pairs = without_child neighbours.right n.pairs }
  pub joined : plan.left.node ≡ merged l r

-- one of the maps has the root, and the plan fits the pages
abbrev pub HasPlan : ℕ → ℕ → Neighbours → Plan → List Content → Named → Type 0
HasPlan root above neighbours plan pages w = HasTree w.maps root × IsPlanned pages root above neighbours plan
