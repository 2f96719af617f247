-- Where two nodes must be in the pages of a tree so that the right one can be merged into the left one.
use Rattle.std.specs.Prelude.{◌≡◌, ℕ, ◌+◌, true, List, Some, slice_get}
use Rattle.sled_base.specs.Order.{Bytes, IsBelow, IsAtMost}
use Rattle.sled_log.specs.Contents.{Content, Node}
use Rattle.sled_node.specs.Node.{Child, WholeNode}
use Rattle.sled_search.specs.Orderly.{IsAt}

-- An index leads to both nodes, by adjacent pairs. Two searches reach it: one for its own beginning, and one for a key that is not below the
-- beginning of the right node.
pub record AreUnder (pages : List Content) (root above : ℕ) (n : WholeNode) (left : ℕ) (l : WholeNode) (right : ℕ) (r : WholeNode) : Type 0 where
  pub index : n.is_index ≡ true
  pub from_low : IsAt pages root n.lo above n
  pub key : Bytes
  pub behind : IsAtMost r.lo key
  pub up_to_key : IsAt pages root key above n
  pub place : ℕ
  pub low : Bytes
  pub leads_left : slice_get n.pairs place ≡ Some (low, Child left)
  pub leads_right : slice_get n.pairs (place + 1) ≡ Some (r.lo, Child right)
  pub at_left : slice_get pages left ≡ Some (Node l)
  pub at_right : slice_get pages right ≡ Some (Node r)
  -- the left node ends where the right one begins, and leads on to it
  pub meet : l.hi ≡ r.lo
  pub next : l.next ≡ Some right

-- A search for the beginning of the right node reaches the left node, which leads on to the right one. A search for some lower key reaches the
-- left node too.
pub record AreBeside (pages : List Content) (root left : ℕ) (l : WholeNode) (right : ℕ) (r : WholeNode) : Type 0 where
  pub key : Bytes
  pub below : IsBelow key r.lo
  pub from_key : IsAt pages root key left l
  pub up_to_end : IsAt pages root r.lo left l
  pub at_right : slice_get pages right ≡ Some (Node r)
  pub meet : l.hi ≡ r.lo
  pub next : l.next ≡ Some right
