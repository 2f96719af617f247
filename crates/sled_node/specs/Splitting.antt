-- How a node is split in two, and how it is merged with its right neighbour.
use Rattle.std.specs.Prelude.{◌≡◌, ◌≢◌, ℕ, ◌+◌, ◌/◌, ◌<◌, ◌≤◌, ◌==◌, min, Bool, true, false, List, [], ◌∷◌, ◌++◌, length, take, drop, Option, Some, None, if◌then◌else◌}
use Rattle.sled_base.specs.Order.{Bytes, IsBelow, IsAtMost}
use Rattle.sled_node.specs.Node.{Item, WholeNode}
use Rattle.sled_node.specs.Limits.{pairs_limit, prefix_limit}

-- how many first bytes two strings have in common
abbrev pub common_length : Bytes → Bytes → ℕ
common_length [] b = 0
common_length (x ∷ a) [] = 0
common_length (x ∷ a) (y ∷ b) = if x == y then 1 + common_length a b else 0

-- the prefix length of a part with these bounds: what they have in common, up to the limit, and 0 if hi is empty
abbrev pub own_prefix : Bytes → Bytes → ℕ
own_prefix lo hi = min prefix_limit (common_length lo hi)

-- a shortest string that separates two keys, a prefix of the right one
pub record IsSeparator (left right s : Bytes) : Type 0 where
  pub beginning : (more : Bytes) × (right ≡ s ++ more)
  pub above_left : IsBelow left s
  pub not_above_right : IsAtMost s right
  pub shortest : (b : Bytes) → IsBelow left b → IsAtMost b right → length s ≤ length b

-- the least key of ascending pairs, and the greatest
abbrev pub least : List (Bytes × Item) → Option Bytes
least [] = None
least (pair ∷ pairs) = Some pair.0

abbrev pub greatest : List (Bytes × Item) → Option Bytes
greatest [] = None
greatest (pair ∷ []) = Some pair.0
greatest (pair ∷ next ∷ pairs) = greatest (next ∷ pairs)

-- where a node is split between two keys: an index at the right one, a leaf at a shortest string
abbrev pub Separates : Bool → Bytes → Bytes → Bytes → Type 0
Separates true left right s = s ≡ right
Separates false left right s = IsSeparator left right s

abbrev pub SeparatesAt : Bool → Option Bytes → Option Bytes → Bytes → Type 0
SeparatesAt index (Some left) (Some right) s = Separates index left right s
SeparatesAt index None right s = ⊥
SeparatesAt index (Some left) None s = ⊥

-- a node is split after its first `count` pairs, at s
pub record IsSplitPlace (n : WholeNode) (count : ℕ) (s : Bytes) : Type 0 where
  -- each part has a pair
  pub some : 1 ≤ count
  pub others : count < length n.pairs
  pub separates : SeparatesAt n.is_index (greatest (take count n.pairs)) (least (drop count n.pairs)) s

-- l and r are the parts of n, and the left one has `many` of its pairs
pub record SplitsBehind (n : WholeNode) (many : ℕ) (l r : WholeNode) : Type 0 where
  -- all pairs
  pub pairs : l.pairs ++ r.pairs ≡ n.pairs
  pub count : length l.pairs ≡ many
  pub kinds : (l.is_index ≡ n.is_index) × (r.is_index ≡ n.is_index)
  -- the range is split between the greatest left key and the least right one
  pub separator : SeparatesAt n.is_index (greatest l.pairs) (least r.pairs) r.lo
  pub left_lo : l.lo ≡ n.lo
  pub left_hi : l.hi ≡ r.lo
  pub right_hi : r.hi ≡ n.hi
  pub left_next : l.next ≡ None
  pub right_next : r.next ≡ n.next
  -- the marks stay on the left
  pub left_child : l.child ≡ n.child
  pub left_capped : l.capped ≡ n.capped
  pub right_child : r.child ≡ None
  pub right_capped : r.capped ≡ false
  pub left_prefix : l.prefix_len ≡ own_prefix l.lo l.hi
  pub right_prefix : r.prefix_len ≡ own_prefix r.lo r.hi

-- l and r are the parts of n, and the left one has half of its pairs, and one more
abbrev pub Splits : WholeNode → WholeNode → WholeNode → Type 0
Splits n l r = SplitsBehind n (length n.pairs / 2 + 1) l r

-- r is the right neighbour of l and of the same kind, and together they have few enough pairs for one node
pub record CanReceive (l r : WholeNode) : Type 0 where
  pub kind : l.is_index ≡ r.is_index
  pub bounded : l.hi ≢ []
  pub meet : l.hi ≡ r.lo
  pub few : length l.pairs + length r.pairs ≤ pairs_limit

-- a node merged with its right neighbour
abbrev pub merged : WholeNode → WholeNode → WholeNode
merged l r = record {
  prefix_len = own_prefix l.lo r.hi;
  lo = l.lo;
  hi = r.hi;
  next = r.next;
  child = l.child;
  capped = l.capped;
  is_index = l.is_index;
  pairs = l.pairs ++ r.pairs;
}

-- the parts can be merged, and the result is the whole node again, with the prefix length of its bounds
pub record MergeBack (n l r : WholeNode) : Type 0 where
  pub received : CanReceive l r
  pub whole : merged l r ≡ record n { prefix_len = own_prefix n.lo n.hi }
