-- How large a node is, and when it should be split or merged.
use Rattle.std.specs.Prelude.{◌≡◌, ℕ, ◌+◌, ◌<◌, false, List, length, drop, None}
use Rattle.std.specs.List.{sum_by}
use Rattle.sled_base.specs.Order.{Bytes}
use Rattle.sled_node.specs.declared.node.data.Data.{Data}
use Rattle.sled_node.specs.declared.node.data.Data.TheVariants.{Leaf, Index}
use Rattle.sled_node.specs.Node.{Item, Value, Child, WholeNode}
use Rattle.sled_node.specs.Limits.{most_pairs, fewest_pairs, node_bytes, page_bytes}

-- no child is being merged, and the node itself isn't
abbrev pub IsUnmarked : WholeNode → Type 0
IsUnmarked n = (n.child ≡ None) × (n.capped ≡ false)

abbrev pub ShouldSplit : WholeNode → Type 0
ShouldSplit n = (most_pairs n.is_index < length n.pairs) × IsUnmarked n

abbrev pub ShouldMerge : WholeNode → Type 0
ShouldMerge n = (length n.pairs < fewest_pairs n.is_index) × IsUnmarked n

-- the length of the value, or the bytes that a page counts as
abbrev pub item_size : Item → ℕ
item_size (Value value) = length value
item_size (Child page) = page_bytes

-- the length of the stored key, which is the whole key without the skipped bytes, and the item's size
abbrev pub pair_size : ℕ → Bytes × Item → ℕ
pair_size skipped pair = length (drop skipped pair.0) + item_size pair.1

-- the bytes that a node counts as, the lengths of both bounds, and the size of each pair
abbrev pub node_size : WholeNode → ℕ
node_size n = node_bytes + length n.lo + length n.hi + sum_by (pair_size n.prefix_len) n.pairs

-- the size of each pair, by stored keys
abbrev pub leaf_size : List (Bytes × Bytes) → ℕ
leaf_size pairs = sum_by (λ pair. length pair.0 + length pair.1) pairs

abbrev pub index_size : List (Bytes × ℕ) → ℕ
index_size pairs = sum_by (λ pair. length pair.0 + page_bytes) pairs

abbrev pub data_size : Data → ℕ
data_size (Leaf pairs) = leaf_size pairs
data_size (Index pairs) = index_size pairs
