-- The pairs of a node's data, by its kind.
use Rattle.std.specs.Prelude.{ℕ, List, length, Option, None, Some}
use Rattle.sled_base.specs.Order.{Bytes}
use Rattle.sled_node.specs.declared.node.data.Data.{Data}
use Rattle.sled_node.specs.declared.node.data.Data.TheVariants.{Leaf, Index}

abbrev pub count_of : Data → ℕ
count_of (Leaf pairs) = length pairs
count_of (Index pairs) = length pairs

-- the pairs of a leaf, or of an index
abbrev pub leaf_in : Data → Option (List (Bytes × Bytes))
leaf_in (Leaf pairs) = Some pairs
leaf_in (Index pairs) = None

abbrev pub index_in : Data → Option (List (Bytes × ℕ))
index_in (Leaf pairs) = None
index_in (Index pairs) = Some pairs
