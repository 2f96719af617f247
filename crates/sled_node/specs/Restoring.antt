-- Storing keys with another prefix left out.
use Rattle.std.specs.Prelude.{ℕ, List, ◌++◌, length, map, take, drop}
use Rattle.sled_base.specs.Order.{Bytes}
use Rattle.sled_node.specs.declared.node.data.Data.{Data}
use Rattle.sled_node.specs.declared.node.data.Data.TheVariants.{Leaf, Index}

-- pairs whose stored keys lacked `front`, with stored keys that lack the first `skipped` bytes of the whole key instead
abbrev pub restored : {V : Type 0} → Bytes → ℕ → List (Bytes × V) → List (Bytes × V)
restored front skipped pairs = map (λ pair. (drop skipped (front ++ pair.0), pair.1)) pairs

abbrev pub restored_data : Bytes → ℕ → Data → Data
restored_data front skipped (Leaf pairs) = Leaf (restored front skipped pairs)
restored_data front skipped (Index pairs) = Index (restored front skipped pairs)

abbrev pub data_len : Data → ℕ
data_len (Leaf pairs) = length pairs
data_len (Index pairs) = length pairs

-- the first pairs, and those after them
abbrev pub first_data : ℕ → Data → Data
first_data count (Leaf pairs) = Leaf (take count pairs)
first_data count (Index pairs) = Index (take count pairs)

abbrev pub later_data : ℕ → Data → Data
later_data count (Leaf pairs) = Leaf (drop count pairs)
later_data count (Index pairs) = Index (drop count pairs)

-- the pairs of both, if both are of the same kind
abbrev pub joined_data : Data → Data → Data
joined_data (Leaf left) (Leaf right) = Leaf (left ++ right)
joined_data (Index left) (Index right) = Index (left ++ right)
joined_data (Leaf left) (Index right) = Leaf left
joined_data (Index left) (Leaf right) = Index left
