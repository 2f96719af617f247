-- How a leaf stores its pairs: all stored keys, and then all values.
use Rattle.std.specs.Prelude.{◌≡◌, ◌/◌, List, [], ◌∷◌, ◌++◌, length, take, drop}
use Rattle.sled_base.specs.Order.{Bytes}
use Rattle.sled_node.specs.Pairs.{IsWithinLimit, HasPairs}
use Rattle.sled_node.specs.Payloads.Pairs.{keys_of, items_of}

abbrev pub pairs_of : List Bytes → List Bytes → List (Bytes × Bytes)
pairs_of [] values = []
pairs_of (key ∷ keys) [] = []
pairs_of (key ∷ keys) (value ∷ values) = (key, value) ∷ pairs_of keys values

-- each string of the first half, paired with that of the second half
abbrev pub paired : List Bytes → List (Bytes × Bytes)
paired strings = pairs_of (take (length strings / 2) strings) (drop (length strings / 2) strings)

-- what holds for the strings of every leaf
pub record IsLeaf (strings : List Bytes) : Type 0 where
  pub whole : keys_of (paired strings) ++ items_of (paired strings) ≡ strings
  pub stored : HasPairs IsWithinLimit (paired strings)
