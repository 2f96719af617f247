-- Pairs as bytes: each is the length of its key and that of its value, in four bytes each, the lowest first, and then the key and the value.
use Rattle.std.specs.Prelude.{◌≡◌, ◌<◌, ◌+◌, ◌^◌, ◌++◌, ℕ, false, List, length, map, take, drop}
use Rattle.std.specs.Int.{w32, w64, to_le_bytes}
use Rattle.std.specs.List.{AllByRecursion, flat_map}
use Rattle.sled_base.specs.Order.{Bytes, IsBelow}
use Rattle.sled_node.specs.Node.{Item, Value, Child, WholeNode, leaf_of}
use Rattle.sled_node.specs.Pairs.{HasPairs, IsAscending, IsWithinLimit}

abbrev pub pair_bytes : Bytes × Bytes → Bytes
pair_bytes pair = to_le_bytes w32 (length pair.0) ++ (to_le_bytes w32 (length pair.1) ++ (pair.0 ++ pair.1))

-- the lengths fit into four bytes
abbrev pub IsShort : Bytes × Bytes → Type 0
IsShort pair = (length pair.0 < 2 ^ 32) × (length pair.1 < 2 ^ 32)

-- the bytes are these pairs, one after another
abbrev pub EncodePairs : Bytes → List (Bytes × Bytes) → Type 0
EncodePairs bytes pairs = AllByRecursion IsShort pairs × (bytes ≡ flat_map pair_bytes pairs)

-- Pairs that can be written: their lengths fit into four bytes, and together they take less than 2^64 bytes.
abbrev pub AreWritable : List (Bytes × Bytes) → Type 0
AreWritable pairs = AllByRecursion IsShort pairs × (length (flat_map pair_bytes pairs) < 2 ^ 64)

-- each key is above this one, and above those before it
abbrev pub AreAbove : Bytes → List (Bytes × Bytes) → Type 0
AreAbove key pairs = AllByRecursion (λ later. IsBelow key later.0) pairs × IsAscending pairs

-- The bytes are pairs of which a leaf can be made, and this is that leaf, over all keys.
pub record EncodeLeaf (bytes : Bytes) (node : WholeNode) : Type 0 where
  pub pairs : List (Bytes × Bytes)
  pub encode : EncodePairs bytes pairs
  pub fits : HasPairs IsWithinLimit pairs
  pub leaf : node ≡ leaf_of (map (λ pair. (pair.0, Value pair.1)) pairs)

-- the value of a pair of a leaf; of an index it is the page, in eight bytes, the lowest first
abbrev pub value_of : Item → Bytes
value_of (Value value) = value
value_of (Child page) = to_le_bytes w64 page

abbrev pub item_bytes : Bytes × Item → Bytes
item_bytes pair = pair_bytes (pair.0, value_of pair.1)

-- the pairs of a node
abbrev pub node_bytes : WholeNode → Bytes
node_bytes node = flat_map item_bytes node.pairs

-- What is written of a leaf can be read as a leaf over all keys with the same pairs.
abbrev pub IsReadAgain : WholeNode → Type 0
IsReadAgain node = node.is_index ≡ false → EncodeLeaf (node_bytes node) (leaf_of node.pairs)

-- the bytes are at this place, and the others are unchanged
abbrev pub IsPut : Bytes → ℕ → Bytes → Bytes → Type 0
IsPut before start bytes after = after ≡ (take start before ++ bytes) ++ drop (start + length bytes) before
