-- How the pairs of a node are encoded.
use Rattle.std.specs.Prelude.{◌≡◌, ℕ, ◌<◌, ◌≤◌, ◌^◌, List, ◌∷◌}
use Rattle.sled_base.specs.Order.{Bytes}
use Rattle.sled_node.specs.declared.node.data.Data.{Data}
use Rattle.sled_node.specs.declared.node.data.Data.TheVariants.{Leaf, Index}
use Rattle.sled_node.specs.Pairs.{IsWithinLimit, HasPairs}
use Rattle.sled_base.specs.Payloads.Numbers.{ReadsU64, written_u64}
use Rattle.sled_base.specs.Payloads.ByteStrings.{ReadsBytes, written_bytes}
use Rattle.sled_node.specs.Payloads.Pairs.{ReadsPairs, AsksPairs, written_pairs}

-- the pairs of a leaf: the keys ascend, and the limits hold
abbrev pub ReadsLeaf : List ℕ → List (Bytes × Bytes) → List ℕ → Type 0
ReadsLeaf input pairs rest = ReadsPairs ReadsBytes input pairs rest × HasPairs IsWithinLimit pairs

-- the pairs of an index
abbrev pub ReadsIndex : List ℕ → List (Bytes × ℕ) → List ℕ → Type 0
ReadsIndex input pairs rest = ReadsPairs ReadsU64 input pairs rest × HasPairs (λ page. page < 2 ^ 64) pairs

-- a tag, and the pairs
abbrev pub ReadsData : List ℕ → Data → List ℕ → Type 0
ReadsData input (Leaf pairs) rest = (parts : List ℕ) × (input ≡ 0 ∷ parts) × ReadsLeaf parts pairs rest
ReadsData input (Index pairs) rest = (parts : List ℕ) × (input ≡ 1 ∷ parts) × ReadsIndex parts pairs rest

-- memory is asked for if there is room for the counted pairs, and as many keys follow the count
abbrev pub AsksData : List ℕ → Type 0
AsksData input = (tag : ℕ) × (parts : List ℕ) × (input ≡ tag ∷ parts) × (tag ≤ 1) × AsksPairs parts

abbrev pub written_data : Data → List ℕ
written_data (Leaf pairs) = 0 ∷ written_pairs written_bytes pairs
written_data (Index pairs) = 1 ∷ written_pairs written_u64 pairs
