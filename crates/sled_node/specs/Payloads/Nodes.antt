-- How nodes are encoded.
use Rattle.std.specs.Prelude.{◌≡◌, ◌⊎◌, ℕ, Bool, true, false, List, [], ◌++◌, map, drop, Option, Some, None}
use Rattle.std.specs.declared.num.NonZeroU64.{NonZeroU64}
use Rattle.std.specs.Int.NonZero.{non_zero_u64_get}
use Rattle.std.specs.Option.{option_map}
use Rattle.sled_base.specs.Order.{Bytes}
use Rattle.sled_node.specs.declared.node.data.Data.{Data}
use Rattle.sled_node.specs.declared.node.data.Data.TheVariants.{Leaf, Index}
use Rattle.sled_node.specs.Node.{Item, Value, Child, WholeNode, IsWellFormed}
use Rattle.sled_node.specs.Parts.{node_of}
use Rattle.sled_base.specs.Payloads.Reading.{ReadsTriple}
use Rattle.sled_base.specs.Payloads.Numbers.{written_u64, ReadsBool, written_bool, ReadsU8, written_u8}
use Rattle.sled_base.specs.Payloads.Options.{ReadsPageNumber}
use Rattle.sled_base.specs.Payloads.ByteStrings.{ReadsBytes, AsksBytes, written_bytes}
use Rattle.sled_node.specs.Payloads.Data.{ReadsData, AsksData, written_data}

-- next, the merging child, and whether the node is being merged; how many bytes stored keys lack, lo, and hi; the stored pairs
abbrev pub NodeParts : Type 0
NodeParts = (Option NonZeroU64 × Option NonZeroU64 × Bool) × (ℕ × Bytes × Bytes) × Data

abbrev pub ReadsParts : List ℕ → NodeParts → List ℕ → Type 0
ReadsParts = ReadsTriple (ReadsTriple ReadsPageNumber ReadsPageNumber ReadsBool) (ReadsTriple ReadsU8 ReadsBytes ReadsBytes) ReadsData

-- lo begins after next, the merging child, the mark and the prefix length; hi begins after lo, and the pairs after hi
abbrev pub BeginsLo : List ℕ → List ℕ → Type 0
BeginsLo input at = (head : Option NonZeroU64 × Option NonZeroU64 × Bool) × (middle : List ℕ) × (prefix_len : ℕ) × ReadsTriple ReadsPageNumber ReadsPageNumber ReadsBool input head middle × ReadsU8 middle prefix_len at

abbrev pub BeginsHi : List ℕ → List ℕ → Type 0
BeginsHi input at = (lo middle : List ℕ) × BeginsLo input middle × ReadsBytes middle lo at

abbrev pub BeginPairs : List ℕ → List ℕ → Type 0
BeginPairs input at = (hi middle : List ℕ) × BeginsHi input middle × ReadsBytes middle hi at

-- memory is asked for by a bound that is too long to be stored inline, or by the pairs
abbrev pub AsksNode : List ℕ → Type 0
AsksNode input = (at : List ℕ) × ((BeginsLo input at × AsksBytes at) ⊎ (BeginsHi input at × AsksBytes at) ⊎ (BeginPairs input at × AsksData at))

-- the node of these parts
abbrev pub node_from : NodeParts → WholeNode
node_from parts = node_of parts.1.0 (option_map non_zero_u64_get parts.0.0) (option_map non_zero_u64_get parts.0.1) parts.0.2 parts.1.1 parts.1.2 parts.2

-- the parts of a well-formed node, one after the other
abbrev pub ReadsNode : List ℕ → WholeNode → List ℕ → Type 0
ReadsNode input n rest = (parts : NodeParts) × ReadsParts input parts rest × (node_from parts ≡ n) × IsWellFormed n

-- 0 if there is no page
abbrev pub page_or_zero : Option ℕ → ℕ
page_or_zero None = 0
page_or_zero (Some page) = page

-- what the keys of a leaf, and of an index, lead to
abbrev pub value_in : Item → Bytes
value_in (Value value) = value
value_in (Child page) = []

abbrev pub page_of_item : Item → ℕ
page_of_item (Value value) = 0
page_of_item (Child page) = page

-- the pairs as they are stored: keys lack their first bytes
abbrev pub stored_pairs : {V : Type 0} → (Item → V) → ℕ → List (Bytes × Item) → List (Bytes × V)
stored_pairs pick p pairs = map (λ pair. (drop p pair.0, pick pair.1)) pairs

abbrev pub stored_as : Bool → ℕ → List (Bytes × Item) → Data
stored_as false p pairs = Leaf (stored_pairs value_in p pairs)
stored_as true p pairs = Index (stored_pairs page_of_item p pairs)

abbrev pub written_node : WholeNode → List ℕ
written_node n =
    (written_u64 (page_or_zero n.next) ++ (written_u64 (page_or_zero n.child) ++ written_bool n.capped)) ++
    ((written_u8 n.prefix_len ++ (written_bytes n.lo ++ written_bytes n.hi)) ++
    written_data (stored_as n.is_index n.prefix_len n.pairs))
