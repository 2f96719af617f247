-- How keys and items are encoded.
use Rattle.std.specs.Prelude.{◌≡◌, ℕ, ◌*◌, ◌≤◌, List, ◌++◌, length, map}
use Rattle.std.specs.List.{flat_map, AllByRecursion}
use Rattle.sled_base.specs.Order.{Bytes}
use Rattle.sled_base.specs.Payloads.Numbers.{ReadsU64, written_u64}
use Rattle.sled_base.specs.Payloads.ByteStrings.{ReadsBytes, written_bytes, CanWriteBytes}
use Rattle.sled_node.specs.Payloads.Sequences.{ReadsAll, ReadsCount}
use Rattle.sled_node.specs.Limits.{pairs_limit}

abbrev pub keys_of : {V : Type 0} → List (Bytes × V) → List Bytes
keys_of pairs = map (λ pair. pair.0) pairs

abbrev pub items_of : {V : Type 0} → List (Bytes × V) → List V
items_of pairs = map (λ pair. pair.1) pairs

-- the count, which is within the limit, all keys, and then all items
abbrev pub ReadsPairs : {V : Type 0} → (List ℕ → V → List ℕ → Type 0) → List ℕ → List (Bytes × V) → List ℕ → Type 0
ReadsPairs reads input pairs rest = (keys items : List ℕ) × ReadsU64 input (length pairs) keys × (length pairs ≤ pairs_limit) × ReadsAll ReadsBytes keys (keys_of pairs) items × ReadsAll reads items (items_of pairs) rest

-- the rest begins after this many keys
abbrev pub IsBehindKeys : ℕ → List ℕ → List ℕ → Type 0
IsBehindKeys count input rest = (keys : List Bytes) × ReadsCount count ReadsBytes input keys rest

-- where the keys and the items of this many pairs begin in an input
pub record SplitsPairs (input : List ℕ) (count : ℕ) (keys items : List ℕ) : Type 0 where
  -- the count comes first, and the keys begin after it
  pub counted : ReadsU64 input count keys
  pub few : count ≤ pairs_limit
  -- there is room for the pairs, each of which takes at least two bytes
  pub room : 2 * count ≤ length keys
  -- the items begin after this many keys
  pub skipped : IsBehindKeys count keys items

-- memory is asked for if the input splits like this, with at least one pair
pub record AsksPairs (input : List ℕ) : Type 0 where
  pub count : ℕ
  pub keys : List ℕ
  pub items : List ℕ
  pub split : SplitsPairs input count keys items
  pub some : 1 ≤ count

-- this many keys up to the input of the items, and from there as many items
abbrev pub ReadsBoth : {V : Type 0} → (List ℕ → V → List ℕ → Type 0) → ℕ → List ℕ → List ℕ → List (Bytes × V) → List ℕ → Type 0
ReadsBoth reads count keys input pairs rest = (length pairs ≡ count) × ReadsAll ReadsBytes keys (keys_of pairs) input × ReadsAll reads input (items_of pairs) rest

-- few pairs, whose keys and items can be written
pub record CanWritePairs {V : Type 0} (can_write : V → Type 0) (pairs : List (Bytes × V)) : Type 0 where
  pub few : length pairs ≤ pairs_limit
  pub keys : AllByRecursion CanWriteBytes (keys_of pairs)
  pub items : AllByRecursion can_write (items_of pairs)

abbrev pub written_pairs : {V : Type 0} → (V → List ℕ) → List (Bytes × V) → List ℕ
written_pairs written pairs = written_u64 (length pairs) ++ (flat_map written_bytes (keys_of pairs) ++ flat_map written (items_of pairs))
