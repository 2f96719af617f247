-- What is written within the limits is short enough for a size of 64 bits.
use Rattle.std.proofs.Common.{ℕ, ◌+◌, ◌*◌, ◌<◌, ◌≤◌, ◌^◌, List, [], ◌∷◌, ◌++◌, length, arith}
use Rattle.std.specs.List.{flat_map, AllByRecursion}
use Rattle.std.proofs.Math.Nat.{suc-mul}
use Rattle.std.proofs.lemmas.List.{length-append, length-map}
use Rattle.sled_base.specs.Order.{Bytes}
use Rattle.sled_node.specs.declared.node.data.Data.{Data}
use Rattle.sled_node.specs.declared.node.data.Data.TheVariants.{Leaf, Index}
use Rattle.sled_node.specs.Pairs.{IsWithinLimit, HasPairs}
use Rattle.sled_node.specs.Parts.{HasStored}
use Rattle.sled_base.specs.Payloads.Numbers.{written_u64}
use Rattle.sled_base.specs.Payloads.ByteStrings.{written_bytes}
use Rattle.sled_base.proofs.Payloads.NumberSizes.{number_size}
use Rattle.sled_node.specs.Payloads.Pairs.{keys_of, items_of, written_pairs}
use Rattle.sled_node.specs.Payloads.PairLaws.{all_keys, all_items}
use Rattle.sled_node.specs.Payloads.Data.{written_data}
use Rattle.sled_node.specs.Payloads.Roots.{written_root}

-- a name and its page
pub pair_size : (name : Bytes) (root : ℕ) → length (written_root (name, root)) ≤ length name + 18
pair_size name root = omega (arith, number_size (length name), number_size root, length-append (written_u64 (length name)) name, length-append (written_bytes name) (written_u64 root))

pub string_size : (bytes : Bytes) → IsWithinLimit bytes → length (written_bytes bytes) ≤ 2147483656
string_size bytes short = omega (arith, short, number_size (length bytes), length-append (written_u64 (length bytes)) bytes)

pub all_size : {V : Type 0} (written : V → List ℕ) (most : ℕ) (values : List V) → AllByRecursion (λ v. length (written v) ≤ most) values → length (flat_map written values) ≤ length values * most
all_size written most [] all = omega arith
all_size written most (v ∷ values) all = let others = all_size written most values all.1 in rw suc-mul (omega (arith, all.0, others, length-append (written v) (flat_map written values)))

module _ {V : Type 0} (written : V → List ℕ) (fits : V → Type 0) (so : (v : V) → fits v → length (written v) ≤ 2147483656) where
  pairs_size : (pairs : List (Bytes × V)) → HasPairs fits pairs → length (written_pairs written pairs) < 2 ^ 57
  pairs_size pairs has =
      let keys = all_size written_bytes 2147483656 (keys_of pairs) (all_keys string_size pairs has.keys) in
      let items = all_size written 2147483656 (items_of pairs) (all_items so pairs has.items) in
      let behind = flat_map written_bytes (keys_of pairs) ++ flat_map written (items_of pairs) in
      omega (arith, has.few, keys, items, number_size (length pairs), length-append (written_u64 (length pairs)) behind, length-append (flat_map written_bytes (keys_of pairs)) (flat_map written (items_of pairs)), length-map pairs (λ pair. pair.0), length-map pairs (λ pair. pair.1))

pub leaf_size : (pairs : List (Bytes × Bytes)) → HasPairs IsWithinLimit pairs → length (written_pairs written_bytes pairs) < 2 ^ 57
leaf_size = pairs_size written_bytes IsWithinLimit string_size

pub index_size : (pairs : List (Bytes × ℕ)) → HasPairs (λ page. page < 2 ^ 64) pairs → length (written_pairs written_u64 pairs) < 2 ^ 57
index_size = pairs_size written_u64 (λ page. page < 2 ^ 64) (λ page lt. omega (arith, number_size page))

pub data_size : (contents : Data) → HasStored contents → length (written_data contents) ≤ 2 ^ 57
data_size (Leaf pairs) has = omega (arith, leaf_size pairs has)
data_size (Index pairs) has = omega (arith, index_size pairs has)
