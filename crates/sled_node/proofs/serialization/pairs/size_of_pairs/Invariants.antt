use Rattle.std.proofs.Common.{◌≡◌, ◌+◌, length, drop}
use Rattle.std.specs.List.{flat_map, AllByRecursion}
use Rattle.sled_base.specs.Payloads.ByteStrings.{written_bytes, CanWriteBytes}
use Rattle.sled_node.specs.Payloads.Pairs.{keys_of, items_of, written_pairs}
use Rattle.sled_node.proofs.serialization.pairs.size_of_pairs.Given as goal

-- the size so far, and that of what is left
abbrev pub invariant-loop-pair : goal.invariant-loop-pair
invariant-loop-pair g l =
    let left = drop l.pair-index l.pairs in
    record {
      size : l.size + length (flat_map written_bytes (keys_of left)) + length (flat_map g.V.Serialize.written (items_of left)) ≡ length (written_pairs g.V.Serialize.written l.pairs);
      keys : AllByRecursion CanWriteBytes (keys_of left);
      items : AllByRecursion g.V.Serialize.can_write (items_of left);
    }
