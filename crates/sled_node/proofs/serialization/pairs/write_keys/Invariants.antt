use Rattle.std.proofs.Common.{◌≡◌, ◌+◌, ◌++◌, length, take, drop}
use Rattle.std.specs.List.{flat_map, AllByRecursion}
use Rattle.sled_base.specs.Payloads.ByteStrings.{written_bytes, CanWriteBytes}
use Rattle.sled_node.specs.Payloads.Pairs.{keys_of}
use Rattle.sled_node.proofs.serialization.pairs.write_keys.Given as goal

-- the bytes so far, those of what is left, and what stood behind
abbrev pub invariant-loop-pair : goal.invariant-loop-pair
invariant-loop-pair g l =
    let left = flat_map written_bytes (keys_of (drop l.pair-index l.pairs)) in
    let all = flat_map written_bytes (keys_of l.pairs) in
    record {
      size : l.end + length left ≡ length all;
      front : take l.end l.out ++ left ≡ all;
      back : drop l.end l.out ≡ drop l.end l.initial.out;
      can_write : AllByRecursion CanWriteBytes (keys_of (drop l.pair-index l.pairs));
    }
