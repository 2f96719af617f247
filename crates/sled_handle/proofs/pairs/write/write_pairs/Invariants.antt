-- The bytes so far, those of what is left, and what stood behind.
use Rattle.std.proofs.Common.{◌≡◌, ◌+◌, ◌++◌, length, take, drop}
use Rattle.std.specs.List.{flat_map}
use Rattle.sled_handle.specs.Pairs.{item_bytes, node_bytes}
use Rattle.sled_handle.proofs.pairs.write.write_pairs.Given as goal

abbrev pub invariant-loop-i : goal.invariant-loop-i
invariant-loop-i l =
    let left = flat_map item_bytes (drop l.i l.node.pairs) in
    let all = node_bytes l.node in
    record {
      size : l.end + length left ≡ length all;
      front : take l.end l.out ++ left ≡ all;
      back : drop l.end l.out ≡ drop l.end l.initial.out;
    }
