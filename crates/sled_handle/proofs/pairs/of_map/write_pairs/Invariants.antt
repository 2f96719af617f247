-- The bytes so far, those of what is left, and what stood behind.
use Rattle.std.proofs.Common.{◌≡◌, ◌+◌, ◌++◌, length, take, drop}
use Rattle.std.specs.List.{AllByRecursion, flat_map}
use Rattle.sled_handle.specs.Pairs.{IsShort, pair_bytes}
use Rattle.sled_handle.proofs.pairs.of_map.write_pairs.Given as goal

abbrev pub invariant-loop-pair : goal.invariant-loop-pair
invariant-loop-pair l =
    let left = drop l.pair-index l.pairs in
    let all = flat_map pair_bytes l.pairs in
    record {
      size : l.end + length (flat_map pair_bytes left) ≡ length all;
      front : take l.end l.out ++ flat_map pair_bytes left ≡ all;
      back : drop l.end l.out ≡ drop l.end l.initial.out;
      short : AllByRecursion IsShort left;
    }
