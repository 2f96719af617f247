-- The size so far with that of what is left, and that the pairs are short if those are that are left.
use Rattle.std.proofs.Common.{◌≡◌, ◌+◌, ◌<◌, ◌^◌, length, drop}
use Rattle.std.specs.List.{AllByRecursion, flat_map}
use Rattle.sled_handle.specs.Pairs.{IsShort, pair_bytes}
use Rattle.sled_handle.proofs.pairs.of_map.size_of_all.Given as goal

abbrev pub invariant-loop-pair : goal.invariant-loop-pair
invariant-loop-pair l =
    let left = drop l.pair-index l.pairs in
    (l.size + length (flat_map pair_bytes left) ≡ length (flat_map pair_bytes l.pairs)) × (l.size < 2 ^ 64) × (AllByRecursion IsShort left → AllByRecursion IsShort l.pairs)
