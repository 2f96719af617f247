-- The size so far, and that of what is left.
use Rattle.std.proofs.Common.{◌≡◌, ◌+◌, length, drop}
use Rattle.std.specs.List.{flat_map}
use Rattle.sled_handle.specs.Pairs.{item_bytes, node_bytes}
use Rattle.sled_handle.proofs.pairs.write.size_of_pairs.Given as goal

abbrev pub invariant-loop-i : goal.invariant-loop-i
invariant-loop-i l = l.size + length (flat_map item_bytes (drop l.i l.node.pairs)) ≡ length (node_bytes l.node)
