use Rattle.std.proofs.Common.{◌≡◌, ◌++◌, take}
use Rattle.sled_node.specs.Payloads.Pairs.{items_of}
use Rattle.sled_node.proofs.node.leaf.push_values.Given as goal

abbrev pub invariant-loop-pair : goal.invariant-loop-pair
invariant-loop-pair l = l.strings ≡ l.initial.strings ++ items_of (take l.pair-index l.pairs)
