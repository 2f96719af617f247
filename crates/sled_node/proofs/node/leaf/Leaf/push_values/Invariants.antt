use Rattle.std.proofs.Common.{◌≡◌, ◌-◌, ◌++◌, take, drop}
use Rattle.sled_node.specs.Payloads.Pairs.{items_of}
use Rattle.sled_node.proofs.node.leaf.Leaf.push_values.Given as goal

abbrev pub invariant-loop-i : goal.invariant-loop-i
invariant-loop-i l = l.strings ≡ l.initial.strings ++ items_of (take (l.i - l.from) (drop l.from l.self))
