use Rattle.std.proofs.Common.{take}
use Rattle.std.specs.List.{AllByRecursion}
use Rattle.sled_node.specs.Pairs.{IsWithinLimit}
use Rattle.sled_node.proofs.node.leaf.are_all_short.Given as goal

abbrev pub invariant-loop-i : goal.invariant-loop-i
invariant-loop-i l = AllByRecursion IsWithinLimit (take l.i l.strings)
