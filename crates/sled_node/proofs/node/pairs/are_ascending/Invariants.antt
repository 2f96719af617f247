use Rattle.std.proofs.Common.{take}
use Rattle.sled_node.specs.Pairs.{IsAscending}
use Rattle.sled_node.proofs.node.pairs.are_ascending.Given as goal

abbrev pub invariant-loop-i : goal.invariant-loop-i
invariant-loop-i g l = IsAscending (take l.i l.pairs)
