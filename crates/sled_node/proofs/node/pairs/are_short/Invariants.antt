use Rattle.std.proofs.Common.{take}
use Rattle.std.specs.List.{AllByRecursion}
use Rattle.sled_node.specs.Pairs.{IsWithinLimit}
use Rattle.sled_node.proofs.node.pairs.are_short.Given as goal

abbrev pub invariant-loop-pair : goal.invariant-loop-pair
invariant-loop-pair g l = AllByRecursion (λ pair. IsWithinLimit pair.0) (take l.pair-index l.pairs)
