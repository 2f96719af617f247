use Rattle.std.proofs.Common.{take}
use Rattle.std.specs.List.{AllByRecursion}
use Rattle.sled_node.specs.Pairs.{IsWithinLimit}
use Rattle.sled_node.proofs.node.leaf.have_short_values.Given as goal

abbrev pub invariant-loop-pair : goal.invariant-loop-pair
invariant-loop-pair l = AllByRecursion (λ pair. IsWithinLimit pair.1) (take l.pair-index l.pairs)
