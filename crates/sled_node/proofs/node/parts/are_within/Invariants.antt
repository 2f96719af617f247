use Rattle.std.proofs.Common.{take}
use Rattle.std.specs.List.{AllByRecursion}
use Rattle.sled_node.specs.Parts.{IsStoredWithin}
use Rattle.sled_node.proofs.node.parts.are_within.Given as goal

abbrev pub invariant-loop-pair : goal.invariant-loop-pair
invariant-loop-pair g l = AllByRecursion (λ pair. IsStoredWithin l.lo l.hi l.most pair.0) (take l.pair-index l.pairs)
