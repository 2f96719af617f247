use Rattle.std.proofs.Common.{take}
use Rattle.std.specs.List.{AllByRecursion}
use Rattle.sled_node.specs.Parts.{IsStoredWithin}
use Rattle.sled_node.proofs.node.parts.leaf_is_within.Given as goal

abbrev pub invariant-loop-i : goal.invariant-loop-i
invariant-loop-i l = AllByRecursion (λ pair. IsStoredWithin l.lo l.hi l.most pair.0) (take l.i l.leaf)
