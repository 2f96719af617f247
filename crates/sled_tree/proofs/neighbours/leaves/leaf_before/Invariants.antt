use Rattle.sled_tree.specs.Performs.{Performs}
use Rattle.sled_tree.proofs.OrderedReads.{LedBefore}
use Rattle.sled_tree.proofs.Performing.{On}
use Rattle.sled_tree.proofs.neighbours.leaves.leaf_before.Given as goal

-- nothing was done but looks, and from the root the search came here
abbrev pub invariant-turns : goal.invariant-turns
invariant-turns g l = Performs g.L.Log (On (LedBefore l.root l.bound l.at)) l.initial.cache l.cache
