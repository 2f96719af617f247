use Rattle.sled_tree.specs.Dropping.{AreReached}
use Rattle.sled_tree.specs.Performs.{Performs}
use Rattle.sled_tree.proofs.Performing.{On}
use Rattle.sled_tree.proofs.freeing.pages_of.Given as goal

-- nothing was done but looks, and searches are at the pages so far
abbrev pub invariant-leaves : goal.invariant-leaves
invariant-leaves g l = Performs g.L.Log (On (AreReached l.root l.found.items)) l.initial.cache l.cache
