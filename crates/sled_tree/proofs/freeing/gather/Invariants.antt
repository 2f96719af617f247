use Rattle.sled_tree.specs.Performs.{Performs}
use Rattle.sled_tree.proofs.FreeingPages.{Gathers}
use Rattle.sled_tree.proofs.Performing.{On}
use Rattle.sled_tree.proofs.freeing.gather.Given as goal

-- nothing was done but looks, and from the root the search came here
abbrev pub invariant-turns : goal.invariant-turns
invariant-turns g l = Performs g.L.Log (On (Gathers l.key l.root l.at l.initial.found.items l.found.items)) l.initial.cache l.cache
