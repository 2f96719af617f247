use Rattle.sled_tree.specs.Performs.{Performs}
use Rattle.sled_tree.specs.Walks.{LeadsBy}
use Rattle.sled_tree.proofs.Performing.{On}
use Rattle.sled_tree.proofs.place.seek.Given as goal

-- nothing was done but looks, and from the root the search came here by the other page
abbrev pub invariant-turns : goal.invariant-turns
invariant-turns g l = Performs g.L.Log (On (λ pages. LeadsBy pages l.key l.root l.above l.at)) l.initial.cache l.cache
