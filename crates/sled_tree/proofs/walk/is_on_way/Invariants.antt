use Rattle.sled_tree.specs.Performs.{Performs}
use Rattle.sled_tree.specs.Walks.{Leads}
use Rattle.sled_tree.proofs.Performing.{On}
use Rattle.sled_tree.proofs.walk.is_on_way.Given as goal

-- nothing was done but looks, and from the root the search came here
abbrev pub invariant-turns : goal.invariant-turns
invariant-turns g l = Performs g.L.Log (On (λ pages. Leads pages l.key l.root l.at)) l.initial.cache l.cache
