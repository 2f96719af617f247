use Rattle.sled_tree.specs.OrderedLeaves.{SeesNear}
use Rattle.sled_tree.specs.Performs.{Performs}
use Rattle.sled_tree.proofs.Performing.{On}
use Rattle.sled_tree.proofs.neighbours.nearest.next_to.Given as goal

-- nothing was done but looks, and what was seen last is of the bound
abbrev pub invariant-leaves : goal.invariant-leaves
invariant-leaves g l = Performs g.L.Log (On (λ pages. SeesNear l.side l.root l.bound pages l.near)) l.fn.cache l.cache
