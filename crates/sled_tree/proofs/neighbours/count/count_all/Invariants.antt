use Rattle.sled_tree.specs.OrderedLeaves.{IsCounted}
use Rattle.sled_tree.specs.Performs.{Performs}
use Rattle.sled_tree.proofs.Performing.{On}
use Rattle.sled_tree.proofs.neighbours.count.count_all.Given as goal

-- nothing was done but looks, and so many pairs were counted before the part that was seen last
abbrev pub invariant-leaves : goal.invariant-leaves
invariant-leaves g l = Performs g.L.Log (On (λ pages. IsCounted pages l.root l.count l.part)) l.fn.cache l.cache
