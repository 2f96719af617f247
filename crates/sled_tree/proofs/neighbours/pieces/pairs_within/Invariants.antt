use Rattle.sled_tree.specs.OrderedLeaves.{SeesPart}
use Rattle.sled_tree.specs.Performs.{Performs}
use Rattle.sled_tree.proofs.Performing.{On}
use Rattle.sled_tree.proofs.neighbours.pieces.pairs_within.Given as goal

-- nothing was done but looks, and what was seen last is of both bounds
abbrev pub invariant-leaves : goal.invariant-leaves
invariant-leaves g l = Performs g.L.Log (On (λ pages. SeesPart l.root l.from l.to pages l.part)) l.fn.cache l.cache
