use Rattle.sled_tree.proofs.Performing.{reads-as}
use Rattle.sled_tree.proofs.maps.ordered.range.Goals as goal

pub returns-clause-pairs : goal.returns-clause-pairs
returns-clause-pairs g c = reads-as g.L.Log (λ pages piece. piece) c.in_ok-pairs_within.ensures
