use Rattle.sled_tree.proofs.Performing.{reads-as}
use Rattle.sled_tree.proofs.maps.ordered.len.Goals as goal

pub returns-clause-count : goal.returns-clause-count
returns-clause-count g c = reads-as g.L.Log (λ pages count. count) c.in_ok-count_all.ensures
