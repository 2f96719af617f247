use Rattle.sled_tree.proofs.OrderedReads.{read-first, read-then}
use Rattle.sled_tree.proofs.neighbours.count.part_of.Goals as goal

pub returns : goal.returns
returns g c = read-then g.L.Log (read-first g.L.Log c.in_ok-leaf.ensures) (λ pages comes part shows. (c.in_ok-leaf.leaf, comes, shows)) c.part_at.ensures
