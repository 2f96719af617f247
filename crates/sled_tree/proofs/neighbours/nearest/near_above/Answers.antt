use Rattle.sled_tree.proofs.OrderedReads.{read-first, read-then}
use Rattle.sled_tree.proofs.OrderedSeen.{near-above}
use Rattle.sled_tree.proofs.neighbours.nearest.near_above.Goals as goal

pub returns : goal.returns
returns g c =
    read-then g.L.Log (read-first g.L.Log c.in_ok-leaf.ensures)
    (λ pages comes near shows m tree. near-above pages c.args.root m tree c.args.bound.now c.in_ok-leaf.leaf comes near shows) c.near_at.ensures
