use Rattle.sled_tree.proofs.OrderedReads.{read-first, read-then}
use Rattle.sled_tree.proofs.OrderedSeen.{part-is}
use Rattle.sled_tree.proofs.neighbours.pieces.part_of.Goals as goal

pub returns : goal.returns
returns g c =
    read-then g.L.Log (read-first g.L.Log c.in_ok-leaf.ensures)
    (λ pages comes part shows m tree. part-is pages c.args.root m tree c.in_ok-leaf.leaf c.args.from.now c.args.to.now comes part shows) c.part_at.ensures
