use Rattle.sled_tree.proofs.Keeping.{keeps-and, reads-keep}
use Rattle.sled_tree.proofs.merging.merge_leaf.Goals as goal

pub returns : goal.returns
returns g c = keeps-and g.L.Log (reads-keep g.L.Log c.has_few.ensures) c.merge_way.ensures
