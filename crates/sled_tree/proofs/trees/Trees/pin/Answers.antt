use Rattle.sled_tree.proofs.Marking.{pin-keeps}
use Rattle.sled_tree.proofs.Performing.{from-same}
use Rattle.sled_tree.proofs.trees.Trees.pin.Goals as goal

pub returns-clause-maps : goal.returns-clause-maps
returns-clause-maps g c = from-same g.L.Log c.self.view_is (pin-keeps g.L.Log c.pin.ensures.opens)

pub returns-in_err-pin-clause-maps : goal.returns-in_err-pin-clause-maps
returns-in_err-pin-clause-maps g c = from-same g.L.Log c.self.view_is (pin-keeps g.L.Log c.pin.ensures.opens)
