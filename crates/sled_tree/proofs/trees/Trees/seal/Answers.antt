use Rattle.sled_tree.proofs.Marking.{seal-leaves}
use Rattle.sled_tree.proofs.Performing.{from-same}
use Rattle.sled_tree.proofs.trees.Trees.seal.Goals as goal

pub returns-clause-pages : goal.returns-clause-pages
returns-clause-pages g c = from-same g.L.Log c.self.view_is (seal-leaves g.L.Log c.seal.ensures.closes)

pub returns-in_err-seal-clause-pages : goal.returns-in_err-seal-clause-pages
returns-in_err-seal-clause-pages g c = from-same g.L.Log c.self.view_is (seal-leaves g.L.Log c.seal.ensures.closes)
