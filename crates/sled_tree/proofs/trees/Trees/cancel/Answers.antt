use Rattle.sled_tree.proofs.Marking.{cancel-leaves}
use Rattle.sled_tree.proofs.Performing.{from-same}
use Rattle.sled_tree.proofs.trees.Trees.cancel.Goals as goal

pub returns-clause-pages : goal.returns-clause-pages
returns-clause-pages g c = from-same g.L.Log c.self.view_is (cancel-leaves g.L.Log c.cancel.ensures.closes)

pub returns-in_err-cancel-clause-pages : goal.returns-in_err-cancel-clause-pages
returns-in_err-cancel-clause-pages g c = from-same g.L.Log c.self.view_is (cancel-leaves g.L.Log c.cancel.ensures.closes)
