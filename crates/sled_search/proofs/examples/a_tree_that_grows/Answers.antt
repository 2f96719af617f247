use Rattle.sled_search.proofs.Grown.{empty, with_5, with_1, with_3, with_right, halves, both}
use Rattle.sled_search.proofs.examples.a_tree_that_grows.Goals as goal

pub returns-clause-maps : goal.returns-clause-maps
returns-clause-maps c = (empty, (with_5, (with_1, (with_3, (with_right, (halves, both))))))
