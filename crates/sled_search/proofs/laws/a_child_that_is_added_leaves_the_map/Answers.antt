use Rattle.sled_search.proofs.Hints.{tree-hinted}
use Rattle.sled_search.proofs.laws.a_child_that_is_added_leaves_the_map.Goals as goal

pub returns : goal.returns
returns c pages root m tree q n at page was index up child leads node there ends some right = tree-hinted pages root m tree q n at page was index up child leads node there ends some right
