use Rattle.sled_search.proofs.Together.{one-less, dropped-off}
use Rattle.sled_search.proofs.maps.a_tree_that_is_dropped_leaves_the_others.Goals as goal

pub returns-clause-trees : goal.returns-clause-trees
returns-clause-trees c pages maps root trees = one-less pages maps root trees

pub returns-clause-off : goal.returns-clause-off
returns-clause-off c pages maps root page trees has x = dropped-off pages maps root page trees has x
