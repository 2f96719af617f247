use Rattle.sled_search.proofs.Trees.{tree-added}
use Rattle.sled_search.proofs.laws.a_page_that_is_added_leaves_the_map.Goals as goal

pub returns : goal.returns
returns c pages root m tree changed p none others = tree-added pages changed p others none root m tree
