use Rattle.sled_search.proofs.Empty.{empty-tree}
use Rattle.sled_search.proofs.laws.a_new_tree_is_empty.Goals as goal

pub returns : goal.returns
returns c pages root leaf at_root at_leaf = empty-tree pages root leaf at_root at_leaf
