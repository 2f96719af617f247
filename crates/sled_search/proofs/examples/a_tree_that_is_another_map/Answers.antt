use Rattle.sled_search.proofs.Strays.{pair-lost-is-another}
use Rattle.sled_search.proofs.examples.a_tree_that_is_another_map.Goals as goal

pub returns : goal.returns
returns c tree = pair-lost-is-another tree
