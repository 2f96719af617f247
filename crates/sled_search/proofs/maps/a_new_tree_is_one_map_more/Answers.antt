use Rattle.sled_search.proofs.Together.{none-there, alone, one-more}
use Rattle.sled_search.proofs.maps.a_new_tree_is_one_map_more.Goals as goal

pub returns-clause-none : goal.returns-clause-none
returns-clause-none c pages = none-there pages

pub returns-clause-alone : goal.returns-clause-alone
returns-clause-alone c pages root m tree order = alone pages root m tree order

pub returns-clause-one : goal.returns-clause-one
returns-clause-one c pages maps root leaf trees off leaf_off at_root at_leaf = one-more pages maps root leaf trees off leaf_off at_root at_leaf
