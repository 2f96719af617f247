use Rattle.sled_search.proofs.Separated.{right-some}
use Rattle.sled_search.proofs.SplitTrees.{split-in-place, split-hoisted}
use Rattle.sled_search.proofs.laws.a_node_that_is_split_leaves_the_map.Goals as goal

pub returns-clause-in_place : goal.returns-clause-in_place
returns-clause-in_place c pages root m tree p many n l r was splits well left_well right_well right at_right other = split-in-place pages root m tree p n l r was splits left_well right_well (right-some n l r splits well) right at_right other

pub returns-clause-hoisted : goal.returns-clause-hoisted
returns-clause-hoisted c pages root m tree p many n l r was splits well left_well right_well left right at_left left_other at_right right_other = split-hoisted pages root m tree p n l r was splits left_well right_well (right-some n l r splits well) right at_right right_other left at_left left_other
