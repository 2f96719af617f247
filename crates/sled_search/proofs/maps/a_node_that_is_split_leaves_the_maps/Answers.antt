use Rattle.sled_search.proofs.OneOfMany.{in-place-among, hoisted-among}
use Rattle.sled_search.proofs.maps.a_node_that_is_split_leaves_the_maps.Goals as goal

pub returns-clause-in_place : goal.returns-clause-in_place
returns-clause-in_place c pages maps root trees has p many n l r reached was splits well left_well right_well right off at_right = in-place-among pages maps root trees has p n l r reached was splits well left_well right_well right off at_right

pub returns-clause-hoisted : goal.returns-clause-hoisted
returns-clause-hoisted c pages maps root trees has p many n l r reached was splits well left_well right_well left right left_off at_left right_off at_right = hoisted-among pages maps root trees has p n l r reached was splits well left_well right_well right right_off at_right left left_off at_left
