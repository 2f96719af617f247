use Rattle.sled_search.proofs.Merges.{taken-in-among, taken-in-off}
use Rattle.sled_search.proofs.maps.a_node_that_takes_in_its_neighbour_leaves_the_maps.Goals as goal

pub returns-clause-trees : goal.returns-clause-trees
returns-clause-trees c pages maps root trees has left l right r beside fits left_well right_well = taken-in-among pages maps root trees has left l right r beside fits left_well right_well

pub returns-clause-off : goal.returns-clause-off
returns-clause-off c pages maps root trees has left l right r beside fits left_well right_well = taken-in-off pages maps root trees has left l right r beside fits left_well right_well
