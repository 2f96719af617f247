use Rattle.sled_search.proofs.Off.{all-off, stays-off, no-node-off, one-changes}
use Rattle.sled_search.proofs.maps.a_page_off_all_trees_may_change.Goals as goal

pub returns-clause-trees : goal.returns-clause-trees
returns-clause-trees c pages changed maps p trees off one = all-off pages changed maps p trees off one

pub returns-clause-off : goal.returns-clause-off
returns-clause-off c pages changed maps p off one page page_off = stays-off pages changed maps p off one page page_off

pub returns-clause-no_node : goal.returns-clause-no_node
returns-clause-no_node c pages maps p trees none = no-node-off pages maps p trees none

pub returns-clause-one : goal.returns-clause-one
returns-clause-one c pages id update = one-changes pages id update
