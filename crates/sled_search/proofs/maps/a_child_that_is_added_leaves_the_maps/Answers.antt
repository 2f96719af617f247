use Rattle.sled_search.proofs.OneOfMany.{child-among}
use Rattle.sled_search.proofs.maps.a_child_that_is_added_leaves_the_maps.Goals as goal

pub returns : goal.returns
returns c pages maps root trees has q n at page reached was index up child_page leads child there ends some right = child-among pages maps root trees has q n at page reached was index up child_page leads child there ends some right
