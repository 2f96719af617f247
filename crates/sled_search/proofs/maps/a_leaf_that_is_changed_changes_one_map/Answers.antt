use Rattle.sled_node.specs.Node.{whole}
use Rattle.sled_search.proofs.OneOfMany.{set-among, del-among}
use Rattle.sled_search.proofs.maps.a_leaf_that_is_changed_changes_one_map.Goals as goal

pub returns-clause-set : goal.returns-clause-set
returns-clause-set c pages maps root m trees is p n was stored value comes = set-among pages maps root trees m is p n was (whole n stored) comes value

pub returns-clause-del : goal.returns-clause-del
returns-clause-del c pages maps root m trees is p n was stored comes = del-among pages maps root trees m is p n was (whole n stored) comes
