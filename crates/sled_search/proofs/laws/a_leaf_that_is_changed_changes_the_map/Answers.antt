use Rattle.std.proofs.Common.{◌≡◌}
use Rattle.sled_node.specs.Node.{IsInRange, whole}
use Rattle.sled_search.proofs.Search.{found-so, leaf-there}
use Rattle.sled_search.proofs.Trees.{tree-set, tree-del}
use Rattle.sled_search.proofs.laws.a_leaf_that_is_changed_changes_the_map.Goals as goal

pub returns-clause-set : goal.returns-clause-set
returns-clause-set c pages root m tree p n was stored value (i, x) =
    let key = whole n stored in
    tree-set pages root m tree p n was key (leaf-there pages key p n was i root x) (i, found-so pages key (λ pid k. (pid ≡ p) × IsInRange k key) (λ pid _. pid ≡ p) (λ pid k at of is. is.0) i root x) value

pub returns-clause-del : goal.returns-clause-del
returns-clause-del c pages root m tree p n was stored (i, x) =
    let key = whole n stored in
    tree-del pages root m tree p n was key (leaf-there pages key p n was i root x) (i, found-so pages key (λ pid k. (pid ≡ p) × IsInRange k key) (λ pid _. pid ≡ p) (λ pid k at of is. is.0) i root x)
