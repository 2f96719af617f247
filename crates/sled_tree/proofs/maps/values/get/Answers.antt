use Rattle.sled_search.specs.Map.{at_key}
use Rattle.sled_search.proofs.Search.{one_found}
use Rattle.sled_tree.specs.Maps.{root_of}
use Rattle.sled_tree.proofs.Performing.{reads-as}
use Rattle.sled_tree.proofs.maps.values.get.Goals as goal

pub returns-clause-value : goal.returns-clause-value
returns-clause-value g c =
    let key = c.args.key.now in
    let value = c.in_ok-value_for.field-0 in
    reads-as g.L.Log
    (λ pages x m tree. one_found pages key value (at_key m key) x.0 (tree.comes key).0 (root_of c.args.tree) x.1 (tree.comes key).1)
    c.in_ok-value_for.ensures
