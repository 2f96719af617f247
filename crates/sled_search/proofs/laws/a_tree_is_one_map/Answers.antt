use Rattle.sled_search.proofs.Same.{same-pairs}
use Rattle.sled_search.proofs.Search.{one_found}
use Rattle.sled_search.specs.Map.{at_key}
use Rattle.sled_search.proofs.laws.a_tree_is_one_map.Goals as goal

pub returns : goal.returns
returns c pages root m other tree tree' = same-pairs m other tree.ascending tree'.ascending (λ key.
    let (i, x) = tree.comes key in
    let (j, y) = tree'.comes key in
    one_found pages key (at_key m key) (at_key other key) i j root x y)
