use Rattle.sled_search.proofs.Search.{one_found}
use Rattle.sled_search.specs.Map.{at_key}
use Rattle.sled_search.proofs.laws.a_search_is_answered_by_the_map.Goals as goal

pub returns-clause-one : goal.returns-clause-one
returns-clause-one c pages key a b root (i, x) (j, y) = one_found pages key a b i j root x y

pub returns-clause-map : goal.returns-clause-map
returns-clause-map c pages key value root m tree (i, x) = let (j, y) = tree.comes key in one_found pages key value (at_key m key) i j root x y
