use Rattle.sled_search.proofs.Changes.{leaf-has}
use Rattle.sled_search.proofs.laws.a_leaf_has_what_the_map_has.Goals as goal

pub returns : goal.returns
returns c pages root m tree key leaf n there comes other range = leaf-has pages root m tree key leaf n there comes other range
