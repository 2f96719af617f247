use Rattle.sled_search.proofs.Grown.{halves}
use Rattle.sled_search.proofs.Strays.{left-half-way, right-half-way}
use Rattle.sled_search.proofs.examples.a_split_before_its_child_is_added.Goals as goal

pub returns-clause-left : goal.returns-clause-left
returns-clause-left c = left-half-way

pub returns-clause-right : goal.returns-clause-right
returns-clause-right c = right-half-way

pub returns-clause-tree : goal.returns-clause-tree
returns-clause-tree c = halves
