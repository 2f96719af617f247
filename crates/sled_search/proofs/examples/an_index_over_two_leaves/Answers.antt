use Rattle.sled_search.proofs.Grown.{both}
use Rattle.sled_search.proofs.Strays.{left-of-two, right-of-two, none-at-four}
use Rattle.sled_search.proofs.examples.an_index_over_two_leaves.Goals as goal

pub returns-clause-left : goal.returns-clause-left
returns-clause-left c = left-of-two

pub returns-clause-right : goal.returns-clause-right
returns-clause-right c = right-of-two

pub returns-clause-missing : goal.returns-clause-missing
returns-clause-missing c = none-at-four

pub returns-clause-tree : goal.returns-clause-tree
returns-clause-tree c = both
