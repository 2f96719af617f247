use Rattle.sled_search.proofs.TwoRoots.{two, each, not-two}
use Rattle.sled_search.proofs.examples.two_roots.Goals as goal

pub returns-clause-two : goal.returns-clause-two
returns-clause-two c = two

pub returns-clause-each : goal.returns-clause-each
returns-clause-each c = each

pub returns-clause-not_two : goal.returns-clause-not_two
returns-clause-not_two c trees = not-two trees
