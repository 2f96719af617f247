use Rattle.sled_search.proofs.MergedTrees.{merge-call, right-off}
use Rattle.sled_search.proofs.examples.two_leaves_that_are_merged.Goals as goal

pub returns-clause-call : goal.returns-clause-call
returns-clause-call c = merge-call

pub returns-clause-off : goal.returns-clause-off
returns-clause-off c = right-off
