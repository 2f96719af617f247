use Rattle.sled_search.proofs.NextTo.{behind-3, from-3, behind-5, before-5, last-of-all, search-before-5, leaf-before-5}
use Rattle.sled_search.proofs.examples.pairs_next_to_a_bound.Goals as goal

pub returns-clause-behind : goal.returns-clause-behind
returns-clause-behind c = behind-3

pub returns-clause-from : goal.returns-clause-from
returns-clause-from c = from-3

pub returns-clause-no_more : goal.returns-clause-no_more
returns-clause-no_more c = behind-5

pub returns-clause-before : goal.returns-clause-before
returns-clause-before c = before-5

pub returns-clause-last : goal.returns-clause-last
returns-clause-last c = last-of-all

pub returns-clause-search : goal.returns-clause-search
returns-clause-search c = search-before-5

pub returns-clause-leaf : goal.returns-clause-leaf
returns-clause-leaf c = leaf-before-5
