use Rattle.sled_search.proofs.Below.{last-here, last-further, none-before-empty}
use Rattle.sled_search.proofs.ordered.the_last_pair_before_a_bound.Goals as goal

pub returns-clause-here : goal.returns-clause-here
returns-clause-here c pages root m tree bound first turns leaf goes n there leaf_before well pair greatest = last-here pages root m tree bound first turns leaf goes n there leaf_before.0 leaf_before.1 well pair greatest

pub returns-clause-further : goal.returns-clause-further
returns-clause-further c pages root m tree bound first turns leaf goes n there leaf_before none answer next = last-further pages root m tree bound first turns leaf goes n there leaf_before.0 leaf_before.1 none answer next

pub returns-clause-end : goal.returns-clause-end
returns-clause-end c m key value is here = none-before-empty m key value is here
