use Rattle.sled_search.proofs.Above.{first-here, first-further, none-at-end}
use Rattle.sled_search.proofs.ordered.the_first_pair_behind_a_bound.Goals as goal

pub returns-clause-here : goal.returns-clause-here
returns-clause-here c pages root m tree bound leaf comes n there well pair least = first-here pages root m tree bound leaf comes n there well pair least

pub returns-clause-further : goal.returns-clause-further
returns-clause-further c pages root m tree bound leaf comes n there none some answer next = first-further pages root m tree bound leaf comes n there none some answer next

pub returns-clause-end : goal.returns-clause-end
returns-clause-end c pages root m tree bound leaf comes n there none end = none-at-end pages root m tree bound leaf comes n there none end
