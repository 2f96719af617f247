use Rattle.sled_search.proofs.Leaves.{few-up, up-then, few-down, down-then}
use Rattle.sled_search.proofs.ordered.leaves_in_a_row_are_few.Goals as goal

pub returns-clause-up : goal.returns-clause-up
returns-clause-up c pages root leaves from to goes = few-up pages root leaves from to goes

pub returns-clause-up_then : goal.returns-clause-up_then
returns-clause-up_then c pages root leaves leaf from to goes comes n there some = up-then pages root leaves leaf from to goes comes n there some

pub returns-clause-down : goal.returns-clause-down
returns-clause-down c pages root leaves from to goes = few-down pages root leaves from to goes

pub returns-clause-down_then : goal.returns-clause-down_then
returns-clause-down_then c pages root leaves turns leaf from to goes before n there has some = down-then pages root leaves turns leaf from to goes before n there has some
