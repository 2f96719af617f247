use Rattle.sled_node.specs.MetaLaws.{stays_where_set, stays_where_taken_out}
use Rattle.sled_node.proofs.laws.other_names_are_left.Goals as goal

pub returns-clause-set : goal.returns-clause-set
returns-clause-set c name other root roots apart = stays_where_set name other roots root apart

pub returns-clause-taken_out : goal.returns-clause-taken_out
returns-clause-taken_out c = stays_where_taken_out
