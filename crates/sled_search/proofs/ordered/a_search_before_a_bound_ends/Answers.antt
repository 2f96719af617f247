use Rattle.sled_search.proofs.Before.{before-then}
use Rattle.sled_search.proofs.Below.{few-before, never-astray}
use Rattle.sled_search.proofs.ordered.a_search_before_a_bound_ends.Goals as goal

pub returns-clause-then : goal.returns-clause-then
returns-clause-then c pages bound turns from at to goes leads = before-then pages bound turns from at to goes leads

pub returns-clause-turns : goal.returns-clause-turns
returns-clause-turns c pages root m tree bound first turns at goes = few-before pages root m tree bound first turns at goes

pub returns-clause-astray : goal.returns-clause-astray
returns-clause-astray c pages root m tree bound first turns at goes stray = never-astray pages root m tree bound first turns at goes stray
