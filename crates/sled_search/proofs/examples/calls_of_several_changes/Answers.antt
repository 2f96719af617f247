use Rattle.sled_search.proofs.FourCalls.{four, cut}
use Rattle.sled_search.proofs.examples.calls_of_several_changes.Goals as goal

pub returns-clause-calls : goal.returns-clause-calls
returns-clause-calls c = four

pub returns-clause-cut : goal.returns-clause-cut
returns-clause-cut c = cut
