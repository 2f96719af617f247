use Rattle.sled_shared.proofs.Replaying.{round-last, round-then}
use Rattle.sled_shared.proofs.law.books_are_rounds.Goals as goal

pub returns-clause-last : goal.returns-clause-last
returns-clause-last g c = round-last g.L.Log

pub returns-clause-then : goal.returns-clause-then
returns-clause-then g c = round-then g.L.Log
