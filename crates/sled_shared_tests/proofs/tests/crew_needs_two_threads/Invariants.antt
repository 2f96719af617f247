-- The ledger is that of the blank, and it is known in which state the cache is.
use Rattle.std.specs.Prelude.{⊤}
use Rattle.sled_shared_tests.proofs.tests.crew_needs_two_threads.Given as goal

abbrev pub ghosts-crew_of-K-Ledger : goal.ghosts-crew_of-K-Ledger
ghosts-crew_of-K-Ledger g a = record { name = a.blank.name; parts = a.blank.parts }

abbrev pub ghosts-crew_of-K-Tally : goal.ghosts-crew_of-K-Tally
ghosts-crew_of-K-Tally g a = record { known = ⊤; history = a.blank.history }
