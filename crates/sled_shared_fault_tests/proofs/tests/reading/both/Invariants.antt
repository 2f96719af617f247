-- The ledger is that of the blank, and nothing is said of the cache's state.
use Rattle.sled_shared_fault_tests.proofs.tests.reading.both.Given as goal

abbrev pub ghosts-shared-K-Ledger : goal.ghosts-shared-K-Ledger
ghosts-shared-K-Ledger g a = record { name = a.blank.name; parts = a.blank.parts }

abbrev pub ghosts-shared-K-Tally : goal.ghosts-shared-K-Tally
ghosts-shared-K-Tally g a = record { known = ⊥; history = a.blank.history }
