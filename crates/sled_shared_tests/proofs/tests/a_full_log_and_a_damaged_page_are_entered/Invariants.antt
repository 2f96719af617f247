-- The ledger is that of the blank, and nothing is said of the cache's state.
use Rattle.sled_shared_tests.proofs.tests.a_full_log_and_a_damaged_page_are_entered.Given as goal

abbrev pub ghosts-poor-K-Ledger : goal.ghosts-poor-K-Ledger
ghosts-poor-K-Ledger g a = record { name = a.blank.name; parts = a.blank.parts }

abbrev pub ghosts-poor-K-Tally : goal.ghosts-poor-K-Tally
ghosts-poor-K-Tally g a = record { known = ⊥; history = a.blank.history }
