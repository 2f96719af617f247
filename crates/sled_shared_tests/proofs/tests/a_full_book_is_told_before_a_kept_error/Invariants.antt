-- The ledger is that of the blank, and nothing is said of the cache's state.
use Rattle.sled_shared_tests.proofs.tests.a_full_book_is_told_before_a_kept_error.Given as goal

abbrev pub ghosts-kept_error-K-Ledger : goal.ghosts-kept_error-K-Ledger
ghosts-kept_error-K-Ledger g a = record { name = a.blank.name; parts = a.blank.parts }

abbrev pub ghosts-kept_error-K-Tally : goal.ghosts-kept_error-K-Tally
ghosts-kept_error-K-Tally g a = record { known = ⊥; history = a.blank.history }
