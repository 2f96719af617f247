-- The ledger is that of the blank, and nothing is said of the cache's state.
use Rattle.sled_shared_tests.proofs.tests.a_cache_with_a_kept_error_is_shared.Given as goal

abbrev pub ghosts-kept_before-K-Ledger : goal.ghosts-kept_before-K-Ledger
ghosts-kept_before-K-Ledger g a = record { name = a.blank.name; parts = a.blank.parts }

abbrev pub ghosts-kept_before-K-Tally : goal.ghosts-kept_before-K-Tally
ghosts-kept_before-K-Tally g a = record { known = ⊥; history = a.blank.history }
