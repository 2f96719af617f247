-- The ledger is that of the blank, and nothing is said of the cache's state.
use Rattle.sled_shared_tests.proofs.tests.no_strange_token_changes_a_page.Given as goal

abbrev pub ghosts-strange-K-Ledger : goal.ghosts-strange-K-Ledger
ghosts-strange-K-Ledger g a = record { name = a.blank.name; parts = a.blank.parts }

abbrev pub ghosts-strange-K-Tally : goal.ghosts-strange-K-Tally
ghosts-strange-K-Tally g a = record { known = ⊥; history = a.blank.history }

abbrev pub ghosts-strange_again-K-Ledger : goal.ghosts-strange_again-K-Ledger
ghosts-strange_again-K-Ledger g a = record { name = a.blank.name; parts = a.blank.parts }

abbrev pub ghosts-strange_again-K-Tally : goal.ghosts-strange_again-K-Tally
ghosts-strange_again-K-Tally g a = record { known = ⊥; history = a.blank.history }
