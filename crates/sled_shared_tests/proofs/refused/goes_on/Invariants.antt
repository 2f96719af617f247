-- The ledger is that of the blank, and nothing is said of the cache's state.
use Rattle.sled_shared_tests.proofs.refused.goes_on.Given as goal

abbrev pub ghosts-made-K-Ledger : goal.ghosts-made-K-Ledger
ghosts-made-K-Ledger g a = record { name = a.blank.name; parts = a.blank.parts }

abbrev pub ghosts-made-K-Tally : goal.ghosts-made-K-Tally
ghosts-made-K-Tally g a = record { known = ⊥; history = a.blank.history }

abbrev pub ghosts-replays-K-Ledger : goal.ghosts-replays-K-Ledger
ghosts-replays-K-Ledger g a = record { name = a.blank.name; parts = a.blank.parts }

abbrev pub ghosts-replays-K-Tally : goal.ghosts-replays-K-Tally
ghosts-replays-K-Tally g a = record { known = ⊥; history = a.blank.history }
