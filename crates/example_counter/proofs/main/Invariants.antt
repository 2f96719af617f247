-- The ledger is that of the blank. Nothing is to be known of the cache's pages.
use Rattle.example_counter.proofs.main.Given as goal

abbrev pub ghosts-draw-K-Ledger : goal.ghosts-draw-K-Ledger
ghosts-draw-K-Ledger g a = record { name = a.blank.name; parts = a.blank.parts }

abbrev pub ghosts-draw-K-Tally : goal.ghosts-draw-K-Tally
ghosts-draw-K-Tally g a = record { known = ⊥; history = a.blank.history }
