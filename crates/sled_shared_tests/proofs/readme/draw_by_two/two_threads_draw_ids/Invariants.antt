-- The ledger is that of the blank, and it is known in which state the cache is.
use Rattle.std.specs.Prelude.{⊤}
use Rattle.sled_shared_tests.proofs.readme.draw_by_two.two_threads_draw_ids.Given as goal

abbrev pub ghosts-draw_by_two-K-Ledger : goal.ghosts-draw_by_two-K-Ledger
ghosts-draw_by_two-K-Ledger g a = record { name = a.blank.name; parts = a.blank.parts }

abbrev pub ghosts-draw_by_two-K-Tally : goal.ghosts-draw_by_two-K-Tally
ghosts-draw_by_two-K-Tally g a = record { known = ⊤; history = a.blank.history }
