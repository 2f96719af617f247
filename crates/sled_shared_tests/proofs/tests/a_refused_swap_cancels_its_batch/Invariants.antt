-- The ledger is that of the blank, and it is known in which state the cache is.
use Rattle.std.specs.Prelude.{⊤}
use Rattle.sled_shared_tests.proofs.tests.a_refused_swap_cancels_its_batch.Given as goal

abbrev pub ghosts-batch_rows-K-Ledger : goal.ghosts-batch_rows-K-Ledger
ghosts-batch_rows-K-Ledger g a = record { name = a.blank.name; parts = a.blank.parts }

abbrev pub ghosts-batch_rows-K-Tally : goal.ghosts-batch_rows-K-Tally
ghosts-batch_rows-K-Tally g a = record { known = ⊤; history = a.blank.history }
