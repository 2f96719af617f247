-- The ledger is that of the blank, and it is known in which state the cache is.
use Rattle.std.specs.Prelude.{⊤}
use Rattle.sled_shared_tests.proofs.tests.batches_may_be_empty_and_long.Given as goal

abbrev pub ghosts-batches-K-Ledger : goal.ghosts-batches-K-Ledger
ghosts-batches-K-Ledger g a = record { name = a.blank.name; parts = a.blank.parts }

abbrev pub ghosts-batches-K-Tally : goal.ghosts-batches-K-Tally
ghosts-batches-K-Tally g a = record { known = ⊤; history = a.blank.history }
