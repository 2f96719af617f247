-- The ledger is that of the blank, and it is known in which state the cache is.
use Rattle.std.specs.Prelude.{⊤}
use Rattle.sled_shared_tests.proofs.tests.books_are_filled_taken_and_closed.Given as goal

abbrev pub ghosts-rows-K-Ledger : goal.ghosts-rows-K-Ledger
ghosts-rows-K-Ledger g a = record { name = a.blank.name; parts = a.blank.parts }

abbrev pub ghosts-rows-K-Tally : goal.ghosts-rows-K-Tally
ghosts-rows-K-Tally g a = record { known = ⊤; history = a.blank.history }
