-- The ledger is that of the blank, and it is known in which state the cache is.
use Rattle.std.specs.Prelude.{⊤}
use Rattle.sled_shared_tests.proofs.tests.answers_are_in_the_books.Given as goal

abbrev pub ghosts-asked_by_four-K-Ledger : goal.ghosts-asked_by_four-K-Ledger
ghosts-asked_by_four-K-Ledger g a = record { name = a.blank.name; parts = a.blank.parts }

abbrev pub ghosts-asked_by_four-K-Tally : goal.ghosts-asked_by_four-K-Tally
ghosts-asked_by_four-K-Tally g a = record { known = ⊤; history = a.blank.history }
