-- The ledger is that of the blank, and it is known in which state the cache is.
use Rattle.std.specs.Prelude.{⊤}
use Rattle.sled_shared_tests.proofs.tests.a_book_of_no_entries_lets_no_call_in.Given as goal

abbrev pub ghosts-without_room-K-Ledger : goal.ghosts-without_room-K-Ledger
ghosts-without_room-K-Ledger g a = record { name = a.blank.name; parts = a.blank.parts }

abbrev pub ghosts-without_room-K-Tally : goal.ghosts-without_room-K-Tally
ghosts-without_room-K-Tally g a = record { known = ⊤; history = a.blank.history }
