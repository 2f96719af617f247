-- The ledger is that of the blank, and it is known in which state the cache is.
use Rattle.std.specs.Prelude.{⊤}
use Rattle.sled_shared_tests.proofs.tests.each_call_succeeds.Given as goal

abbrev pub ghosts-answers_in_a_row-K-Ledger : goal.ghosts-answers_in_a_row-K-Ledger
ghosts-answers_in_a_row-K-Ledger g a = record { name = a.blank.name; parts = a.blank.parts }

abbrev pub ghosts-answers_in_a_row-K-Tally : goal.ghosts-answers_in_a_row-K-Tally
ghosts-answers_in_a_row-K-Tally g a = record { known = ⊤; history = a.blank.history }
