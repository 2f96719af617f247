-- The ledger is that of the blank, and it is known in which state the cache is.
use Rattle.std.specs.Prelude.{⊤}
use Rattle.sled_shared_tests.proofs.tests.a_cache_without_shares_is_closed_with_none.Given as goal

abbrev pub ghosts-closings-K-Ledger : goal.ghosts-closings-K-Ledger
ghosts-closings-K-Ledger g a = record { name = a.blank.name; parts = a.blank.parts }

abbrev pub ghosts-closings-K-Tally : goal.ghosts-closings-K-Tally
ghosts-closings-K-Tally g a = record { known = ⊤; history = a.blank.history }
