-- The ledger is that of the blank, and nothing is said of the cache's state.
use Rattle.sled_shared_fault_tests.proofs.tests.ten_thousand_ids_come_in_their_order.Given as goal

abbrev pub ghosts-ids_in_order-K-Ledger : goal.ghosts-ids_in_order-K-Ledger
ghosts-ids_in_order-K-Ledger g a = record { name = a.blank.name; parts = a.blank.parts }

abbrev pub ghosts-ids_in_order-K-Tally : goal.ghosts-ids_in_order-K-Tally
ghosts-ids_in_order-K-Tally g a = record { known = ⊥; history = a.blank.history }
