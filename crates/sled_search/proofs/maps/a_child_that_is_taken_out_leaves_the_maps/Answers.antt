use Rattle.std.proofs.Common.{refl}
use Rattle.sled_search.proofs.Merges.{taken-out-among, taken-out-beside}
use Rattle.sled_search.proofs.maps.a_child_that_is_taken_out_leaves_the_maps.Goals as goal

pub returns-clause-trees : goal.returns-clause-trees
returns-clause-trees c pages maps root trees has above n left l right r well under = taken-out-among pages maps root trees has above n left l right r well under

pub returns-clause-beside : goal.returns-clause-beside
returns-clause-beside c pages maps root trees has above n left l right r well under = taken-out-beside pages maps root trees has above n left l right r well under

pub returns-clause-links : goal.returns-clause-links
returns-clause-links c n page none = rw (← none) refl
