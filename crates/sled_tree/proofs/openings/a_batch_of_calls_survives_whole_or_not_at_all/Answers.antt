use Rattle.sled_tree.proofs.OpeningsBatches.{whole-or-not}
use Rattle.sled_tree.proofs.openings.a_batch_of_calls_survives_whole_or_not_at_all.Goals as goal

pub returns : goal.returns
returns c = λ h before batch behind opened sealed are none pages w survives. whole-or-not before batch behind opened sealed h are none pages w survives
