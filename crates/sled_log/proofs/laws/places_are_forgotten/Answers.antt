use Rattle.sled_log.proofs.Names.{Adds-unplaced}
use Rattle.sled_log.proofs.laws.places_are_forgotten.Goals as goal

pub returns : goal.returns
returns c = Adds-unplaced
