use Rattle.sled_tree.proofs.OpeningsFlushed.{flushed-stay}
use Rattle.sled_tree.proofs.openings.flushed_maps_survive.Goals as goal

pub returns : goal.returns
returns c = flushed-stay
