use Rattle.sled_search.proofs.InARow.{part-of-calls}
use Rattle.sled_search.specs.Maps.{AreTrees}
use Rattle.sled_search.proofs.calls.a_part_of_the_changes_is_a_part_of_the_calls.Goals as goal

pub returns : goal.returns
returns c pages maps calls are n le = part-of-calls AreTrees calls pages maps are n le
