use Rattle.sled_shared.proofs.Ids.{rounds_pairs}
use Rattle.sled_shared.proofs.law.ids_never_repeat.Goals as goal

pub returns : goal.returns
returns c = rounds_pairs
