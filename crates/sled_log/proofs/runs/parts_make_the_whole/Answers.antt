use Rattle.sled_log.proofs.Names.{CrashesSinceLeave-then}
use Rattle.sled_log.proofs.runs.parts_make_the_whole.Goals as goal

pub returns : goal.returns
returns g c = CrashesSinceLeave-then g.L.Log.moment g.L.Log.left_since
