use Rattle.sled_log.proofs.Names.{reads-left}
use Rattle.sled_log.proofs.laws.crashes_leave_contents.Goals as goal

pub returns : goal.returns
returns c = reads-left
