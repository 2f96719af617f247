use Rattle.sled_log.proofs.Names.{one_update}
use Rattle.sled_log.proofs.laws.a_message_is_one_change.Goals as goal

pub returns : goal.returns
returns c = one_update
