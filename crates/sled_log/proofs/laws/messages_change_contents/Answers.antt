use Rattle.sled_log.proofs.Names.{holds-after}
use Rattle.sled_log.proofs.laws.messages_change_contents.Goals as goal

pub returns : goal.returns
returns c = holds-after
