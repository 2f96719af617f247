use Rattle.sled_node.specs.MetaLaws.{reads_back}
use Rattle.sled_node.proofs.laws.a_set_name_is_read_back.Goals as goal

pub returns : goal.returns
returns c = reads_back
