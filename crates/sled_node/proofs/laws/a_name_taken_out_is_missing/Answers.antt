use Rattle.sled_node.specs.MetaLaws.{reads_none}
use Rattle.sled_node.proofs.laws.a_name_taken_out_is_missing.Goals as goal

pub returns : goal.returns
returns c = reads_none
