use Rattle.sled_disk.specs.AppendedFrameLaws.{one-meaning}
use Rattle.sled_disk.proofs.laws.a_file_has_one_meaning.Goals as goal

pub returns : goal.returns
returns c = one-meaning
