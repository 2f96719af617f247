use Rattle.sled_disk.specs.AppendedFrameLaws.{behind-gate}
use Rattle.sled_disk.proofs.laws.bytes_behind_the_gate_say_nothing.Goals as goal

pub returns : goal.returns
returns c = behind-gate
