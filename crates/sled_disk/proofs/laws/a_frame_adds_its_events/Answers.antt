use Rattle.sled_disk.specs.AppendedFrameLaws.{one-more}
use Rattle.sled_disk.proofs.laws.a_frame_adds_its_events.Goals as goal

pub returns : goal.returns
returns c = one-more
