use Rattle.sled_log.specs.Inside.WritingLaws.{written-update}
use Rattle.sled_log.proofs.laws.what_was_written_is_read.Goals as goal

pub returns : goal.returns
returns c = written-update
