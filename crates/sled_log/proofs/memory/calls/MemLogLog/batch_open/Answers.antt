use Rattle.sled_log.proofs.MemCalls.{batch-says}
use Rattle.sled_log.proofs.memory.calls.MemLogLog.batch_open.Goals as goal

pub returns : goal.returns
returns c = batch-says c.args.self.now
