use Rattle.std.proofs.Common.{sym, ◌∙◌}
use Rattle.sled_disk.proofs.LogCalls.CallOutcomes.{opens-by}
use Rattle.sled_disk.proofs.log.calls.DiskLogLog.batch_open.Goals as goal

pub returns : goal.returns
returns g c = let log = c.args.self.now in let next = log.next in c.batch_open.ensures ∙ next.batch_is ∙ sym (opens-by (g.D.Disk.seen log.disk) next.gate next.spilled next.buffer.items)
