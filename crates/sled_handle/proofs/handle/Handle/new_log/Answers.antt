use Rattle.std.proofs.Common.{rules, inl, inr}
use Rattle.sled_handle.proofs.OpenedFile.{reads_on}
use Rattle.sled_handle.proofs.handle.Handle.new_log.Goals as goal
use Rattle.sled_handle.proofs.handle.Handle.new_log.Goals.{in-Some, in-None}

pub returns-in-Ok-read_on : goal.returns-in-Ok-read_on
returns-in-Ok-read_on c = elim c.match-take.branch [
  | in-Some w ↦ reads_on c.args.settings c.args.self.now.store c.put.new.self.store c.deref_mut.result.now c.read_on.new.store c.in-Ok-read_on.status c.put.ensures (inl (search rules)) c.in-Ok-read_on.ensures.reads_on
  | in-None w ↦ reads_on c.args.settings c.args.self.now.store c.put.new.self.store c.deref_mut.result.now c.read_on.new.store c.in-Ok-read_on.status c.put.ensures (inr (search rules)) c.in-Ok-read_on.ensures.reads_on
]
