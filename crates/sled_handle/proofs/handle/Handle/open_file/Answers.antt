use Rattle.std.proofs.Common.{rules, inl, inr}
use Rattle.sled_handle.proofs.OpenedFile.{goes_on}
use Rattle.sled_handle.proofs.handle.Handle.open_file.Goals as goal
use Rattle.sled_handle.proofs.handle.Handle.open_file.Goals.{in-Some, in-None}

pub returns-in-Ok-go_on : goal.returns-in-Ok-go_on
returns-in-Ok-go_on c = elim c.match-take.branch [
  | in-Some w ↦ goes_on c.args.settings c.args.self.now.store c.put.new.self.store c.deref_mut.result.now c.go_on.new.store c.in-Ok-go_on.status c.put.ensures (inl (search rules)) c.in-Ok-go_on.ensures.goes_on
  | in-None w ↦ goes_on c.args.settings c.args.self.now.store c.put.new.self.store c.deref_mut.result.now c.go_on.new.store c.in-Ok-go_on.status c.put.ensures (inr (search rules)) c.in-Ok-go_on.ensures.goes_on
]
