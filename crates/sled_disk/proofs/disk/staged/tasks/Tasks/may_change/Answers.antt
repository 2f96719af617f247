use Rattle.std.proofs.Common.{rules, drop, inl, inr}
use Rattle.sled_disk.proofs.StagedDisks.StagedTasks.{leaves-tasks}
use Rattle.sled_disk.proofs.disk.staged.tasks.Tasks.may_change.Goals as goal

pub returns-then-from-self : goal.returns-then-from-self
returns-then-from-self c before =
    let self = c.args.self.now in
    leaves-tasks self.from self.to c.args.from c.args.to self.writes.items (drop self.handed_out self.bytes.items) self.sync_last self.around (inr (search rules))

pub returns-else-from-self : goal.returns-else-from-self
returns-else-from-self c after =
    let self = c.args.self.now in
    leaves-tasks self.from self.to c.args.from c.args.to self.writes.items (drop self.handed_out self.bytes.items) self.sync_last self.around (inl (search rules))
