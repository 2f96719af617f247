use Rattle.std.proofs.Common.{refl, rules}
use Rattle.sled_disk.proofs.StagedDisks.StagedTasks.{tasks-write}
use Rattle.sled_disk.proofs.disk.staged.tasks.Tasks.write.Goals as goal

pub returns-clause-added : goal.returns-clause-added
returns-clause-added c some =
    let self = c.args.self.now in
    tasks-write self.writes.items c.reserve.new.self.items c.push_back_reserved.new.self.items _ self.bytes.items c.extend_from_slice.new.self.items c.args.bytes.now self.handed_out
    c.reserve.ensures.items c.push_back_reserved.ensures.items c.in_ok-extend_from_slice.ensures.items (search rules) refl
