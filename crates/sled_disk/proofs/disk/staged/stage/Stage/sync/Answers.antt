use Rattle.sled_disk.specs.Tasks.{tasks_in}
use Rattle.sled_disk.proofs.StagedDisks.StagedReads.{seen-sync, still-sync}
use Rattle.sled_disk.proofs.disk.staged.stage.Stage.sync.Goals as goal

pub returns-clause-seen : goal.returns-clause-seen
returns-clause-seen c file =
    let tasks = c.args.self.now.tasks in
    seen-sync file (tasks_in tasks) (tasks_in c.sync.new.self) tasks.is_synced c.sync.ensures.added c.sync.ensures.same

pub returns-clause-within : goal.returns-clause-within
returns-clause-within c file within =
    let tasks = c.args.self.now.tasks in
    still-sync file (tasks_in tasks) (tasks_in c.sync.new.self) tasks.is_synced c.sync.ensures.added c.sync.ensures.same within
