use Rattle.sled_disk.specs.Tasks.{tasks_in}
use Rattle.sled_disk.proofs.StagedDisks.StagedReads.{seen-next, still-next}
use Rattle.sled_disk.proofs.StagedDisks.TaskReports.{held-next}
use Rattle.sled_disk.proofs.disk.staged.stage.Stage.next.Goals as goal

pub returns-in-Ok-clause-seen : goal.returns-in-Ok-clause-seen
returns-in-Ok-clause-seen g c file within = seen-next file c.next.new.into c.in-Ok.task (tasks_in c.args.self.now.tasks) (tasks_in c.next.new.self) c.in-Ok.ensures.next within

pub returns-in-Ok-clause-within : goal.returns-in-Ok-clause-within
returns-in-Ok-clause-within g c file within = still-next file c.next.new.into c.in-Ok.task (tasks_in c.args.self.now.tasks) (tasks_in c.next.new.self) c.in-Ok.ensures.next within

pub returns-in-Ok-clause-held : goal.returns-in-Ok-clause-held
returns-in-Ok-clause-held g c = λ told.
    let file = g.F.CallersFile in
    held-next (file.first c.args.file.now) (file.first c.next.new.file) (file.done c.args.file.now) (file.done c.next.new.file) c.in-Ok.task c.next.new.into (c.next.ensures.first told) (c.in-Ok.ensures.adds told)
