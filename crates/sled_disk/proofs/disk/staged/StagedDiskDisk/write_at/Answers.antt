use Rattle.std.proofs.Common.{refl, ap}
use Rattle.sled_disk.specs.Tasks.{tasks_in}
use Rattle.sled_disk.proofs.StagedDisks.StagedMoments.{elapses-write, follows-write, with-write}
use Rattle.sled_disk.proofs.disk.staged.StagedDiskDisk.write_at.Goals as goal

pub returns-then-write-clause-stop : goal.returns-then-write-clause-stop
returns-then-write-clause-stop g c = λ told.
    let self = c.args.self.now in
    let bytes = c.args.bytes.now in
    follows-write (g.F.CallersFile.first self.file) (g.F.CallersFile.done self.file) (tasks_in self.stage.tasks) (tasks_in c.write.new.self.tasks) c.args.at bytes (with-write (g.F.CallersFile.done self.file) (tasks_in self.stage.tasks) (tasks_in c.write.new.self.tasks) c.args.at bytes (c.if-write.ensures.added refl) (λ none. ap tasks_in (c.write.ensures.empty none)))

pub returns-then-write-clause-time : goal.returns-then-write-clause-time
returns-then-write-clause-time g c = λ told.
    let self = c.args.self.now in
    let bytes = c.args.bytes.now in
    elapses-write self _ c.args.at bytes refl (with-write (g.F.CallersFile.done self.file) (tasks_in self.stage.tasks) (tasks_in c.write.new.self.tasks) c.args.at bytes (c.if-write.ensures.added refl) (λ none. ap tasks_in (c.write.ensures.empty none)))
