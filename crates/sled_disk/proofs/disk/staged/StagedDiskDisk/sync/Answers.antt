use Rattle.std.proofs.Common.{refl}
use Rattle.sled_disk.specs.Tasks.{tasks_in}
use Rattle.sled_disk.proofs.StagedDisks.StagedMoments.{durable, elapses-sync, no_more, settled-sync}
use Rattle.sled_disk.proofs.disk.staged.StagedDiskDisk.sync.Goals as goal

pub returns-then-sync-clause-durable : goal.returns-then-sync-clause-durable
returns-then-sync-clause-durable g c = λ told.
    let self = c.args.self.now in
    durable self (self.over told).within (g.met.F.CallersFile.seen_now self.file told) (tasks_in c.sync.new.self.tasks) self.stage.tasks.is_synced (c.if-sync.ensures.added refl) (c.if-sync.ensures.same refl) (self.settled told)

pub returns-then-sync-clause-stop : goal.returns-then-sync-clause-stop
returns-then-sync-clause-stop g c = λ told.
    let self = c.args.self.now in
    no_more self (self.over told).within (g.met.F.CallersFile.seen_now self.file told) (tasks_in c.sync.new.self.tasks) self.stage.tasks.is_synced (c.if-sync.ensures.added refl) (c.if-sync.ensures.same refl) (self.settled told)

pub returns-then-sync-clause-time : goal.returns-then-sync-clause-time
returns-then-sync-clause-time g c = λ told.
    let self = c.args.self.now in
    elapses-sync self _ refl refl self.stage.tasks.is_synced (c.if-sync.ensures.added refl) (c.if-sync.ensures.same refl)

pub invariant_of-self-clause-settled : goal.invariant_of-self-clause-settled
invariant_of-self-clause-settled g c = λ told is.
    let self = c.args.self.now in
    let file = g.F.CallersFile in
    settled-sync (file.first self.file) (file.done self.file) (tasks_in self.stage.tasks) (tasks_in c.sync.new.self.tasks) self.stage.tasks.is_synced (c.if-sync.ensures.added refl) (c.if-sync.ensures.same refl) (self.settled told)
