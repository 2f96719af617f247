use Rattle.std.proofs.Common.{[], ◌∷◌, ap, ◌∙◌}
use Rattle.sled_disk.specs.CallersFile.{bytewise}
use Rattle.sled_disk.specs.DiskMemory.{calls_of}
use Rattle.sled_disk.specs.Journal.{Sync}
use Rattle.sled_disk.proofs.StagedDisks.TaskReports.{bytewise-append}
use Rattle.sled_disk.proofs.disk.memory.files.MemDiskCallersFile.sync.Goals as goal

pub returns-in-Ok-clause-done : goal.returns-in-Ok-clause-done
returns-in-Ok-clause-done c told is = ap bytewise c.in-Ok.ensures.noted ∙ bytewise-append (calls_of c.args.self.now) (Sync ∷ [])
