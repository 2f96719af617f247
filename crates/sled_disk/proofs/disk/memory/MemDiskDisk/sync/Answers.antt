use Rattle.sled_disk.proofs.Disks.JournalMoments.{stops-sync, stops-sync-no_more, elapses}
use Rattle.sled_disk.specs.Journal.{Sync}
use Rattle.sled_disk.proofs.disk.memory.MemDiskDisk.sync.Goals as goal

pub returns-clause-durable : goal.returns-clause-durable
returns-clause-durable c = stops-sync c.args.self.now c.note_sync.new.self c.note_sync.ensures.start c.note_sync.ensures.calls

pub returns-clause-stop : goal.returns-clause-stop
returns-clause-stop c = stops-sync-no_more c.args.self.now c.note_sync.new.self c.note_sync.ensures.start c.note_sync.ensures.calls

pub returns-clause-time : goal.returns-clause-time
returns-clause-time c = elapses c.args.self.now c.note_sync.new.self Sync c.note_sync.ensures.start c.note_sync.ensures.calls
