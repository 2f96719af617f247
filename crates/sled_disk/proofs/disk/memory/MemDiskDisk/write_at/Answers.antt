use Rattle.std.proofs.Common.{length}
use Rattle.sled_disk.specs.Journal.{Write}
use Rattle.sled_disk.proofs.Disks.JournalMoments.{stops-write, tears-write, stops-none, elapses}
use Rattle.sled_disk.proofs.disk.memory.MemDiskDisk.write_at.Goals as goal

pub returns-then-due-clause-stop : goal.returns-then-due-clause-stop
returns-then-due-clause-stop c = stops-none c.args.self.now c.args.at (length c.args.bytes.now)

pub returns-clause-stop : goal.returns-clause-stop
returns-clause-stop c =
    stops-write c.args.self.now c.note_write.new.self c.args.at c.args.bytes.now c.note_write.ensures.start c.note_write.ensures.calls

pub returns-clause-time : goal.returns-clause-time
returns-clause-time c = elapses c.args.self.now c.note_write.new.self (Write c.args.at c.args.bytes.now) c.note_write.ensures.start c.note_write.ensures.calls

pub returns-clause-tears : goal.returns-clause-tears
returns-clause-tears c = tears-write c.args.self.now c.note_write.new.self c.args.at c.args.bytes.now c.note_write.ensures.start c.note_write.ensures.calls
