use Rattle.std.proofs.Common.{◌-◌, ◌≤◌}
use Rattle.sled_disk.specs.ReaderState.{GoesOn}
use Rattle.sled_disk.specs.DiskReads.{Rests}
use Rattle.sled_disk.proofs.reader.Reader.read.Given as goal

-- the reader goes on in the bytes as they were
abbrev pub invariant-loop-self : goal.invariant-loop-self
invariant-loop-self g l =
    let seen = g.D.Disk.seen in
    let counts = g.D.Disk.counts in
    record {
      goes_on : g.D.Disk.tells → GoesOn (seen l.fn.disk) l.self;
      kept : l.fn.self.at ≤ l.self.at;
      rests : Rests g.D.Disk.tells seen g.D.Disk.may_leave g.D.Disk.moment g.D.Disk.left_since l.fn.disk l.disk;
      faults : (counts l.fn.disk).failed_reads ≤ (counts l.disk).failed_reads;
      writes : (counts l.fn.disk).write_faults ≤ (counts l.disk).write_faults;
    }

abbrev pub decreases-loop-self : goal.decreases-loop-self
decreases-loop-self g l = l.self.end - l.self.at
