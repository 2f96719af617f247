use Rattle.std.proofs.Common.{◌≡◌, ◌≤◌, ◌+◌, ◌*◌, None}
use Rattle.sled_disk.specs.LogSteps.{LooksAhead}
use Rattle.sled_disk.specs.Names.{moves_in, AreSteps}
use Rattle.sled_disk.proofs.log.DiskLog.read_name.Given as goal

-- no message was read, and so many steps were made
abbrev pub invariant-loop : goal.invariant-loop
invariant-loop g l =
    let seen = g.D.Disk.seen in
    let counts = g.D.Disk.counts in
    let old = l.fn.self in
    record {
      looks : LooksAhead old l.self;
      unread : l.self.names.read ≡ None;
      disk_reads : (counts l.self.disk).reads ≤ (counts old.disk).reads + 2 * l.counter;
      moves : g.D.Disk.tells → moves_in (seen old.disk) l.self.next l.self.names ≡ moves_in (seen old.disk) old.next old.names;
      further : g.D.Disk.tells → AreSteps l.counter old.names l.self.names;
    }
