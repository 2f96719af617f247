use Rattle.std.proofs.Common.{◌≡◌, ◌≤◌, ◌-◌, false, length, take}
use Rattle.sled_disk.specs.Disk.{Elapses, Follows, Torn, overlaid}
use Rattle.sled_disk.proofs.disk.file.write_whole.Given as goal

-- so many of the bytes are written, and no write failed
abbrev pub invariant-loop-done : goal.invariant-loop-done
invariant-loop-done g l =
    let may_leave = g.F.SystemFile.may_leave in
    record {
      within : l.done ≤ length l.bytes;
      sound : g.F.SystemFile.tells → g.F.SystemFile.has_failed l.file ≡ false;
      written : g.F.SystemFile.tells → g.F.SystemFile.seen l.file ≡ overlaid (g.F.SystemFile.seen l.fn.file) l.at (take l.done l.bytes);
      stop : g.F.SystemFile.tells → Follows (Torn l.at (length l.bytes)) (may_leave l.fn.file) (may_leave l.file);
      time : g.F.SystemFile.tells → Elapses g.F.SystemFile.moment g.F.SystemFile.left_since may_leave l.fn.file l.file;
    }

abbrev pub decreases-loop-done : goal.decreases-loop-done
decreases-loop-done g l = length l.bytes - l.done
