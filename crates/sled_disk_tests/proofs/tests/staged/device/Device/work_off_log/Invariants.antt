use Rattle.std.proofs.Common.{◌≡◌}
use Rattle.sled_disk_tests.proofs.tests.staged.device.Device.work_off_log.Given as goal

-- each task is handed out by the disk alone
abbrev pub invariant-loop : goal.invariant-loop
invariant-loop l = l.log.usable ≡ l.initial.log.usable
