use Rattle.std.proofs.Common.{◌≡◌, true}
use Rattle.sled_disk_tests.proofs.tests.naming.append_all.Given as goal

-- each call was answered, so the log may be called
abbrev pub invariant-loop-number : goal.invariant-loop-number
invariant-loop-number l = l.log.usable ≡ true
