use Rattle.std.proofs.Common.{◌≡◌, true}
use Rattle.sled_disk_tests.proofs.tests.spilling.link.Given as goal

-- each append was answered, so the log may be called
abbrev pub invariant-loop : goal.invariant-loop
invariant-loop l = l.log.usable ≡ true
