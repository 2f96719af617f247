use Rattle.std.proofs.Common.{◌≡◌, true}
use Rattle.sled_disk_tests.proofs.tests.acts.acts_all.Given as goal

-- each call succeeded, so the log may be called
abbrev pub invariant-loop-act : goal.invariant-loop-act
invariant-loop-act g l = l.log.usable ≡ true
