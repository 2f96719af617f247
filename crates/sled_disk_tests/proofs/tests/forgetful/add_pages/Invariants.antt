use Rattle.std.proofs.Common.{◌≡◌, true}
use Rattle.sled_disk_tests.proofs.tests.forgetful.add_pages.Given as goal

-- no call failed
abbrev pub invariant-loop-number : goal.invariant-loop-number
invariant-loop-number l = l.log.usable ≡ true
