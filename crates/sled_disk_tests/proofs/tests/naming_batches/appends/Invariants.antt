use Rattle.std.proofs.Common.{◌≡◌, true}
use Rattle.sled_disk_tests.proofs.tests.naming_batches.appends.Given as goal

-- each call was answered, so the log may be called
abbrev pub invariant-loop : goal.invariant-loop
invariant-loop g l = (g.L.Log.state l.log).usable ≡ true
