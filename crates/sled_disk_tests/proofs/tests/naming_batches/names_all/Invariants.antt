use Rattle.std.proofs.Common.{◌≡◌, true}
use Rattle.sled_disk_tests.proofs.tests.naming_batches.names_all.Given as goal

-- each call was answered, so the log may be called
abbrev pub invariant-loop-part : goal.invariant-loop-part
invariant-loop-part g l = (g.L.Log.state l.log).usable ≡ true
