use Rattle.std.proofs.Common.{◌≡◌, true}
use Rattle.sled_disk_tests.proofs.tests.moves.append_leaves.Given as goal

-- each append was answered, so the log may be called
abbrev pub invariant-loop-number : goal.invariant-loop-number
invariant-loop-number l = l.log.usable ≡ true
