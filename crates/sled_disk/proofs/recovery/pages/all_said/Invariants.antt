use Rattle.std.proofs.Common.{◌≡◌, map, take}
use Rattle.sled_disk.specs.RecoveredHeads.{said_of_head}
use Rattle.sled_disk.proofs.recovery.pages.all_said.Given as goal

abbrev pub invariant-loop-head : goal.invariant-loop-head
invariant-loop-head l = l.all.items ≡ map said_of_head (take l.head-index l.links)
