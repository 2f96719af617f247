use Rattle.std.proofs.Common.{◌≢◌, take}
use Rattle.std.specs.List.{AllByRecursion}
use Rattle.sled_disk.proofs.log.finding.head_at.Given as goal

abbrev pub invariant-loop-head : goal.invariant-loop-head
invariant-loop-head l = AllByRecursion (λ head. head.place ≢ l.at) (take l.head-index l.chain)
