use Rattle.std.proofs.Common.{◌<◌, ◌^◌, take}
use Rattle.std.specs.List.{AllByRecursion}
use Rattle.sled_node.proofs.node.data.know_pages.Given as goal

abbrev pub invariant-loop-pair : goal.invariant-loop-pair
invariant-loop-pair l = AllByRecursion (λ pair. pair.1 < 2 ^ 64) (take l.pair-index l.pairs)
