use Rattle.std.proofs.Common.{◌≡◌, ◌++◌, take, drop}
use Rattle.sled_node.specs.Restoring.{restored}
use Rattle.sled_node.proofs.node.stored.store_without.Given as goal

abbrev pub invariant-loop-pair : goal.invariant-loop-pair
invariant-loop-pair g l = l.pair-items ≡ restored l.front l.skipped (take l.pair-index l.initial.pair-items) ++ drop l.pair-index l.initial.pair-items
