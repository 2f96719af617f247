use Rattle.std.proofs.Common.{◌≡◌, ◌-◌, ◌++◌, take, drop}
use Rattle.sled_node.specs.Payloads.Pairs.{keys_of}
use Rattle.sled_node.specs.Restoring.{restored}
use Rattle.sled_node.proofs.node.leaf.Leaf.push_keys.Given as goal

abbrev pub invariant-loop-i : goal.invariant-loop-i
invariant-loop-i l = l.strings ≡ l.initial.strings ++ keys_of (restored l.front l.skipped (take (l.i - l.from) (drop l.from l.self)))
