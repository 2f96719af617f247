use Rattle.std.proofs.Common.{◌≡◌, take}
use Rattle.sled_node.specs.Sizes.{leaf_size}
use Rattle.sled_node.proofs.node.sizes.size_of_values.Given as goal

-- the size so far
abbrev pub invariant-loop-i : goal.invariant-loop-i
invariant-loop-i l = l.size ≡ leaf_size (take l.i l.leaf)
