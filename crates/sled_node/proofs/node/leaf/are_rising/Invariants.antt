use Rattle.std.proofs.Common.{◌≡◌, [], ◌-◌, get_or, take}
use Rattle.sled_node.specs.Pairs.{IsAscending}
use Rattle.sled_node.specs.LeafStrings.{paired}
use Rattle.sled_node.proofs.node.leaf.are_rising.Given as goal

-- the keys so far rise, and the last of them is at hand
abbrev pub invariant-loop-i : goal.invariant-loop-i
invariant-loop-i l = IsAscending (take l.i (paired l.strings)) × (l.last ≡ (get_or (paired l.strings) (l.i - 1) ([], [])).0)
