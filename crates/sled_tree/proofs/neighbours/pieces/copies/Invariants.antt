use Rattle.std.specs.Prelude.{◌≡◌, ◌-◌, take, drop}
use Rattle.sled_tree.specs.OrderedLeaves.{as_items}
use Rattle.sled_tree.proofs.neighbours.pieces.copies.Given as goal

-- the pairs up to here
abbrev pub invariant-places : goal.invariant-places
invariant-places l = as_items l.pairs.items ≡ take (l.at - l.first) (drop l.first l.node.pairs)
