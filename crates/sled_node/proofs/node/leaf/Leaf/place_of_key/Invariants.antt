use Rattle.std.proofs.Common.{◌≤◌, ◌-◌, length}
use Rattle.std.specs.List.{AllWithin}
use Rattle.sled_base.specs.Order.{IsBelow}
use Rattle.sled_node.proofs.node.leaf.Leaf.place_of_key.Given as goal

-- the pairs before `low` are below the key, and those from `high` on are above it
abbrev pub invariant-loop-low : goal.invariant-loop-low
invariant-loop-low l = record {
  order : l.low ≤ l.high;
  within : l.high ≤ length l.self;
  below : AllWithin (λ pair. IsBelow pair.0 l.key) l.self 0 l.low;
  above : AllWithin (λ pair. IsBelow l.key pair.0) l.self l.high (length l.self);
}

abbrev pub decreases-loop-low : goal.decreases-loop-low
decreases-loop-low l = l.high - l.low
