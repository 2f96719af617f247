-- What a node has for a whole key.
use Rattle.std.specs.Prelude.{◌≢◌}
use Rattle.std.specs.List.{AllByRecursion, Contains}
use Rattle.sled_base.specs.Order.{Bytes}
use Rattle.sled_node.specs.Node.{Value, WholeNode}

-- the node has the whole key, with the value
abbrev pub HasValue : WholeNode → Bytes → Bytes → Type 0
HasValue n key value = Contains n.pairs (key, Value value)

-- no pair has the whole key
abbrev pub LacksKey : WholeNode → Bytes → Type 0
LacksKey n key = AllByRecursion (λ pair. pair.0 ≢ key) n.pairs
