-- A node in memory.
use Rattle.std.specs.Prelude.{Option, Some, None}
use Rattle.std.specs.Global.{Box}
use Rattle.sled_node.specs.Node.{WholeNode, empty_leaf}

-- the node that is stored outside the table, or otherwise an empty leaf
abbrev pub boxed_in : Option (Box WholeNode) → WholeNode
boxed_in None = empty_leaf
boxed_in (Some node) = node.value
