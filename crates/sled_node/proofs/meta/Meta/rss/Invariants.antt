use Rattle.std.proofs.Common.{◌≡◌, ◌+◌}
use Rattle.sled_node.specs.Meta.{roots_size}
use Rattle.sled_node.proofs.RootEntries.{names_size}
use Rattle.sled_node.proofs.meta.Meta.rss.Given as goal

-- the size so far, and that of the names that are left
abbrev pub invariant-loop-name : goal.invariant-loop-name
invariant-loop-name l = l.size + names_size l.name-iterator ≡ roots_size l.self
