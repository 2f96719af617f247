use Rattle.std.proofs.Common.{◌≡◌, ◌++◌, map}
use Rattle.sled_tree.specs.Dropping.{names_of}
use Rattle.sled_tree.proofs.maps.names.names_in.Given as goal

-- the names so far, and those that are left
abbrev pub invariant-loop-name : goal.invariant-loop-name
invariant-loop-name l = l.names.items ++ map (λ name. name.items) l.name-iterator ≡ names_of l.meta
