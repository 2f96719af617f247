use Rattle.sled_tree.specs.Maps.{Keeps}
use Rattle.sled_tree.specs.Performs.{Performs}
use Rattle.sled_tree.specs.Walks.{HasRoot}
use Rattle.sled_tree.proofs.merging.merge_way.Given as goal

-- the maps are those that they were
abbrev pub invariant-turns : goal.invariant-turns
invariant-turns g l = Performs g.L.Log (Keeps (HasRoot l.way.root)) l.initial.cache l.cache
