use Rattle.sled_tree.specs.Maps.{Keeps}
use Rattle.sled_tree.specs.Performs.{Performs}
use Rattle.sled_tree.specs.Walks.{HasRoot}
use Rattle.sled_tree.proofs.room.room_for.Given as goal

-- the maps are those that they were
abbrev pub invariant-searches : goal.invariant-searches
invariant-searches g l = Performs g.L.Log (Keeps (HasRoot l.root)) l.initial.cache l.cache
