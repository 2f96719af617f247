use Rattle.sled_log.proofs.Names.{◌≡◌, ◌++◌, drop, take, map, restarts}
use Rattle.sled_log.proofs.memory.keeping.restart.Given as goal

-- the items so far are restarts, and the others are as they were
abbrev pub invariant-loop-item : goal.invariant-loop-item
invariant-loop-item l = l.items ≡ map restarts (take l.item-index l.fn.items) ++ drop l.item-index l.fn.items
