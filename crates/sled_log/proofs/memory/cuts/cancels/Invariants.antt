use Rattle.sled_log.proofs.Names.{◌≡◌, drop, map, is_cancelled, bare_event}
use Rattle.sled_log.proofs.memory.cuts.cancels.Given as goal

-- what is left says what all say
abbrev pub invariant-loop-item : goal.invariant-loop-item
invariant-loop-item l = is_cancelled (map bare_event (drop l.item-index l.items)) ≡ is_cancelled (map bare_event l.items)
