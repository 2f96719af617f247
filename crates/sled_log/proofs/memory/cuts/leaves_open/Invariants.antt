use Rattle.sled_log.proofs.Names.{◌≡◌, drop, map, is_open, open_after, bare_event}
use Rattle.sled_log.proofs.memory.cuts.leaves_open.Given as goal

-- from what is known so far, what is left leads to the answer
abbrev pub invariant-loop-item : goal.invariant-loop-item
invariant-loop-item l = open_after l.open (map bare_event (drop l.item-index l.items)) ≡ is_open (map bare_event l.items)
