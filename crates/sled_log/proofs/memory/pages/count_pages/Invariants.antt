use Rattle.sled_log.proofs.Names.{◌≡◌, ◌≤◌, drop, map, bare_event, pages_after}
use Rattle.sled_log.proofs.memory.pages.count_pages.Given as goal

-- what is left leads from the pages so far to all
abbrev pub invariant-loop-item : goal.invariant-loop-item
invariant-loop-item l = record { leads : pages_after l.pages (map bare_event (drop l.item-index l.items)) ≡ pages_after 0 (map bare_event l.items); few : l.pages ≤ l.item-index }
