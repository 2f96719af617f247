use Rattle.std.proofs.Common.{◌≡◌, ◌≤◌, ◌+◌, drop}
use Rattle.sled_log.specs.Inside.Stored.{before_change}
use Rattle.sled_log.proofs.memory.finding.before_change.Given as goal

-- what was passed by, and what comes before the first message of what is left
abbrev pub invariant-loop-item : goal.invariant-loop-item
invariant-loop-item l = (l.n + before_change (drop l.item-index l.items) ≡ before_change l.items) × (l.n ≤ l.item-index)
