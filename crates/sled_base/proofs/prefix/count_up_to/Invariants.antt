use Rattle.std.proofs.Common.{◌≤◌, ◌-◌, length, take}
use Rattle.std.specs.List.{AllWithin}
use Rattle.sled_base.specs.Order.{IsBelow, IsAtMost}
use Rattle.sled_base.proofs.prefix.count_up_to.Given as goal

-- the keys before `low` aren't above the given one, and those from `high` on are
abbrev pub invariant-loop-low : goal.invariant-loop-low
invariant-loop-low l =
    (l.low ≤ l.high) × (l.high ≤ l.count) × AllWithin (λ other. IsAtMost other l.key) (take l.count l.strings) 0 l.low × AllWithin (λ other. IsBelow l.key other) (take l.count l.strings) l.high (length (take l.count l.strings))

abbrev pub decreases-loop-low : goal.decreases-loop-low
decreases-loop-low l = l.high - l.low
