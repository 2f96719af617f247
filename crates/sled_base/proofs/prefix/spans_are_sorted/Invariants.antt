use Rattle.std.proofs.Common.{◌≡◌, true, take}
use Rattle.std.specs.List.{AllAdjacentBelow}
use Rattle.std.specs.Ordering.{is_le}
use Rattle.sled_base.specs.Order.{bytes_cmp}
use Rattle.sled_base.proofs.prefix.spans_are_sorted.Given as goal

-- none of the first `i` is above the next of them
abbrev pub invariant-loop-i : goal.invariant-loop-i
invariant-loop-i l = AllAdjacentBelow (λ x y. true ≡ is_le (bytes_cmp x y)) (take l.count l.strings) l.i
