use Rattle.std.proofs.Common.{◌≡◌, ◌+◌, drop}
use Rattle.std.specs.Prelude.{nat_eq}
use Rattle.std.specs.List.{common_prefix_len}
use Rattle.sled_node.proofs.node.stored.common_len.Given as goal

-- so many bytes are the same, and what follows decides
abbrev pub invariant-loop-i : goal.invariant-loop-i
invariant-loop-i l = common_prefix_len nat_eq l.left l.right ≡ l.i + common_prefix_len nat_eq (drop l.i l.left) (drop l.i l.right)
