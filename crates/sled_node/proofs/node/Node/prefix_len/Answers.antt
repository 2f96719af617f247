use Rattle.std.proofs.Common.{◌≤◌, length, ap, subst}
use Rattle.sled_node.proofs.WholeKeys.{prefix_within}
use Rattle.sled_node.proofs.node.Node.prefix_len.Goals as goal

-- the skipped bytes lie within lo
pub returns-clause-within : goal.returns-clause-within
returns-clause-within c = subst (λ lo. c.self.inside.prefix_len ≤ length lo) (ap (λ n. n.lo) c.self.view_is) (prefix_within _ c.self.invariant).0
