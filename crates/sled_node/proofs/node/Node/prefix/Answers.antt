use Rattle.std.proofs.Common.{◌≡◌, length, take, sym, subst}
use Rattle.std.proofs.lemmas.List.{length-take-le}
use Rattle.sled_node.proofs.WholeKeys.{prefix_within}
use Rattle.sled_node.proofs.node.Node.prefix.Goals as goal

-- the skipped bytes lie within lo
pub slice_bounds-result-end : goal.slice_bounds-result-end
slice_bounds-result-end c =
    let skipped = c.self.inside.prefix_len in
    subst (λ lo. skipped ≡ length (take skipped lo)) (sym c.as_slice.ensures) (sym (length-take-le skipped c.self.inside.lo (prefix_within _ c.self.invariant).0))
