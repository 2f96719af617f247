use Rattle.std.proofs.Common.{◌↔◌, IsTrue, ◌≤◌, ◌≢◌, [], not, length, sym, subst, rules}
use Rattle.sled_node.specs.Node.{whole, IsInRange}
use Rattle.sled_node.proofs.WholeKeys.{prefix_within, out_of_range, range_to_hi}
use Rattle.sled_node.proofs.node.Node.spans.Goals as goal

pub slice_bounds-is_below-count : goal.slice_bounds-is_below-count
slice_bounds-is_below-count c = subst (λ bound. c.self.inside.prefix_len ≤ length bound) (sym c.as_slice.ensures) (prefix_within _ c.self.invariant).0

pub slice_bounds-is_below-start : goal.slice_bounds-is_below-start
slice_bounds-is_below-start c =
    let within : c.self.inside.prefix_len ≤ length c.as_slice.result.now = subst (λ bound. c.self.inside.prefix_len ≤ length bound) (sym c.as_slice.ensures) (prefix_within _ c.self.invariant).0 in
    search rules

pub slice_bounds-is_below-count-else-is_empty : goal.slice_bounds-is_below-count-else-is_empty
slice_bounds-is_below-count-else-is_empty c = subst (λ bound. c.self.inside.prefix_len ≤ length bound) (sym c.as_slice-else-is_empty.ensures) (prefix_within _ c.self.invariant).1

pub slice_bounds-is_below-start-else-is_empty : goal.slice_bounds-is_below-start-else-is_empty
slice_bounds-is_below-start-else-is_empty c =
    let within : c.self.inside.prefix_len ≤ length c.as_slice-else-is_empty.result.now = subst (λ bound. c.self.inside.prefix_len ≤ length bound) (sym c.as_slice-else-is_empty.ensures) (prefix_within _ c.self.invariant).1 in
    search rules

pub returns-else-is_empty : goal.returns-else-is_empty
returns-else-is_empty c =
    let low = rw c.as_slice.ensures at c.is_below.ensures in
    let high = rw c.as_slice-else-is_empty.ensures at c.is_below-else-is_empty.ensures in
    let bounded : c.self.inside.hi ≢ [] = λ none. let yes = c.is_empty.ensures.1 none in absurd cc in
    subst (λ m. IsTrue c.is_below-else-is_empty.result ↔ IsInRange m (whole m c.args.stored.now)) c.self.view_is (range_to_hi _ c.self.invariant c.args.stored.now c.is_below.result c.is_below-else-is_empty.result (cc) low bounded high)

pub returns-else-not-is_below : goal.returns-else-not-is_below
returns-else-not-is_below c =
    let low = rw c.as_slice.ensures at c.is_below.ensures in
    subst (λ m. IsTrue (not c.is_below.result) ↔ IsInRange m (whole m c.args.stored.now)) c.self.view_is (out_of_range _ c.self.invariant c.args.stored.now c.is_below.result (cc) low)
