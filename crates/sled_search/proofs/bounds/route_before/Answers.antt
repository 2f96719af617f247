use Rattle.std.proofs.Common.{◌≡◌, ℕ, Option, None, sym, ◌∙◌, ap}
use Rattle.std.specs.Option.{option_map}
use Rattle.sled_node.specs.Node.{Child}
use Rattle.sled_search.specs.Ordered.{HasBefore, last_before}
use Rattle.sled_search.proofs.Counts.{child-leads, astray-before}
use Rattle.sled_search.proofs.bounds.route_before.Goals as goal

pub returns-in-Some : goal.returns-in-Some
returns-in-Some c =
    let n = c.args.node.now in
    let bound = c.args.bound.now in
    let has : HasBefore bound n = (c.contains_upper_bound.ensures.0 c.if-not-contains_upper_bound.false, c.contains_lower_bound.ensures.0 c.if-not-contains_lower_bound.false) in
    (sym c.is_index.ensures ∙ c.if-not-is_index.false, has, child-leads bound n.pairs c.count_before.result c.child_at.result c.count_before.ensures c.child_at.ensures ∙ ap (λ (o : Option ℕ). option_map Child o) c.in-Some.is)

pub returns-in-None : goal.returns-in-None
returns-in-None c =
    let n = c.args.node.now in
    let bound = c.args.bound.now in
    let has : HasBefore bound n = (c.contains_upper_bound.ensures.0 c.if-not-contains_upper_bound.false, c.contains_lower_bound.ensures.0 c.if-not-contains_lower_bound.false) in
    let none : last_before n.pairs bound ≡ None = child-leads bound n.pairs c.count_before.result c.child_at.result c.count_before.ensures c.child_at.ensures ∙ ap (λ (o : Option ℕ). option_map Child o) c.in-None.is in
    astray-before bound n (sym c.is_index.ensures ∙ c.if-not-is_index.false) has none
