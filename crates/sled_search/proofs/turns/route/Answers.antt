use Rattle.std.proofs.Common.{arith, refl, sym, ◌∙◌}
use Rattle.sled_node.specs.Children.{HasChildFor}
use Rattle.sled_node.specs.Node.{Child, IsInRange}
use Rattle.sled_search.proofs.Astray.{no-child}
use Rattle.sled_search.proofs.Leading.{leading-at}
use Rattle.sled_search.proofs.turns.route.Goals as goal

pub returns-then-not-contains_key : goal.returns-then-not-contains_key
returns-then-not-contains_key c = c.route_right.ensures c.args.key.now (grind (arith, c.contains_key.ensures, c.if-not-contains_key.true))

pub returns-then-has_child_for : goal.returns-then-has_child_for
returns-then-has_child_for c =
    let has : HasChildFor c.args.node.now c.args.key.now = c.has_child_for.ensures.0 (rw c.if-has_child_for.true refl) in
    (has.0, has.1, leading-at c.args.node.now.pairs c.args.key.now c.index_next_node-child.result.0 (Child c.index_next_node-child.result.1) c.index_next_node-child.ensures)

pub returns-then-is_index : goal.returns-then-is_index
returns-then-is_index c =
    let range : IsInRange c.args.node.now c.args.key.now = grind (arith, c.contains_key.ensures, c.if-not-contains_key.false) in
    no-child c.args.node.now c.args.key.now c.data.ensures.well_formed.ascending (sym c.is_index.ensures ∙ c.if-is_index.true) range (λ has. grind (arith, c.has_child_for.ensures.1 has, c.if-has_child_for.false))
